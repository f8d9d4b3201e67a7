-- Lists that are walked through: what agrees at their members, filters, tests, and facts of all members.
use Rattle.std.specs.Prelude.{◌≡◌, List, [], ◌∷◌, ◌++◌, map, Bool, true, false, ◌&&◌, ◌||◌, cond, Some, if◌then◌else◌, get_or}
use Rattle.std.specs.List.{flat_map, filter, find, list_any, All, AllZip}
use Rattle.std.proofs.Common.{refl, sym, ap, ap₂, subst, ◌∙◌}
use Rattle.std.proofs.lemmas.Bool.{or_right}
use Rattle.std.proofs.lemmas.List.Elements.{filter-append, All-nil, All-cons, All-head, All-tail, All-weaker, All-append}
use Rattle.std.proofs.lemmas.List.Folds.{list_any-append}
use Rattle.basics.specs.Members.{any_two, any_never}
use Rattle.choice_laws.proofs.Truths.{and_or}

-- ---- parts of what is the same
pub cons_parts : {X : Type 0} (x y : X) (xs ys : List X) → (x ∷ xs) ≡ (y ∷ ys) → (x ≡ y) × (xs ≡ ys)
cons_parts x y xs ys e = (cc, cc)

-- ---- facts of all members
pub All-flat_map : {X Y : Type 0} (P : Y → Type 0) (f : X → List Y) (xs : List X) → All (λ x. All P (f x)) xs → All P (flat_map f xs)
All-flat_map P f [] h = All-nil P
All-flat_map P f (x ∷ xs) h = All-append P (f x) (flat_map f xs) (All-head (λ x. All P (f x)) x xs h) (All-flat_map P f xs (All-tail (λ x. All P (f x)) x xs h))

pub All-front : {X : Type 0} (P : X → Type 0) (xs ys : List X) → All P (xs ++ ys) → All P xs
All-front P [] ys h = All-nil P
All-front P (x ∷ xs) ys h = All-cons P x xs (All-head P x (xs ++ ys) h) (All-front P xs ys (All-tail P x (xs ++ ys) h))

pub All-back : {X : Type 0} (P : X → Type 0) (xs ys : List X) → All P (xs ++ ys) → All P ys
All-back P [] ys h = h
All-back P (x ∷ xs) ys h = All-back P xs ys (All-tail P x (xs ++ ys) h)

-- a list related to itself through two maps, where each member is
pub AllZip-maps_in : {A B C : Type 0} (R : B → C → Type 0) (f : A → B) (g : A → C) (xs : List A) → All (λ x. R (f x) (g x)) xs → AllZip R (map f xs) (map g xs)
AllZip-maps_in R f g [] h = tt
AllZip-maps_in R f g (x ∷ xs) h = (All-head (λ x. R (f x) (g x)) x xs h, AllZip-maps_in R f g xs (All-tail (λ x. R (f x) (g x)) x xs h))

-- ---- what agrees at the members
pub flat_map_agree_in : {A B : Type 0} (f g : A → List B) (xs : List A) → All (λ x. f x ≡ g x) xs → flat_map f xs ≡ flat_map g xs
flat_map_agree_in f g [] h = refl
flat_map_agree_in f g (x ∷ xs) h = ap₂ (λ a b. a ++ b) (All-head (λ x. f x ≡ g x) x xs h) (flat_map_agree_in f g xs (All-tail (λ x. f x ≡ g x) x xs h))

pub flat_map_none : {X Y : Type 0} (f : X → List Y) (xs : List X) → All (λ x. f x ≡ []) xs → flat_map f xs ≡ []
flat_map_none f [] h = refl
flat_map_none f (x ∷ xs) h = ap₂ (λ a b. a ++ b) (All-head (λ x. f x ≡ []) x xs h) (flat_map_none f xs (All-tail (λ x. f x ≡ []) x xs h))

pub filter_agree_in : {A : Type 0} (p q : A → Bool) (xs : List A) → All (λ x. p x ≡ q x) xs → filter p xs ≡ filter q xs
filter_agree_in p q [] h = refl
filter_agree_in p q (x ∷ xs) h =
    ap₂ (λ b l. cond b (x ∷ l) l) (All-head (λ x. p x ≡ q x) x xs h) (filter_agree_in p q xs (All-tail (λ x. p x ≡ q x) x xs h))

pub any_agree_in : {A : Type 0} (p q : A → Bool) (xs : List A) → All (λ x. p x ≡ q x) xs → list_any p xs ≡ list_any q xs
any_agree_in p q [] h = refl
any_agree_in p q (x ∷ xs) h = ap₂ (λ a b. a || b) (All-head (λ x. p x ≡ q x) x xs h) (any_agree_in p q xs (All-tail (λ x. p x ≡ q x) x xs h))

-- ---- filters
pub filter_none : {A : Type 0} (q : A → Bool) (xs : List A) → All (λ x. q x ≡ false) xs → filter q xs ≡ []
filter_none q [] h = refl
filter_none q (x ∷ xs) h = ap₂ (λ b l. cond b (x ∷ l) l) (All-head (λ x. q x ≡ false) x xs h) (filter_none q xs (All-tail (λ x. q x ≡ false) x xs h))

pub filter_all : {A : Type 0} (xs : List A) → filter (λ x. true) xs ≡ xs
filter_all [] = refl
filter_all (x ∷ xs) = ap (λ l. x ∷ l) (filter_all xs)

pub if_nil : {A : Type 0} (b : Bool) → ◌≡◌ {A = List A} (cond b [] []) []
if_nil true = refl
if_nil false = refl

pub filter-flat_map : {A B : Type 0} (q : B → Bool) (f : A → List B) (xs : List A) → filter q (flat_map f xs) ≡ flat_map (λ x. filter q (f x)) xs
filter-flat_map q f [] = refl
filter-flat_map q f (x ∷ xs) = filter-append q (f x) (flat_map f xs) ∙ ap (λ l. filter q (f x) ++ l) (filter-flat_map q f xs)

pub filter-filter : {A : Type 0} (p q : A → Bool) (xs : List A) → filter p (filter q xs) ≡ filter (λ x. q x && p x) xs
filter-filter p q [] = refl
filter-filter p q (x ∷ xs) = by_test (q x) (filter-filter p q xs)
  where
    by_test : (b : Bool) → filter p (filter q xs) ≡ filter (λ x. q x && p x) xs →
        filter p (cond b (x ∷ filter q xs) (filter q xs)) ≡ cond (b && p x) (x ∷ filter (λ x. q x && p x) xs) (filter (λ x. q x && p x) xs)
    by_test true e = ap (λ l. cond (p x) (x ∷ l) l) e
    by_test false e = e

-- those that pass, as a walk
pub filter_walk : {A B : Type 0} (q : A → Bool) (f : A → B) (xs : List A) → flat_map (λ x. if q x then f x ∷ [] else []) xs ≡ map f (filter q xs)
filter_walk q f [] = refl
filter_walk q f (x ∷ xs) = by_test (q x) (filter_walk q f xs)
  where
    by_test : (b : Bool) → flat_map (λ x. if q x then f x ∷ [] else []) xs ≡ map f (filter q xs) →
        (if b then f x ∷ [] else []) ++ flat_map (λ x. if q x then f x ∷ [] else []) xs ≡ map f (cond b (x ∷ filter q xs) (filter q xs))
    by_test true e = ap (λ l. f x ∷ l) e
    by_test false e = e

-- of the members those that fail the test give nothing, and the others what h gives
pub kept_walk_in : {X Y : Type 0} (p : X → Bool) (g h : X → List Y) (xs : List X) → All (λ x. (p x ≡ true → g x ≡ h x) × (p x ≡ false → g x ≡ [])) xs →
    flat_map g xs ≡ flat_map h (filter p xs)
kept_walk_in p g h [] k = refl
kept_walk_in p g h (x ∷ xs) k =
    by_test (p x) refl (All-head (λ x. (p x ≡ true → g x ≡ h x) × (p x ≡ false → g x ≡ [])) x xs k) (kept_walk_in p g h xs (All-tail (λ x. (p x ≡ true → g x ≡ h x) × (p x ≡ false → g x ≡ [])) x xs k))
  where
    by_test : (b : Bool) → p x ≡ b → (p x ≡ true → g x ≡ h x) × (p x ≡ false → g x ≡ []) → flat_map g xs ≡ flat_map h (filter p xs) →
        flat_map g (x ∷ xs) ≡ flat_map h (cond b (x ∷ filter p xs) (filter p xs))
    by_test true e f i = ap₂ (λ a b. a ++ b) (f.0 e) i
    by_test false e f i = ap₂ (λ a b. a ++ b) (f.1 e) i

pub kept_walk : {X Y : Type 0} (p : X → Bool) (g h : X → List Y) → ((x : X) → p x ≡ true → g x ≡ h x) → ((x : X) → p x ≡ false → g x ≡ []) → (xs : List X) →
    flat_map g xs ≡ flat_map h (filter p xs)
kept_walk p g h k n xs = kept_walk_in p g h xs (λ i d l. let x = get_or xs i d in (k x, n x))

-- ---- some member passes

pub any-flat_map : {A B : Type 0} (q : B → Bool) (f : A → List B) (xs : List A) → list_any q (flat_map f xs) ≡ list_any (λ x. list_any q (f x)) xs
any-flat_map q f [] = refl
any-flat_map q f (x ∷ xs) = list_any-append q (f x) (flat_map f xs) ∙ ap (λ b. list_any q (f x) || b) (any-flat_map q f xs)

pub any-filter : {X : Type 0} (q p : X → Bool) (xs : List X) → list_any q (filter p xs) ≡ list_any (λ x. p x && q x) xs
any-filter q p [] = refl
any-filter q p (x ∷ xs) = by_test (p x) (any-filter q p xs)
  where
    by_test : (b : Bool) → list_any q (filter p xs) ≡ list_any (λ x. p x && q x) xs →
        list_any q (cond b (x ∷ filter p xs) (filter p xs)) ≡ ((b && q x) || list_any (λ x. p x && q x) xs)
    by_test true e = ap (λ b. q x || b) e
    by_test false e = e

pub any_and : {X : Type 0} (p : X → Bool) (b : Bool) (xs : List X) → list_any (λ x. p x && b) xs ≡ (list_any p xs && b)
any_and p b [] = refl
any_and p b (x ∷ xs) = ap (λ c. (p x && b) || c) (any_and p b xs) ∙ and_or (p x) (list_any p xs) b

-- the order of two tests is free
pub any_exchange : {X Y : Type 0} (f : X → Y → Bool) (xs : List X) (ys : List Y) → list_any (λ x. list_any (f x) ys) xs ≡ list_any (λ y. list_any (λ x. f x y) xs) ys
any_exchange f [] ys = sym (any_never ys)
any_exchange f (x ∷ xs) ys = ap (λ b. list_any (f x) ys || b) (any_exchange f xs ys) ∙ sym (any_two (f x) (λ y. list_any (λ x. f x y) xs) ys)

pub has_any : {X : Type 0} (q : X → Bool) (xs : List X) → All (λ x. q x ≡ true → list_any q xs ≡ true) xs
has_any q [] = All-nil (λ x. q x ≡ true → list_any q [] ≡ true)
has_any q (x ∷ xs) =
    All-cons (λ y. q y ≡ true → list_any q (x ∷ xs) ≡ true) x xs (λ h. ap (λ b. b || list_any q xs) h)
    (All-weaker (λ y. q y ≡ true → list_any q xs ≡ true) (λ y. q y ≡ true → list_any q (x ∷ xs) ≡ true) (λ y f h. or_right (q x) (list_any q xs) (f h)) xs (has_any q xs))

-- ---- something is left
abbrev pub has_some : {A : Type 0} → List A → Bool
has_some [] = false
has_some (x ∷ xs) = true

pub any_left : {A : Type 0} (q : A → Bool) (xs : List A) → list_any q xs ≡ has_some (filter q xs)
any_left q [] = refl
any_left q (x ∷ xs) = by_test (q x) (any_left q xs)
  where
    by_test : (b : Bool) → list_any q xs ≡ has_some (filter q xs) → (b || list_any q xs) ≡ has_some (cond b (x ∷ filter q xs) (filter q xs))
    by_test true e = refl
    by_test false e = e

pub some-append : {A : Type 0} (xs ys : List A) → has_some (xs ++ ys) ≡ (has_some xs || has_some ys)
some-append [] ys = refl
some-append (x ∷ xs) ys = refl

pub some-map : {A B : Type 0} (f : A → B) (xs : List A) → has_some (map f xs) ≡ has_some xs
some-map f [] = refl
some-map f (x ∷ xs) = refl

-- ---- the first that passes
-- what holds of all holds of it
pub found_has : {X : Type 0} (P : X → Type 0) (p : X → Bool) (u : X) (xs : List X) → All P xs → find p xs ≡ Some u → P u
found_has P p u [] l e = absurd cc
found_has P p u (x ∷ xs) l e = by_test (p x) e (found_has P p u xs (All-tail P x xs l))
  where
    by_test : (b : Bool) → (if b then Some x else find p xs) ≡ Some u → (find p xs ≡ Some u → P u) → P u
    by_test true g ih = let f : x ≡ u = cc in subst P f (All-head P x xs l)
    by_test false g ih = ih g
