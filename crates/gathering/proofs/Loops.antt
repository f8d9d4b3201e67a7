-- Loops over lists, one member more and at the end: lists that they gather, and whether some member passes a test. They tell of the members
-- that were taken (`take i xs`), or of those that are left (`drop i xs`).
use Rattle.std.proofs.Common.{◌≡◌, ℕ, zero, suc, ◌+◌, ◌<◌, ◌≤◌, min, List, [], ◌∷◌, ◌++◌, map, length, get_or, take, drop, refl, sym, ap, ap₂, ◌∙◌, append-nil, append_assoc, arith}
use Rattle.std.specs.Prelude.{nat_le, Bool, true, false, ◌||◌, if◌then◌else◌}
use Rattle.std.specs.List.{filter, flat_map, list_any, zip, range_with_len}
use Rattle.std.proofs.lemmas.List.{take_more, drop_all, map-append, at_drop_all}
use Rattle.std.proofs.lemmas.List.Concat.{flat_map-append}
use Rattle.std.proofs.lemmas.List.Elements.{filter-append}
use Rattle.std.proofs.lemmas.List.Folds.{list_any-append}
use Rattle.std.proofs.Math.Bool.{or-false}
use Rattle.basics.specs.Lists.{drop_item}
use Rattle.process_core.specs.Instance.{numbered, only_if}
use Rattle.gathering.proofs.Lists.{mapped_if}

-- ---- the lists themselves
-- one more of those that were taken
pub taken : {A : Type 0} (xs : List A) (i : ℕ) (x : A) → i < length xs → x ≡ get_or xs i x → take (i + 1) xs ≡ take i xs ++ x ∷ []
taken xs i x h e = take_more xs i x h ∙ ap (λ z. take i xs ++ z ∷ []) (sym e)

pub none_left : {A Z : Type 0} (F : List A → List Z) (total got : List Z) (xs : List A) (i : ℕ) → F [] ≡ [] → length xs ≤ i → got ++ F (drop i xs) ≡ total → got ≡ total
none_left F total got xs i none h so_far = sym (append-nil got) ∙ ap (λ l. got ++ l) (sym (at_drop_all F xs i h ∙ none)) ∙ so_far

-- a list for each member, told of those that are left
pub each_left : {B X : Type 0} (f : B → List X) (total old new : List X) (xs : List B) (i : ℕ) (x : B) → i < length xs → x ≡ get_or xs i x →
    old ++ flat_map f (drop i xs) ≡ total → new ≡ old ++ f x → new ++ flat_map f (drop (i + 1) xs) ≡ total
each_left f total old new xs i x h e so_far added =
    let rest = flat_map f (drop (i + 1) xs) in
    ap (λ l. l ++ rest) added
    ∙ append_assoc old (f x) rest
    ∙ ap (λ l. old ++ flat_map f l) (sym (drop_item xs i x h e))
    ∙ so_far

-- where the members are seen as something: an image of each
pub map_left : {B C X : Type 0} (f : C → X) (s : B → C) (total old new : List X) (xs : List B) (i : ℕ) (x : B) (y : X) → i < length xs → x ≡ get_or xs i x →
    old ++ map f (map s (drop i xs)) ≡ total → new ≡ old ++ y ∷ [] → y ≡ f (s x) → new ++ map f (map s (drop (i + 1) xs)) ≡ total
map_left f s total old new xs i x y h e so_far added here =
    let rest = map f (map s (drop (i + 1) xs)) in
    ap (λ l. l ++ rest) (added ∙ ap (λ z. old ++ z ∷ []) here)
    ∙ append_assoc old (f (s x) ∷ []) rest
    ∙ ap (λ l. old ++ map f (map s l)) (sym (drop_item xs i x h e))
    ∙ so_far

-- and a list for each
pub flat_left : {B C X : Type 0} (f : C → List X) (s : B → C) (total old new : List X) (xs : List B) (i : ℕ) (x : B) → i < length xs → x ≡ get_or xs i x →
    old ++ flat_map f (map s (drop i xs)) ≡ total → new ≡ old ++ f (s x) → new ++ flat_map f (map s (drop (i + 1) xs)) ≡ total
flat_left f s total old new xs i x h e so_far added =
    let rest = flat_map f (map s (drop (i + 1) xs)) in
    ap (λ l. l ++ rest) added
    ∙ append_assoc old (f (s x)) rest
    ∙ ap (λ l. old ++ flat_map f (map s l)) (sym (drop_item xs i x h e))
    ∙ so_far

-- ---- a list for each member, behind what was there before
pub flat_next : {X Y : Type 0} (f : X → List Y) (xs : List X) (i : ℕ) (x : X) (first old new : List Y) → i < length xs → x ≡ get_or xs i x → old ≡ first ++ flat_map f (take i xs) →
    new ≡ old ++ f x → new ≡ first ++ flat_map f (take (i + 1) xs)
flat_next f xs i x first old new h e so_far added =
    added
    ∙ ap₂ (λ a b. a ++ b) so_far (sym (append-nil (f x)))
    ∙ append_assoc first (flat_map f (take i xs)) (f x ++ [])
    ∙ ap (λ l. first ++ l) (sym (flat_map-append f (take i xs) (x ∷ [])) ∙ ap (flat_map f) (sym (taken xs i x h e)))

-- where what is gathered is seen as something
pub flat_after : {A B Y : Type 0} (view : Y → B) (f : A → List B) (before : List B) (xs : List A) (i : ℕ) (x : A) (old new added : List Y) → i < length xs → x ≡ get_or xs i x →
    map view old ≡ before ++ flat_map f (take i xs) → new ≡ old ++ added → map view added ≡ f x → map view new ≡ before ++ flat_map f (take (i + 1) xs)
flat_after view f before xs i x old new added h e so_far pushed here =
    flat_next f xs i x before (map view old) (map view new) h e so_far (ap (map view) pushed ∙ map-append view old added ∙ ap (λ l. map view old ++ l) here)

-- where the members are seen as something
pub flat_seen : {X Y Z : Type 0} (f : Y → List Z) (s : X → Y) (xs : List X) (i : ℕ) (x : X) (first old new : List Z) → i < length xs → x ≡ get_or xs i x →
    old ≡ first ++ flat_map f (map s (take i xs)) → new ≡ old ++ f (s x) → new ≡ first ++ flat_map f (map s (take (i + 1) xs))
flat_seen f s xs i x first old new h e so_far added =
    added
    ∙ ap₂ (λ a b. a ++ b) so_far (sym (append-nil (f (s x))))
    ∙ append_assoc first (flat_map f (map s (take i xs))) (f (s x) ++ [])
    ∙ ap (λ l. first ++ l)
    (sym (flat_map-append f (map s (take i xs)) (s x ∷ []))
    ∙ ap (flat_map f) (sym (map-append s (take i xs) (x ∷ [])) ∙ ap (map s) (sym (taken xs i x h e))))

-- ---- an image of each member
pub map_more : {A B Y : Type 0} (view : Y → B) (f : A → B) (xs : List A) (i : ℕ) (x : A) (old new : List Y) (y : Y) → i < length xs → x ≡ get_or xs i x →
    map view old ≡ map f (take i xs) → new ≡ old ++ y ∷ [] → view y ≡ f x → map view new ≡ map f (take (i + 1) xs)
map_more view f xs i x old new y h e so_far pushed here =
    ap (map view) pushed
    ∙ map-append view old (y ∷ [])
    ∙ ap₂ (λ a b. a ++ b ∷ []) so_far here
    ∙ sym (map-append f (take i xs) (x ∷ []))
    ∙ ap (map f) (sym (taken xs i x h e))

-- where the members are seen as something
pub mapped_more : {A B C X : Type 0} (view : A → X) (change : C → X) (source : B → C) (xs : List B) (ys new : List A) (i : ℕ) (x : B) (y : A) →
    i < length xs → x ≡ get_or xs i x → map view ys ≡ map change (map source (take i xs)) → view y ≡ change (source x) → new ≡ ys ++ y ∷ [] →
    map view new ≡ map change (map source (take (i + 1) xs))
mapped_more view change source xs ys new i x y h e so_far r pushed =
    ap (map view) pushed
    ∙ map-append view ys (y ∷ [])
    ∙ ap₂ (λ a b. a ++ b ∷ []) so_far r
    ∙ sym (map-append change (map source (take i xs)) (source x ∷ []))
    ∙ ap (map change) (sym (map-append source (take i xs) (x ∷ [])))
    ∙ ap (λ l. map change (map source l)) (sym (taken xs i x h e))

-- ---- the members that pass a test
pub kept_more : {A B : Type 0} (p : B → Bool) (s : A → B) (xs : List A) (i : ℕ) (x : A) → i < length xs → x ≡ get_or xs i x →
    filter p (map s (take (i + 1) xs)) ≡ filter p (map s (take i xs)) ++ only_if (p (s x)) (s x)
kept_more p s xs i x h e =
    ap (λ l. filter p (map s l)) (taken xs i x h e)
    ∙ ap (filter p) (map-append s (take i xs) (x ∷ []))
    ∙ filter-append p (map s (take i xs)) (s x ∷ [])
    ∙ ap (λ l. filter p (map s (take i xs)) ++ l) (one (p (s x)))
  where
    one : (b : Bool) → (if b then s x ∷ [] else []) ≡ only_if b (s x)
    one true = refl
    one false = refl

-- where what is gathered is seen as something
pub kept_step : {A B Y : Type 0} (view : Y → B) (p : B → Bool) (s : A → B) (xs : List A) (i : ℕ) (x : A) (y : Y) (w : Bool) (old new : List Y) → i < length xs → x ≡ get_or xs i x →
    map view old ≡ filter p (map s (take i xs)) → view y ≡ s x → w ≡ p (s x) → new ≡ old ++ only_if w y → map view new ≡ filter p (map s (take (i + 1) xs))
kept_step {B = B} view p s xs i x y w old new h e so_far here test pushed =
    mapped_if view w y old new pushed
    ∙ ap₂ (λ (l m : List B). l ++ m) so_far (ap₂ (λ (b : Bool) (z : B). only_if b z) test here)
    ∙ sym (kept_more p s xs i x h e)

-- ---- lists that are gone through together, told of what is left
-- a list for each pair
pub paired_flat : {A B Z : Type 0} (F : List A → List B → List Z) (f : A → B → List Z) →
    ((x : A) (e : B) (xs : List A) (es : List B) → F (x ∷ xs) (e ∷ es) ≡ f x e ++ F xs es) →
    (total got more : List Z) (xs : List A) (es : List B) (i : ℕ) (x : A) (e : B) →
    i < length xs → i < length es → x ≡ get_or xs i x → e ≡ get_or es i e →
    got ++ F (drop i xs) (drop i es) ≡ total → more ≡ got ++ f x e → more ++ F (drop (i + 1) xs) (drop (i + 1) es) ≡ total
paired_flat F f step total got more xs es i x e hx he ex ee so_far added =
    ap (λ l. l ++ F (drop (i + 1) xs) (drop (i + 1) es)) added
    ∙ append_assoc got (f x e) (F (drop (i + 1) xs) (drop (i + 1) es))
    ∙ ap (λ l. got ++ l) (sym (step x e (drop (i + 1) xs) (drop (i + 1) es)) ∙ sym (ap₂ F (drop_item xs i x hx ex) (drop_item es i e he ee)))
    ∙ so_far

-- one member for each pair, where what is gathered is seen as something
pub paired_more : {A B Y Z : Type 0} (view : Y → Z) (F : List A → List B → List Z) (f : A → B → Z) →
    ((x : A) (e : B) (xs : List A) (es : List B) → F (x ∷ xs) (e ∷ es) ≡ f x e ∷ F xs es) →
    (total : List Z) (xs : List A) (es : List B) (i : ℕ) (x : A) (e : B) (old new : List Y) (y : Y) →
    i < length xs → i < length es → x ≡ get_or xs i x → e ≡ get_or es i e →
    map view old ++ F (drop i xs) (drop i es) ≡ total → view y ≡ f x e → new ≡ old ++ y ∷ [] →
    map view new ++ F (drop (i + 1) xs) (drop (i + 1) es) ≡ total
paired_more view F f step total xs es i x e old new y hx he ex ee so_far here pushed =
    paired_flat F (λ a b. f a b ∷ []) step total (map view old) (map view new) xs es i x e hx he ex ee so_far
    (ap (map view) pushed ∙ map-append view old (y ∷ []) ∙ ap (λ z. map view old ++ z ∷ []) here)

-- and at the end
pub paired_all : {A B Z : Type 0} (F : List A → List B → List Z) → ((es : List B) → F [] es ≡ []) → ((xs : List A) → F xs [] ≡ []) →
    (total got : List Z) (xs : List A) (es : List B) (n i : ℕ) → n ≡ min (length xs) (length es) → n ≤ i → got ++ F (drop i xs) (drop i es) ≡ total → got ≡ total
paired_all F no_left no_right total got xs es n i m h so_far = sym (append-nil got) ∙ ap (λ l. got ++ l) (sym (rest _ refl)) ∙ so_far
  where
    rest : (b : Bool) → b ≡ nat_le (length xs) (length es) → F (drop i xs) (drop i es) ≡ []
    rest true b = ap (λ l. F l (drop i es)) (drop_all i xs (grind arith)) ∙ no_left _
    rest false b = ap (F (drop i xs)) (drop_all i es (grind arith)) ∙ no_right _

pub flat_zip_none : {A B Z : Type 0} (f : A → B → List Z) (xs : List A) → flat_map (λ p. f p.0 p.1) (zip xs []) ≡ []
flat_zip_none f [] = refl
flat_zip_none f (x ∷ xs) = refl

-- ---- numbered lists, told of what is left
pub numbered_step : {A B Z : Type 0} (f : ℕ → B → List Z) (s : A → B) (total old new added : List Z) (xs : List A) (i : ℕ) (x : A) →
    i < length xs → x ≡ get_or xs i x → old ++ numbered f i (map s (drop i xs)) ≡ total → added ≡ f i (s x) → new ≡ old ++ added →
    new ++ numbered f (i + 1) (map s (drop (i + 1) xs)) ≡ total
numbered_step f s total old new added xs i x h e so_far here pushed =
    ap (λ l. l ++ numbered f (i + 1) (map s (drop (i + 1) xs))) pushed
    ∙ append_assoc old added (numbered f (i + 1) (map s (drop (i + 1) xs)))
    ∙ ap (λ z. old ++ (z ++ numbered f (i + 1) (map s (drop (i + 1) xs)))) here
    ∙ ap (λ l. old ++ numbered f i (map s l)) (sym (drop_item xs i x h e))
    ∙ so_far

pub numbered_all : {A B Z : Type 0} (f : ℕ → B → List Z) (s : A → B) (total got : List Z) (xs : List A) (i : ℕ) → length xs ≤ i → got ++ numbered f i (map s (drop i xs)) ≡ total → got ≡ total
numbered_all f s total got xs i h so_far = none_left (λ l. numbered f i (map s l)) total got xs i refl h so_far

-- where what is gathered is seen as something
pub numbered_more : {A B Y Z : Type 0} (view : Y → Z) (f : ℕ → B → List Z) (source : A → B) (total : List Z) (xs : List A) (i : ℕ) (x : A) (old new added : List Y) →
    i < length xs → x ≡ get_or xs i x → map view old ++ numbered f i (map source (drop i xs)) ≡ total → map view added ≡ f i (source x) → new ≡ old ++ added →
    map view new ++ numbered f (i + 1) (map source (drop (i + 1) xs)) ≡ total
numbered_more view f source total xs i x old new added h e so_far here pushed =
    numbered_step f source total (map view old) (map view new) (map view added) xs i x h e so_far here (ap (map view) pushed ∙ map-append view old added)

-- numbers in a row, one more
pub range_more : (a n : ℕ) → range_with_len a (n + 1) ≡ range_with_len a n ++ (a + n) ∷ []
range_more a zero = ap (λ m. m ∷ []) (let e : a ≡ a + 0 = omega arith in e)
range_more a (suc n) =
    ap (range_with_len a) (let e : suc n + 1 ≡ suc (n + 1) = omega arith in e)
    ∙ ap (λ l. a ∷ l) (range_more (a + 1) n)
    ∙ ap (λ m. a ∷ range_with_len (a + 1) n ++ m ∷ []) (let e : a + 1 + n ≡ a + suc n = omega arith in e)

-- ---- whether some member passes a test
-- of those that were taken
pub any_next : {X Y : Type 0} (p : Y → Bool) (s : X → Y) (xs : List X) (i : ℕ) (x : X) → i < length xs → x ≡ get_or xs i x →
    list_any p (map s (take (i + 1) xs)) ≡ (list_any p (map s (take i xs)) || p (s x))
any_next p s xs i x h e =
    ap (λ l. list_any p (map s l)) (taken xs i x h e)
    ∙ ap (list_any p) (map-append s (take i xs) (x ∷ []))
    ∙ list_any-append p (map s (take i xs)) (s x ∷ [])
    ∙ ap (λ b. list_any p (map s (take i xs)) || b) (or-false (p (s x)))

-- behind what was noted before
pub any_more : {X Y : Type 0} (p : Y → Bool) (s : X → Y) (xs : List X) (i : ℕ) (x : X) (first old new : Bool) → i < length xs → x ≡ get_or xs i x →
    old ≡ (first || list_any p (map s (take i xs))) → new ≡ (old || p (s x)) → new ≡ (first || list_any p (map s (take (i + 1) xs)))
any_more p s xs i x first old new h e so_far next =
    next
    ∙ ap (λ b. b || p (s x)) so_far
    ∙ assoc first
    ∙ ap (λ b. first || b) (sym (any_next p s xs i x h e))
  where
    assoc : (a : Bool) → ((a || list_any p (map s (take i xs))) || p (s x)) ≡ (a || (list_any p (map s (take i xs)) || p (s x)))
    assoc true = refl
    assoc false = refl

-- of those that are left: one that doesn't
pub any_left : {X Y : Type 0} (p : Y → Bool) (s : X → Y) (xs : List X) (i : ℕ) (x : X) (total : Bool) → i < length xs → x ≡ get_or xs i x → p (s x) ≡ false →
    list_any p (map s (drop i xs)) ≡ total → list_any p (map s (drop (i + 1) xs)) ≡ total
any_left p s xs i x total h e not_it so_far =
    sym (ap (λ l. list_any p (map s l)) (drop_item xs i x h e) ∙ ap (λ b. b || list_any p (map s (drop (i + 1) xs))) not_it) ∙ so_far

-- one that does
pub any_here : {X Y : Type 0} (p : Y → Bool) (s : X → Y) (xs : List X) (i : ℕ) (x : X) (total : Bool) → i < length xs → x ≡ get_or xs i x → p (s x) ≡ true →
    list_any p (map s (drop i xs)) ≡ total → total ≡ true
any_here p s xs i x total h e it so_far =
    sym so_far ∙ ap (λ l. list_any p (map s l)) (drop_item xs i x h e) ∙ ap (λ b. b || list_any p (map s (drop (i + 1) xs))) it
