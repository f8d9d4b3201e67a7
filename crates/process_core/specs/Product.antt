-- One from each of several lists, in every way, the last varying fastest: the product of lists, as in plain mathematics.
-- (PRISM manual, "The PRISM Language", "Synchronisation"; jani-model specification, "Compositions".)
use Rattle.std.specs.Prelude.{◌≡◌, ℕ, ◌*◌, List, [], ◌∷◌, ◌++◌, map, length}
use Rattle.std.specs.List.{flat_map, All, AllZip, fold}
use Rattle.std.proofs.Common.{refl, sym, ap, ap₂, ◌∙◌, append-nil, append_assoc, map-id, arith, length-append}
use Rattle.std.proofs.lemmas.List.{map-append, length-map}
use Rattle.std.proofs.lemmas.List.Folds.{flat_map-map}
use Rattle.std.proofs.lemmas.List.Concat.{flat_map-append, flat_map_single}
use Rattle.std.proofs.lemmas.List.Elements.{All-nil, All-cons, All-head, All-tail, All-append}
use Rattle.basics.specs.Lists.{map_agree}
use Rattle.process_core.specs.Zip.{AllZip-flat_map, AllZip-maps}

abbrev pub one_of_each : {X : Type 0} → List (List X) → List (List X)
one_of_each [] = [] ∷ []
one_of_each (xs ∷ xss) = flat_map (λ x. map (λ r. x ∷ r) (one_of_each xss)) xs

-- the product of numbers
abbrev pub multiplied : List ℕ → ℕ
multiplied [] = 1
multiplied (n ∷ ns) = n * multiplied ns

-- ---- maps and walks
pub map-map : {A B C : Type 0} (g : B → C) (f : A → B) (xs : List A) → map g (map f xs) ≡ map (λ x. g (f x)) xs
map-map g f [] = refl
map-map g f (x ∷ xs) = ap (λ r. g (f x) ∷ r) (map-map g f xs)

pub map_agree_in : {A B : Type 0} (f g : A → B) (xs : List A) → All (λ x. f x ≡ g x) xs → map f xs ≡ map g xs
map_agree_in f g [] h = refl
map_agree_in f g (x ∷ xs) h = ap₂ (λ a b. a ∷ b) (All-head (λ x. f x ≡ g x) x xs h) (map_agree_in f g xs (All-tail (λ x. f x ≡ g x) x xs h))

pub map-flat_map : {A B C : Type 0} (g : B → C) (f : A → List B) (xs : List A) → map g (flat_map f xs) ≡ flat_map (λ x. map g (f x)) xs
map-flat_map g f [] = refl
map-flat_map g f (x ∷ xs) = map-append g (f x) (flat_map f xs) ∙ ap (λ r. map g (f x) ++ r) (map-flat_map g f xs)

pub flat_map_agree : {A B : Type 0} (f g : A → List B) → ((x : A) → f x ≡ g x) → (xs : List A) → flat_map f xs ≡ flat_map g xs
flat_map_agree f g h [] = refl
flat_map_agree f g h (x ∷ xs) = ap₂ (λ a b. a ++ b) (h x) (flat_map_agree f g h xs)

pub flat_map-flat_map : {A B C : Type 0} (h : B → List C) (f : A → List B) (xs : List A) → flat_map h (flat_map f xs) ≡ flat_map (λ x. flat_map h (f x)) xs
flat_map-flat_map h f [] = refl
flat_map-flat_map h f (x ∷ xs) = flat_map-append h (f x) (flat_map f xs) ∙ ap (λ r. flat_map h (f x) ++ r) (flat_map-flat_map h f xs)

-- ---- products
-- a change of each member goes through the product
pub one_of_each-map : {X Y : Type 0} (f : X → Y) (xss : List (List X)) → one_of_each (map (map f) xss) ≡ map (map f) (one_of_each xss)
one_of_each-map f [] = refl
one_of_each-map f (xs ∷ xss) =
    flat_map-map (λ x. map (λ r. x ∷ r) (one_of_each (map (map f) xss))) f xs
    ∙ flat_map_agree _ _ (λ x. ap (map (λ r. f x ∷ r)) (one_of_each-map f xss) ∙ map-map (λ r. f x ∷ r) (map f) (one_of_each xss) ∙ sym (map-map (map f) (λ r. x ∷ r) (one_of_each xss))) xs
    ∙ sym (map-flat_map (map f) (λ x. map (λ r. x ∷ r) (one_of_each xss)) xs)

flat_map_nothing : {A B : Type 0} (f : A → List B) → ((x : A) → f x ≡ []) → (xs : List A) → flat_map f xs ≡ []
flat_map_nothing f h [] = refl
flat_map_nothing f h (x ∷ xs) = ap₂ (λ a b. a ++ b) (h x) (flat_map_nothing f h xs)

-- none where a list has no member
pub one_of_each_none : {X : Type 0} (xss yss : List (List X)) → one_of_each (xss ++ [] ∷ yss) ≡ []
one_of_each_none [] yss = refl
one_of_each_none (xs ∷ xss) yss = flat_map_nothing (λ x. map (λ r. x ∷ r) (one_of_each (xss ++ [] ∷ yss))) (λ x. ap (map (λ r. x ∷ r)) (one_of_each_none xss yss)) xs

-- a list with one member adds it to each
pub one_of_each_single : {X : Type 0} (x : X) (xss : List (List X)) → one_of_each ((x ∷ []) ∷ xss) ≡ map (λ r. x ∷ r) (one_of_each xss)
one_of_each_single x xss = append-nil (map (λ r. x ∷ r) (one_of_each xss))

-- of two lists of lists joined
pub one_of_each-append : {X : Type 0} (xss yss : List (List X)) → one_of_each (xss ++ yss) ≡ flat_map (λ r. map (λ q. r ++ q) (one_of_each yss)) (one_of_each xss)
one_of_each-append [] yss = sym (append-nil (map (λ q. [] ++ q) (one_of_each yss)) ∙ map-id (one_of_each yss))
one_of_each-append (xs ∷ xss) yss =
    let C = one_of_each xss in
    let Y = one_of_each yss in
    flat_map_agree (λ x. map (λ r. x ∷ r) (one_of_each (xss ++ yss))) (λ x. flat_map (λ r. map (λ q. x ∷ r ++ q) Y) C)
    (λ x. ap (map (λ r. x ∷ r)) (one_of_each-append xss yss) ∙ map-flat_map (λ r. x ∷ r) (λ r. map (λ q. r ++ q) Y) C ∙ flat_map_agree _ _ (λ r. map-map (λ r. x ∷ r) (λ q. r ++ q) Y) C) xs
    ∙ flat_map_agree _ _ (λ x. sym (flat_map-map (λ r. map (λ q. r ++ q) Y) (λ r. x ∷ r) C)) xs
    ∙ sym (flat_map-flat_map (λ r. map (λ q. r ++ q) Y) (λ x. map (λ r. x ∷ r) C) xs)

-- a last list with one member adds it at the end of each
pub one_of_each_last : {X : Type 0} (xss : List (List X)) (y : X) → one_of_each (xss ++ (y ∷ []) ∷ []) ≡ map (λ r. r ++ y ∷ []) (one_of_each xss)
one_of_each_last xss y = one_of_each-append xss ((y ∷ []) ∷ []) ∙ flat_map_single (λ r. r ++ y ∷ []) (one_of_each xss)

-- how many there are
length-walk : {X : Type 0} (xs : List X) (rs : List (List X)) → length (flat_map (λ x. map (λ r. x ∷ r) rs) xs) ≡ length xs * length rs
length-walk [] rs = omega arith
length-walk (x ∷ xs) rs =
    let e = length-append (map (λ r. x ∷ r) rs) (flat_map (λ x. map (λ r. x ∷ r) rs) xs) in
    let f = length-map rs (λ r. x ∷ r) in
    let ih = length-walk xs rs in
    omega arith

pub length-one_of_each : {X : Type 0} (xss : List (List X)) → length (one_of_each xss) ≡ multiplied (map length xss)
length-one_of_each [] = refl
length-one_of_each (xs ∷ xss) = length-walk xs (one_of_each xss) ∙ ap (λ n. length xs * n) (length-one_of_each xss)

-- what holds of the members of the lists holds of what is taken from them
All-each : {X : Type 0} (P : X → Type 0) (x : X) → P x → (rs : List (List X)) → All (All P) rs → All (All P) (map (λ r. x ∷ r) rs)
All-each P x p [] h = All-nil (All P)
All-each P x p (r ∷ rs) h =
    All-cons (All P) (x ∷ r) (map (λ r. x ∷ r) rs) (All-cons P x r p (All-head (All P) r rs h)) (All-each P x p rs (All-tail (All P) r rs h))

All-walk : {X : Type 0} (P : X → Type 0) (xs : List X) (rs : List (List X)) → All P xs → All (All P) rs → All (All P) (flat_map (λ x. map (λ r. x ∷ r) rs) xs)
All-walk P [] rs h k = All-nil (All P)
All-walk P (x ∷ xs) rs h k =
    All-append (All P) (map (λ r. x ∷ r) rs) (flat_map (λ x. map (λ r. x ∷ r) rs) xs) (All-each P x (All-head P x xs h) rs k) (All-walk P xs rs (All-tail P x xs h) k)

pub All-one_of_each : {X : Type 0} (P : X → Type 0) (xss : List (List X)) → All (All P) xss → All (All P) (one_of_each xss)
All-one_of_each P [] h = All-cons (All P) [] [] (All-nil P) (All-nil (All P))
All-one_of_each P (xs ∷ xss) h =
    All-walk P xs (one_of_each xss) (All-head (All P) xs xss h) (All-one_of_each P xss (All-tail (All P) xs xss h))

-- related lists have related products, place by place
walk_alike : {X Y : Type 0} (R : X → Y → Type 0) (xs : List X) (ys : List Y) (rs : List (List X)) (qs : List (List Y)) → AllZip R xs ys → AllZip (AllZip R) rs qs →
    AllZip (AllZip R) (flat_map (λ x. map (λ r. x ∷ r) rs) xs) (flat_map (λ y. map (λ q. y ∷ q) qs) ys)
walk_alike R xs ys rs qs h k =
    AllZip-flat_map R (AllZip R) (λ x. map (λ r. x ∷ r) rs) (λ y. map (λ q. y ∷ q) qs)
    (λ x y t. AllZip-maps (AllZip R) (AllZip R) (λ r. x ∷ r) (λ q. y ∷ q) (λ r q u. (t, u)) rs qs k) xs ys h

pub one_of_each_alike : {X Y : Type 0} (R : X → Y → Type 0) (xss : List (List X)) (yss : List (List Y)) → AllZip (AllZip R) xss yss → AllZip (AllZip R) (one_of_each xss) (one_of_each yss)
one_of_each_alike R [] [] h = (tt, tt)
one_of_each_alike R [] (ys ∷ yss) h = absurd h
one_of_each_alike R (xs ∷ xss) [] h = absurd h
one_of_each_alike R (xs ∷ xss) (ys ∷ yss) h = walk_alike R xs ys (one_of_each xss) (one_of_each yss) h.0 (one_of_each_alike R xss yss h.1)

-- ---- built from the front, as a program does it
-- each front with each member added
abbrev pub extended : {X : Type 0} → List (List X) → List X → List (List X)
extended fronts xs = flat_map (λ p. map (λ x. p ++ x ∷ []) xs) fronts

unchanged : {X : Type 0} (fronts : List (List X)) → fronts ≡ flat_map (λ p. map (λ r. p ++ r) (one_of_each [])) fronts
unchanged [] = refl
unchanged (p ∷ ps) = ap₂ (λ a b. a ∷ b) (sym (append-nil p)) (unchanged ps)

pub extended_from : {X : Type 0} (fronts : List (List X)) (xss : List (List X)) → fold extended fronts xss ≡ flat_map (λ p. map (λ r. p ++ r) (one_of_each xss)) fronts
extended_from fronts [] = unchanged fronts
extended_from fronts (xs ∷ xss) =
    let C = one_of_each xss in
    extended_from (extended fronts xs) xss
    ∙ flat_map-flat_map (λ p. map (λ r. p ++ r) C) (λ p. map (λ x. p ++ x ∷ []) xs) fronts
    ∙ flat_map_agree (λ p. flat_map (λ q. map (λ r. q ++ r) C) (map (λ x. p ++ x ∷ []) xs)) (λ p. map (λ r. p ++ r) (flat_map (λ x. map (λ r. x ∷ r) C) xs))
    (λ p. flat_map-map (λ q. map (λ r. q ++ r) C) (λ x. p ++ x ∷ []) xs
    ∙ flat_map_agree (λ x. map (λ r. (p ++ x ∷ []) ++ r) C) (λ x. map (λ r. p ++ r) (map (λ r. x ∷ r) C)) (λ x. map_agree (λ r. (p ++ x ∷ []) ++ r) (λ r. p ++ x ∷ r) (λ r. append_assoc p (x ∷ []) r) C ∙ sym (map-map (λ r. p ++ r) (λ r. x ∷ r) C)) xs
    ∙ sym (map-flat_map (λ r. p ++ r) (λ x. map (λ r. x ∷ r) C) xs)) fronts

-- from the one empty front, the product
pub extended_all : {X : Type 0} (xss : List (List X)) → fold extended ([] ∷ []) xss ≡ one_of_each xss
extended_all xss = extended_from ([] ∷ []) xss ∙ append-nil _ ∙ map-id (one_of_each xss)
