-- Lists that are related place by place.
use Rattle.std.specs.Prelude.{◌≡◌, ℕ, ◌+◌, ◌<◌, List, [], ◌∷◌, ◌++◌, map, length, take, get_or, Bool, true, false, ◌||◌, cond}
use Rattle.std.specs.List.{flat_map, filter, list_any, AllZip}
use Rattle.std.proofs.Common.{refl, sym, subst, ap, ap₂, ◌∙◌}
use Rattle.std.proofs.lemmas.List.{take_more}
use Rattle.std.proofs.lemmas.Simd.{map-map}

pub AllZip-append : {X Y : Type 0} (R : X → Y → Type 0) (xs us : List X) (ys vs : List Y) → AllZip R xs ys → AllZip R us vs → AllZip R (xs ++ us) (ys ++ vs)
AllZip-append R [] us [] vs h k = k
AllZip-append R [] us (y ∷ ys) vs h k = absurd h
AllZip-append R (x ∷ xs) us [] vs h k = absurd h
AllZip-append R (x ∷ xs) us (y ∷ ys) vs h k = (h.0, AllZip-append R xs us ys vs h.1 k)

-- one member more on each side
pub zip_more : {X : Type 0} (R : X → X → Type 0) (xs ys new : List X) (i : ℕ) (x y : X) → i < length xs → x ≡ get_or xs i x →
    AllZip R (take i xs) ys → R x y → new ≡ ys ++ y ∷ [] → AllZip R (take (i + 1) xs) new
zip_more {X} R xs ys new i x y h e so_far r pushed =
    subst (λ (l : List X). AllZip R (take (i + 1) xs) l) (sym pushed)
    (subst (λ (l : List X). AllZip R l (ys ++ y ∷ [])) (ap (λ z. take i xs ++ z ∷ []) e ∙ sym (take_more xs i x h))
    (AllZip-append R (take i xs) (x ∷ []) ys (y ∷ []) so_far (r, tt)))

-- maps that take related members to related ones
pub AllZip-maps : {X Y U V : Type 0} (R : X → Y → Type 0) (S : U → V → Type 0) (f : X → U) (g : Y → V) → ((x : X) (y : Y) → R x y → S (f x) (g y)) →
    (xs : List X) (ys : List Y) → AllZip R xs ys → AllZip S (map f xs) (map g ys)
AllZip-maps R S f g e [] [] h = tt
AllZip-maps R S f g e [] (y ∷ ys) h = absurd h
AllZip-maps R S f g e (x ∷ xs) [] h = absurd h
AllZip-maps R S f g e (x ∷ xs) (y ∷ ys) h = (e x y h.0, AllZip-maps R S f g e xs ys h.1)

pub AllZip-flat_map : {X Y U V : Type 0} (R : X → Y → Type 0) (S : U → V → Type 0) (f : X → List U) (g : Y → List V) → ((x : X) (y : Y) → R x y → AllZip S (f x) (g y)) →
    (xs : List X) (ys : List Y) → AllZip R xs ys → AllZip S (flat_map f xs) (flat_map g ys)
AllZip-flat_map R S f g e [] [] h = tt
AllZip-flat_map R S f g e [] (y ∷ ys) h = absurd h
AllZip-flat_map R S f g e (x ∷ xs) [] h = absurd h
AllZip-flat_map R S f g e (x ∷ xs) (y ∷ ys) h = AllZip-append S (f x) (flat_map f xs) (g y) (flat_map g ys) (e x y h.0) (AllZip-flat_map R S f g e xs ys h.1)

AllZip-kept : {X Y : Type 0} (R : X → Y → Type 0) (x : X) (y : Y) (xs : List X) (ys : List Y) (a b : Bool) → a ≡ b → R x y → AllZip R xs ys → AllZip R (cond a (x ∷ xs) xs) (cond b (y ∷ ys) ys)
AllZip-kept R x y xs ys true true e r h = (r, h)
AllZip-kept R x y xs ys true false e r h = absurd cc
AllZip-kept R x y xs ys false true e r h = absurd cc
AllZip-kept R x y xs ys false false e r h = h

-- tests that agree on related members keep related lists
pub AllZip-filter : {X Y : Type 0} (R : X → Y → Type 0) (p : X → Bool) (q : Y → Bool) → ((x : X) (y : Y) → R x y → p x ≡ q y) →
    (xs : List X) (ys : List Y) → AllZip R xs ys → AllZip R (filter p xs) (filter q ys)
AllZip-filter R p q e [] [] h = tt
AllZip-filter R p q e [] (y ∷ ys) h = absurd h
AllZip-filter R p q e (x ∷ xs) [] h = absurd h
AllZip-filter R p q e (x ∷ xs) (y ∷ ys) h = AllZip-kept R x y (filter p xs) (filter q ys) (p x) (q y) (e x y h.0) h.0 (AllZip-filter R p q e xs ys h.1)

-- functions that agree on related members
pub map_alike : {X Y U : Type 0} (R : X → Y → Type 0) (f : X → U) (g : Y → U) → ((x : X) (y : Y) → R x y → g y ≡ f x) →
    (xs : List X) (ys : List Y) → AllZip R xs ys → map g ys ≡ map f xs
map_alike R f g e [] [] h = refl
map_alike R f g e [] (y ∷ ys) h = absurd h
map_alike R f g e (x ∷ xs) [] h = absurd h
map_alike R f g e (x ∷ xs) (y ∷ ys) h = ap₂ (λ a b. a ∷ b) (e x y h.0) (map_alike R f g e xs ys h.1)

-- each member of a list is the image of the one in its place
pub zipped : {A X : Type 0} (view : A → X) (change : X → X) (xs whole ys : List A) → xs ≡ whole →
    AllZip (λ a b. view b ≡ change (view a)) xs ys → map view ys ≡ map change (map view whole)
zipped view change xs whole ys e h =
    map_alike (λ a b. view b ≡ change (view a)) (λ a. change (view a)) view (λ a b r. r) xs ys h
    ∙ sym (map-map change view xs)
    ∙ ap (λ l. map change (map view l)) e

pub flat_map_alike : {X Y U : Type 0} (R : X → Y → Type 0) (f : X → List U) (g : Y → List U) → ((x : X) (y : Y) → R x y → g y ≡ f x) →
    (xs : List X) (ys : List Y) → AllZip R xs ys → flat_map g ys ≡ flat_map f xs
flat_map_alike R f g e [] [] h = refl
flat_map_alike R f g e [] (y ∷ ys) h = absurd h
flat_map_alike R f g e (x ∷ xs) [] h = absurd h
flat_map_alike R f g e (x ∷ xs) (y ∷ ys) h = ap₂ (λ a b. a ++ b) (e x y h.0) (flat_map_alike R f g e xs ys h.1)

pub list_any_alike : {X Y : Type 0} (R : X → Y → Type 0) (p : X → Bool) (q : Y → Bool) → ((x : X) (y : Y) → R x y → q y ≡ p x) →
    (xs : List X) (ys : List Y) → AllZip R xs ys → list_any q ys ≡ list_any p xs
list_any_alike R p q e [] [] h = refl
list_any_alike R p q e [] (y ∷ ys) h = absurd h
list_any_alike R p q e (x ∷ xs) [] h = absurd h
list_any_alike R p q e (x ∷ xs) (y ∷ ys) h = ap₂ (λ a b. a || b) (e x y h.0) (list_any_alike R p q e xs ys h.1)
