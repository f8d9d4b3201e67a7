-- Lists and options whose members a map changes in what is not looked at, and those that come out changed by a map.
use Rattle.std.specs.Prelude.{◌≡◌, ◌+◌, List, [], ◌∷◌, ◌++◌, map, Bool, true, false, not, ◌||◌, cond, Option, Some, None, nat_lt}
use Rattle.std.specs.List.{find, filter, flat_map, list_any, position, position_or_len}
use Rattle.std.specs.Option.{option_map}
use Rattle.std.proofs.Common.{refl, sym, ap, ap₂, ◌∙◌}
use Rattle.std.proofs.lemmas.List.{length-map, map-append}

pub chosen_mapped : {A B : Type 0} (f : A → B) (b : Bool) (x y : A) → cond b (f x) (f y) ≡ f (cond b x y)
chosen_mapped f true x y = refl
chosen_mapped f false x y = refl

-- ---- what is looked at in a member is the same after the map
module _ {A B : Type 0} (f : A → B) where
  pub some_mapped : {C : Type 0} (g : B → C) (k : A → C) → ((x : A) → g (f x) ≡ k x) → (o : Option A) → option_map g (option_map f o) ≡ option_map k o
  some_mapped g k h None = refl
  some_mapped g k h (Some x) = ap Some (h x)

  pub mapped : {C : Type 0} (g : B → C) (k : A → C) → ((x : A) → g (f x) ≡ k x) → (xs : List A) → map g (map f xs) ≡ map k xs
  mapped g k h [] = refl
  mapped g k h (x ∷ xs) = ap₂ (λ a b. a ∷ b) (h x) (mapped g k h xs)

  pub walked : {C : Type 0} (g : B → List C) (k : A → List C) → ((x : A) → g (f x) ≡ k x) → (xs : List A) → flat_map g (map f xs) ≡ flat_map k xs
  walked g k h [] = refl
  walked g k h (x ∷ xs) = ap₂ (λ a b. a ++ b) (h x) (walked g k h xs)

  module _ (p : B → Bool) (q : A → Bool) (h : (x : A) → p (f x) ≡ q x) where
    pub found_mapped : (xs : List A) → find p (map f xs) ≡ option_map f (find q xs)
    found_mapped [] = refl
    found_mapped (x ∷ xs) = ap (λ b. cond b (Some (f x)) (find p (map f xs))) (h x) ∙ by_test (q x) (found_mapped xs)
      where
        by_test : (b : Bool) → find p (map f xs) ≡ option_map f (find q xs) → cond b (Some (f x)) (find p (map f xs)) ≡ option_map f (cond b (Some x) (find q xs))
        by_test true e = refl
        by_test false e = e

    pub kept_mapped : (xs : List A) → filter p (map f xs) ≡ map f (filter q xs)
    kept_mapped [] = refl
    kept_mapped (x ∷ xs) = ap₂ (λ b r. cond b (f x ∷ r) r) (h x) (kept_mapped xs) ∙ chosen_mapped (map f) (q x) (x ∷ filter q xs) (filter q xs)

    pub any_mapped : (xs : List A) → list_any p (map f xs) ≡ list_any q xs
    any_mapped [] = refl
    any_mapped (x ∷ xs) = ap₂ (λ a b. a || b) (h x) (any_mapped xs)

    place_mapped : (xs : List A) → position_or_len p (map f xs) ≡ position_or_len q xs
    place_mapped [] = refl
    place_mapped (x ∷ xs) = ap (λ b. cond (not b) (1 + position_or_len p (map f xs)) 0) (h x) ∙ ap (λ n. cond (not (q x)) (1 + n) 0) (place_mapped xs)

    pub position_mapped : (xs : List A) → position p (map f xs) ≡ position q xs
    position_mapped xs = ap₂ (λ i n. cond (nat_lt i n) (Some i) None) (place_mapped xs) (length-map xs f)

-- ---- what comes out is changed by a map too
module _ {A B : Type 0} (f : A → B) where
  pub joined : (us vs : List B) (xs ys : List A) → us ≡ map f xs → vs ≡ map f ys → us ++ vs ≡ map f (xs ++ ys)
  joined us vs xs ys e h = ap₂ (λ a b. a ++ b) e h ∙ sym (map-append f xs ys)

  pub turned : {X Y : Type 0} (k : X → Y) (g : Y → B) (h : X → A) → ((x : X) → g (k x) ≡ f (h x)) → (xs : List X) → map g (map k xs) ≡ map f (map h xs)
  turned k g h e [] = refl
  turned k g h e (x ∷ xs) = ap₂ (λ a b. a ∷ b) (e x) (turned k g h e xs)

  pub gathered : {X Y : Type 0} (k : X → Y) (g : Y → List B) (h : X → List A) → ((x : X) → g (k x) ≡ map f (h x)) → (xs : List X) → flat_map g (map k xs) ≡ map f (flat_map h xs)
  gathered k g h e [] = refl
  gathered k g h e (x ∷ xs) = joined (g (k x)) (flat_map g (map k xs)) (h x) (flat_map h xs) (e x) (gathered k g h e xs)

  pub some_turned : {X Y : Type 0} (k : X → Y) (g : Y → B) (h : X → A) → ((x : X) → g (k x) ≡ f (h x)) → (o : Option X) → option_map g (option_map k o) ≡ option_map f (option_map h o)
  some_turned k g h e None = refl
  some_turned k g h e (Some x) = ap Some (e x)
