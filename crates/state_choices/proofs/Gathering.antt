-- A loop that gathers until something is wide.
use Rattle.std.proofs.Common.{◌≡◌, ℕ, ◌+◌, ◌<◌, ◌≤◌, List, [], ◌∷◌, ◌++◌, Bool, false, ◌||◌, length, get_or, take, refl, sym, ap, ap₂, ◌∙◌, append-nil, append_assoc}
use Rattle.std.specs.List.{list_any, flat_map}
use Rattle.std.proofs.lemmas.List.{take_more}
use Rattle.std.proofs.lemmas.List.Concat.{flat_map-append}
use Rattle.std.proofs.lemmas.List.Folds.{list_any_more}
use Rattle.basics.specs.Lists.{at_take_all}

pub any_more : {X : Type 0} (p : X → Bool) (xs : List X) (i : ℕ) (x : X) (so_far : Bool) → i < length xs → x ≡ get_or xs i x → so_far ≡ list_any p (take i xs) → (so_far || p x) ≡ list_any p (take (i + 1) xs)
any_more p xs i x so_far h e k = ap₂ (λ a y. a || p y) k e ∙ sym (list_any_more p xs i x h)

module _ {X B : Type 0} (W : X → Bool) (f : X → List B) (xs : List X) where
  -- none of the first i is wide, and their parts are gathered behind a list
  pub record IsGathered (before : List B) (i : ℕ) (all : List B) : Type 0 where
    pub narrow : list_any W (take i xs) ≡ false
    pub gathered : all ≡ before ++ flat_map f (take i xs)

  pub gathered_none : (before all : List B) → all ≡ before → IsGathered before 0 all
  gathered_none before all e = record { narrow = refl; gathered = e ∙ sym (append-nil before) }

  pub gathered_more : (before : List B) (i : ℕ) (x : X) (old new : List B) → i < length xs → x ≡ get_or xs i x → W x ≡ false → new ≡ old ++ f x → IsGathered before i old → IsGathered before (i + 1) new
  gathered_more before i x old new h e narrow next so_far = record {
    narrow = sym (any_more W xs i x (list_any W (take i xs)) h e refl) ∙ ap₂ (λ a b. a || b) so_far.narrow narrow;
    gathered =
        next
        ∙ ap (λ l. l ++ f x) so_far.gathered
        ∙ append_assoc before (flat_map f (take i xs)) (f x)
        ∙ ap (λ l. before ++ l) (ap (λ l. flat_map f (take i xs) ++ l) (sym (append-nil (f x))) ∙ sym (flat_map-append f (take i xs) (x ∷ []))
        ∙ ap (flat_map f) (ap (λ z. take i xs ++ z ∷ []) e ∙ sym (take_more xs i x h)));
  }

  pub gathered_all : (before : List B) (i : ℕ) (all : List B) → length xs ≤ i → IsGathered before i all → (list_any W xs ≡ false) × (all ≡ before ++ flat_map f xs)
  gathered_all before i all h so_far = (
    sym (at_take_all (list_any W) xs i h) ∙ so_far.narrow,
    so_far.gathered ∙ at_take_all (λ l. before ++ flat_map f l) xs i h,
  )
