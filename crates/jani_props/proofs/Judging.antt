-- The least fault of few parts, one after another; and the least of the first kind that there is any of.
use Rattle.std.proofs.Common.{◌≡◌, sym, ap, ◌∙◌, List, [], ◌∷◌, flat_map, Option, append-nil}
use Rattle.bridge_io.specs.declared.reason.Fault.{Fault}
use Rattle.name_rules.specs.Least.{soonest}
use Rattle.name_rules.proofs.Append.{soonest_then}

module _ {A : Type 0} (f : A → List Fault) where
  pub one_part : (x : A) (best last : Option Fault) → last ≡ soonest best (f x) → last ≡ soonest best (flat_map f (x ∷ []))
  one_part x best last e = e ∙ ap (soonest best) (sym (append-nil (f x)))

  pub more_parts : (x : A) (xs : List A) (best next last : Option Fault) → next ≡ soonest best (f x) → last ≡ soonest next (flat_map f xs) → last ≡ soonest best (flat_map f (x ∷ xs))
  more_parts x xs best next last e h = h ∙ soonest_then best next (f x) (flat_map f xs) e

  pub two_parts : (x y : A) (best next last : Option Fault) → next ≡ soonest best (f x) → last ≡ soonest next (f y) → last ≡ soonest best (flat_map f (x ∷ y ∷ []))
  two_parts x y best next last e h = more_parts x (y ∷ []) best next last e (one_part y next last h)
