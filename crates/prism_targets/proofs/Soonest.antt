-- The least fault of the first kind that there is.
use Rattle.std.specs.Prelude.{◌≡◌, List, [], ◌∷◌, Option, true, false, Some, None, is_some}
use Rattle.std.proofs.Common.{refl, sym}
use Rattle.bridge_io.specs.declared.reason.Fault.{Fault}
use Rattle.name_rules.specs.Least.{soonest, or_else}
use Rattle.jani_check.proofs.Phases.{none_first}

pub first_kind : (xs ys : List Fault) → is_some (soonest None xs) ≡ true → soonest None (or_else xs ys) ≡ soonest None xs
first_kind [] ys h = absurd cc
first_kind (x ∷ xs) ys h = refl

pub second_kind : (xs ys : List Fault) → is_some (soonest None xs) ≡ false → soonest None (or_else xs ys) ≡ soonest None ys
second_kind xs ys h = sym (none_first xs ys (soonest None ys) (no_fault (soonest None xs) h) refl)
  where
    no_fault : (o : Option Fault) → is_some o ≡ false → None ≡ o
    no_fault None e = refl
    no_fault (Some f) e = absurd cc
