-- The faults of the first phase that has any.
use Rattle.std.specs.Prelude.{List, [], ◌∷◌, Some, None}
use Rattle.std.proofs.Common.{◌≡◌, refl, ap}
use Rattle.bridge_io.specs.declared.reason.Fault.{Fault}
use Rattle.name_rules.specs.Least.{soonest, or_else}
use Rattle.name_rules.proofs.Soonest.{soonest_none}

-- a fault of the first of two phases
pub first_fault : (fs gs : List Fault) (f : Fault) → soonest None fs ≡ Some f → soonest None (or_else fs gs) ≡ Some f
first_fault [] gs f h = absurd cc
first_fault (x ∷ fs) gs f h = h

-- the first has none
pub past_first : (fs gs : List Fault) → soonest None fs ≡ None → or_else fs gs ≡ gs
past_first fs gs h = ap (λ xs. or_else xs gs) (soonest_none fs h)

pub else_parts : (fs gs : List Fault) → or_else fs gs ≡ [] → (fs ≡ []) × (gs ≡ [])
else_parts [] gs h = (refl, h)
else_parts (x ∷ fs) gs h = absurd cc
