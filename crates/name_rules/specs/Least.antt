-- Faults, and the least of some: that at the least offset, there that of the least number.
use Rattle.std.specs.Prelude.{◌≡◌, ℕ, ◌<◌, ◌≤◌, List, [], ◌∷◌, Bool, ◌&&◌, ◌||◌, Option, Some, None, nat_lt, nat_eq, if◌then◌else◌, ◌⊎◌}
use Rattle.bridge_io.specs.declared.reason.Reason.{Reason}
use Rattle.bridge_io.specs.declared.reason.Fault.{Fault}
use Rattle.bridge_io.specs.Reason.{number_of}

abbrev pub fault : ℕ → Reason → Fault
fault at reason = record { reason = reason; at = at }

-- one fault, where the test holds
abbrev pub fault_if : Bool → ℕ → Reason → List Fault
fault_if b at reason = if b then fault at reason ∷ [] else []

-- the faults of the first kind that has any
abbrev pub or_else : List Fault → List Fault → List Fault
or_else [] others = others
or_else (f ∷ fs) others = f ∷ fs

-- the fault at another offset
abbrev pub moved_to : ℕ → Fault → Fault
moved_to at f = fault at f.reason

abbrev pub is_before : Fault → Fault → Bool
is_before f g = nat_lt f.at g.at || (nat_eq f.at g.at && nat_lt (number_of f.reason) (number_of g.reason))

abbrev pub sooner : Option Fault → Fault → Option Fault
sooner None f = Some f
sooner (Some best) f = if is_before f best then Some f else Some best

-- the least of a fault that was found before, if one was, and these
abbrev pub soonest : Option Fault → List Fault → Option Fault
soonest best [] = best
soonest best (f ∷ fs) = soonest (sooner best f) fs

-- ---- the same as a relation
abbrev pub IsAmong : Fault → List Fault → Type 0
IsAmong f [] = ⊥
IsAmong f (g ∷ gs) = (f ≡ g) ⊎ IsAmong f gs

abbrev pub AtMost : Fault → Fault → Type 0
AtMost f g = (f.at < g.at) ⊎ ((f.at ≡ g.at) × (number_of f.reason ≤ number_of g.reason))

-- It is one of these faults, and none of them comes before it.
pub record IsLeast (fs : List Fault) (f : Fault) : Type 0 where
  pub among : IsAmong f fs
  pub least : (g : Fault) → IsAmong g fs → AtMost f g
