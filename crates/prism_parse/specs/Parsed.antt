-- What reading the bytes of a PRISM file answers.
use Rattle.std.specs.Prelude.{◌≡◌, ◌⊎◌, ℕ, ◌<◌, ◌≤◌, List, [], ◌∷◌, length}
use Rattle.bridge_io.specs.Reason.{number_of}
use Rattle.bridge_io.specs.declared.reason.Fault.{Fault}
use Rattle.bridge_io.specs.declared.reason.Refused.{Refused}
use Rattle.bridge_io.specs.declared.reason.Refused.TheVariants as R
use Rattle.prism_tree.specs.Syntax.{File}
use Rattle.prism_tree.specs.Faults.{Spells, SyntaxFaults}

-- The bytes have no fault, they spell this tree, and no other.
pub record IsSpelled (bytes : List ℕ) (x : File) : Type 0 where
  pub clean : SyntaxFaults bytes []
  pub spells : Spells bytes x
  pub only : (y : File) → Spells bytes y → y ≡ x

-- The one fault stands before the other, or at its place, and then its reason has no greater number.
abbrev pub IsUpTo : Fault → Fault → Type 0
IsUpTo f g = (f.at < g.at) ⊎ ((f.at ≡ g.at) × (number_of f.reason ≤ number_of g.reason))

abbrev pub UpToAll : Fault → List Fault → Type 0
UpToAll f [] = Unit {0}
UpToAll f (g ∷ gs) = IsUpTo f g × UpToAll f gs

-- This is the least of the faults of the bytes, which do have some.
pub record IsLeastFault (bytes : List ℕ) (f : Fault) : Type 0 where
  pub others : List Fault
  pub faults : SyntaxFaults bytes (f ∷ others)
  pub least : UpToAll f others
  pub within : f.at ≤ length bytes
  pub faulty : SyntaxFaults bytes [] → ⊥

-- want of memory may come at any time
abbrev pub Refuses : List ℕ → Refused → Type 0
Refuses bytes (R.Memory e) = Unit {0}
Refuses bytes (R.At f) = IsLeastFault bytes f
