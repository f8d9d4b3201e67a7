-- What reading the bytes of a PRISM properties file answers. (Which fault is the least is this project's own rule.)
use Rattle.std.specs.Prelude.{◌≡◌, ℕ, ◌≤◌, List, [], ◌∷◌, length}
use Rattle.bridge_io.specs.declared.reason.Fault.{Fault}
use Rattle.bridge_io.specs.declared.reason.Refused.{Refused}
use Rattle.bridge_io.specs.declared.reason.Refused.TheVariants as R
use Rattle.prism_parse.specs.Parsed.{UpToAll}
use Rattle.prop_grammar.specs.Syntax.{WrittenProperty}
use Rattle.prop_grammar.specs.Faults.{Spells, SyntaxFaults}

-- The bytes have no fault, they spell these properties, and no others.
pub record IsSpelled (bytes : List ℕ) (x : List WrittenProperty) : Type 0 where
  pub clean : SyntaxFaults bytes []
  pub spells : Spells bytes x
  pub only : (y : List WrittenProperty) → Spells bytes y → y ≡ x

-- This is the least of the faults of the bytes, which do have some.
pub record IsLeastFault (bytes : List ℕ) (f : Fault) : Type 0 where
  pub others : List Fault
  pub faults : SyntaxFaults bytes (f ∷ others)
  pub least : UpToAll f others
  pub within : f.at ≤ length bytes
  pub faulty : SyntaxFaults bytes [] → ⊥

-- want of memory may come at any time
abbrev pub Refuses : List ℕ → Refused → Type 0
Refuses bytes (R.Memory e) = Unit {0}
Refuses bytes (R.At f) = IsLeastFault bytes f
