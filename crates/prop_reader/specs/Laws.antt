-- What holds of the properties and the faults of PRISM properties files, as the grammar and its faults are stated in prop_grammar.
-- (This project's own.)
use Rattle.std.specs.Prelude.{◌≡◌, ℕ, List}
use Rattle.bridge_io.specs.declared.reason.Fault.{Fault}
use Rattle.prop_grammar.specs.Syntax.{WrittenProperty}
use Rattle.prop_grammar.specs.Faults.{Spells, SyntaxFaults}

-- Bytes have one list of faults of their tokens and grammar at most.
abbrev pub OneSyntax : Type 0
OneSyntax = (bytes : List ℕ) (fs gs : List Fault) → SyntaxFaults bytes fs → SyntaxFaults bytes gs → fs ≡ gs

-- Bytes spell one list of properties at most.
abbrev pub OneFile : Type 0
OneFile = (bytes : List ℕ) (x y : List WrittenProperty) → Spells bytes x → Spells bytes y → x ≡ y
