-- What holds of the trees and the faults of PRISM files, as the grammar and its faults are stated in prism_tree.
use Rattle.std.specs.Prelude.{◌≡◌, ℕ, List}
use Rattle.bridge_io.specs.declared.reason.Fault.{Fault}
use Rattle.prism_tree.specs.Syntax.{File}
use Rattle.prism_tree.specs.Faults.{Spells, SyntaxFaults}

-- Bytes have one list of faults of their tokens and grammar at most.
abbrev pub OneSyntax : Type 0
OneSyntax = (bytes : List ℕ) (fs gs : List Fault) → SyntaxFaults bytes fs → SyntaxFaults bytes gs → fs ≡ gs

-- Bytes spell one tree at most.
abbrev pub OneTree : Type 0
OneTree = (bytes : List ℕ) (x y : File) → Spells bytes x → Spells bytes y → x ≡ y
