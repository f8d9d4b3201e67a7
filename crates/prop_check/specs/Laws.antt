-- What holds of properties files and what is read of them. (This project's own.)
use Rattle.std.specs.Prelude.{◌≡◌, ℕ, List}
use Rattle.std.specs.List.{AllByRecursion as Each}
use Rattle.bridge_io.specs.declared.reason.Fault.{Fault}
use Rattle.prism_tree.specs.Operators.{arity}
use Rattle.prism_tree.specs.Syntax.{File}
use Rattle.prop_grammar.specs.Property.{Ask, greatest, least, bounded, greatest_reward, least_reward, Path}
use Rattle.prop_grammar.specs.Syntax.{WrittenProperty}
use Rattle.prop_grammar.specs.Faults.{Spells}
use Rattle.prop_trees.specs.Form.{HasForm, IsFinally}
use Rattle.prop_trees.specs.Trees.{parts}
use Rattle.prop_check.specs.Read.{FaultsOf}

-- Bytes have one list of faults against a model at most.
abbrev pub OneListOfFaults : Type 0
OneListOfFaults = (bytes : List ℕ) (file : File) (fs gs : List Fault) → FaultsOf bytes file fs → FaultsOf bytes file gs → fs ≡ gs

-- a query of rewards is of paths F e
abbrev pub AsksFinally : {E F R : Type 0} → Ask E R → Path F → Type 0
AsksFinally (greatest_reward r) p = IsFinally p
AsksFinally (least_reward r) p = IsFinally p
AsksFinally greatest p = Unit {0}
AsksFinally least p = Unit {0}
AsksFinally (bounded _ _) p = Unit {0}

-- Literals are in normal form, operators have their operands, and rewards are asked of paths F e.
pub record IsWritten (p : WrittenProperty) : Type 0 where
  pub expressions : Each (λ x. HasForm arity x.1) (parts p)
  pub asks : AsksFinally p.ask p.path

-- So it is with all properties that a text spells.
abbrev pub SpelledHaveForm : Type 0
SpelledHaveForm = (bytes : List ℕ) (ps : List WrittenProperty) → Spells bytes ps → Each IsWritten ps
