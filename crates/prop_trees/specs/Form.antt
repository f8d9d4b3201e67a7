-- The form of properties that are translated: literals are in normal form, operators have their operands, and a query of rewards
-- names a structure of the model by its number and asks it of paths F e. So it is with all that files spell (PRISM manual, "Property
-- Specification"; jani-model specification, version 1, property expressions).
use Rattle.std.specs.Prelude.{ℕ, ◌<◌, List, length}
use Rattle.std.specs.List.{AllByRecursion as Each}
use Rattle.op_trees.specs.Tree.{Tree, AllNumbers}
use Rattle.op_trees.specs.Names.{HasOperands}
use Rattle.prism_tree.specs.Operators as prism_operators
use Rattle.prism_tree.specs.Syntax.{File}
use Rattle.jani_table.specs.Operators as jani_operators
use Rattle.jani_tree.specs.Form.{IsNormal}
use Rattle.prop_grammar.specs.Property.{Ask, greatest, least, bounded, greatest_reward, least_reward, Path, finally, globally, until, weak_until, finally_within, until_within}
use Rattle.prop_trees.specs.Trees.{Of, PrismProperty, JaniProperty, parts}
use Rattle.prop_trees.specs.PrismFaults.{AreSound}

-- each literal is in normal form, and each node has as many operands as its operator
pub record HasForm {O : Type 0} (arity : O → ℕ) (e : Tree O) : Type 0 where
  pub literals : AllNumbers IsNormal e
  pub operands : HasOperands arity e

abbrev pub IsFinally : {E : Type 0} → Path E → Type 0
IsFinally (finally e) = Unit {0}
IsFinally (globally _) = ⊥
IsFinally (until _ _) = ⊥
IsFinally (weak_until _ _) = ⊥
IsFinally (finally_within _ _) = ⊥
IsFinally (until_within _ _ _) = ⊥

-- a query of rewards is of a structure that there is, of which there are so many, and of paths F e
abbrev pub AsksWell : {E F : Type 0} → ℕ → Ask E ℕ → Path F → Type 0
AsksWell count (greatest_reward r) p = (r < count) × IsFinally p
AsksWell count (least_reward r) p = (r < count) × IsFinally p
AsksWell count greatest p = Unit {0}
AsksWell count least p = Unit {0}
AsksWell count (bounded c e) p = Unit {0}

-- of a model with so many reward structures
pub record PropertyForm {O : Type 0} (arity : O → ℕ) (count : ℕ) (p : Of O) : Type 0 where
  pub expressions : Each (λ x. HasForm arity x.1) (parts p)
  pub asks : AsksWell count p.ask p.path

-- Properties of a PRISM model: they have this form, and the phases of names and types find nothing in them.
pub record AreOfPrism (file : File) (ps : List PrismProperty) : Type 0 where
  pub form : Each (PropertyForm prism_operators.arity (length file.rewards)) ps
  pub sound : AreSound file ps

-- the form of properties of a JANI model with so many reward structures
abbrev pub JaniForm : ℕ → JaniProperty → Type 0
JaniForm count p = PropertyForm jani_operators.arity count p
