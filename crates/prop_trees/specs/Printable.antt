-- Which properties are spelled by their canonical text: those with names that may be written, and of a form that may be written.
use Rattle.std.specs.Prelude.{◌≡◌, ◌⊎◌, true, List, length, Some}
use Rattle.std.specs.List.{AllByRecursion as Each}
use Rattle.op_trees.specs.Tree.{AllNames, AllNumbers}
use Rattle.op_trees.specs.Names.{HasOperands}
use Rattle.prism_lex.specs.declared.token.TokenKind.TheVariants.{Ident, Quoted}
use Rattle.prism_lex.specs.Tokens.{IsKind, is_name}
use Rattle.prism_tree.specs.Operators.{arity}
use Rattle.prism_tree.specs.Syntax.{Expression}
use Rattle.frac_core.specs.Decimal.{IsLiteral}
use Rattle.prop_trees.specs.Trees.{Name, PrismProperty, parts}
use Rattle.prop_trees.specs.Form.{AsksWell}
use Rattle.prop_trees.specs.Text.{plain}

-- a name as it is written: an identifier that is not reserved, or a name between quotes
abbrev pub IsWord : Name → Type 0
IsWord x = IsKind x Ident ⊎ IsKind x Quoted

-- what may stand between quotes
abbrev pub IsTitle : Name → Type 0
IsTitle x = is_name x ≡ true

-- an expression as it is written: literals in normal form and not negative, operators with their operands, and such names
pub record IsPrintableTree (e : Expression) : Type 0 where
  pub literals : AllNumbers IsLiteral e
  pub operands : HasOperands arity e
  pub names : AllNames IsWord e

-- of a model whose reward structures have these names
pub record IsPrintableProperty (rewards : List Name) (p : PrismProperty) : Type 0 where
  pub name : Name
  pub named : p.name ≡ Some name
  pub title : IsTitle name
  pub expressions : Each (λ x. IsPrintableTree (plain x.1)) (parts p)
  pub asks : AsksWell (length rewards) p.ask p.path
