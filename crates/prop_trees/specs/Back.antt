-- What the canonical text of properties spells.
use Rattle.std.specs.Prelude.{◌≡◌, ℕ, List, Option, Some}
use Rattle.std.specs.Option.{option_map}
use Rattle.std.specs.List.{AllZip, AllByRecursion as Each}
use Rattle.op_trees.specs.Tree.{bare}
use Rattle.prism_tree.specs.Syntax.{Expression}
use Rattle.prop_grammar.specs.declared.syntax.Structure.{Structure}
use Rattle.prop_grammar.specs.Property.{Ask}
use Rattle.prop_grammar.specs.Syntax.{WrittenProperty}
use Rattle.prop_grammar.specs.Faults.{Spells}
use Rattle.prop_trees.specs.Trees.{Name, PrismProperty, ask_with, SameAsk, SamePath}
use Rattle.prop_trees.specs.Text.{plain, structure_name, properties_text}
use Rattle.prop_trees.specs.Printable.{IsTitle, IsPrintableProperty}

-- the second is the first as it is written, offsets aside
abbrev pub SameExpression : Expression → Expression → Type 0
SameExpression e x = bare x ≡ bare (plain e)

-- what is asked, each reward structure by its name; the names of all are given
abbrev pub with_names : List Name → Ask Expression ℕ → Ask Expression (Option Name)
with_names rewards a = ask_with (λ e. e) (λ r. Some (structure_name rewards r)) a

-- what a written property asks, each reward structure by its name alone
abbrev pub names_written : Ask Expression Structure → Ask Expression (Option Name)
names_written a = ask_with (λ e. e) (λ s. s.name) a

-- the written property has the same name, asks the same, and of the same paths
pub record SameWritten (rewards : List Name) (p : PrismProperty) (w : WrittenProperty) : Type 0 where
  pub name : option_map (λ x. x.name) w.name ≡ p.name
  pub ask : SameAsk SameExpression (with_names rewards p.ask) (names_written w.ask)
  pub path : SamePath SameExpression p.path w.path

-- The text of printable properties spells them, offsets aside.
abbrev pub TextSpells : Type 0
TextSpells = (rewards : List Name) (ps : List PrismProperty) → Each IsTitle rewards → Each (IsPrintableProperty rewards) ps →
    (ws : List WrittenProperty) × Spells (properties_text rewards ps) ws × AllZip (SameWritten rewards) ps ws
