-- Which JSON value spells which property as it is written, with the places of its names (jani-model specification, version 1,
-- "Properties"). Which values may stand at all is said by the faults.
use Rattle.std.specs.Prelude.{List, codes, Option, Some, None}
use Rattle.bridge_io.specs.declared.reason.Named.{Named}
use Rattle.jani_table.specs.Node.{Node}
use Rattle.jani_table.specs.Operators.{op_text}
use Rattle.jani_tree.specs.Jani.{IsItems, IsNamed}
use Rattle.jani_tree.specs.Syntax.{Expression}
use Rattle.prop_grammar.specs.Property.{Ask, greatest, least, bounded, greatest_reward, least_reward, Path}
use Rattle.prop_trees.specs.Trees.{Name}
use Rattle.prop_trees.specs.JaniText.{Is, HasOp, IsExpression, IsProbability, IsReached, compared_by, side_of}
use Rattle.jani_props.specs.Syntax.{Written}

abbrev pub IsRewardOf : Name → Node → Named → Path Expression → Type 0
IsRewardOf op v n p = HasOp op v × Is (codes "exp") v (λ w. IsNamed w n) × Is (codes "reach") v (λ w. IsReached w p)

-- what the values of a filter ask
abbrev pub IsAsked : Node → Ask Expression Named → Path Expression → Type 0
IsAsked v greatest p = IsProbability (codes "Pmax") v p
IsAsked v least p = IsProbability (codes "Pmin") v p
IsAsked v (bounded c e) p =
    HasOp (op_text (compared_by c)) v × Is (codes "left") v (λ w. IsProbability (side_of c) w p) × Is (codes "right") v (λ w. IsExpression w e)
IsAsked v (greatest_reward n) p = IsRewardOf (codes "Emax") v n p
IsAsked v (least_reward n) p = IsRewardOf (codes "Emin") v n p

abbrev pub IsTitled : Node → Option Named → Type 0
IsTitled v None = ⊥
IsTitled v (Some n) = IsNamed v n

pub record IsWritten (v : Node) (p : Written) : Type 0 where
  pub name : Is (codes "name") v (λ w. IsTitled w p.name)
  pub values : Is (codes "expression") v (λ f. Is (codes "values") f (λ w. IsAsked w p.ask p.path))

abbrev pub AreWritten : Node → List Written → Type 0
AreWritten v ps = IsItems IsWritten v ps
