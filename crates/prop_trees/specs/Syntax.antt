-- The properties of a model as the code holds them.
use Rattle.std.specs.Prelude.{ℕ}
use Rattle.op_trees.specs.Tree.{Tree, tree}
use Rattle.prism_tree.specs.declared.operator.PrismOp.{PrismOp}
use Rattle.jani_table.specs.declared.operator.JaniOp.{JaniOp}
use Rattle.prop_grammar.specs.Property as form
use Rattle.prop_grammar.specs.Property.{finally, globally, until, weak_until, finally_within, until_within, greatest, least, bounded, greatest_reward, least_reward}
use Rattle.prop_trees.specs.declared.prism.Ask.{Ask}
use Rattle.prop_trees.specs.declared.prism.Ask.TheVariants as A
use Rattle.prop_trees.specs.declared.prism.Path.{Path}
use Rattle.prop_trees.specs.declared.prism.Path.TheVariants as P
use Rattle.prop_trees.specs.declared.prism.Property.{Property}
use Rattle.prop_trees.specs.declared.jani.JaniAsk.{JaniAsk}
use Rattle.prop_trees.specs.declared.jani.JaniAsk.TheVariants as JA
use Rattle.prop_trees.specs.declared.jani.JaniPath.{JaniPath}
use Rattle.prop_trees.specs.declared.jani.JaniPath.TheVariants as JP
use Rattle.prop_trees.specs.declared.jani.JaniProperty.{JaniProperty}
use Rattle.prop_trees.specs.declared.roles.Role.{Role}
use Rattle.prop_trees.specs.declared.roles.Role.TheVariants as R
use Rattle.prop_trees.specs.Trees as trees

abbrev pub ask_of : Ask → form.Ask (Tree PrismOp) ℕ
ask_of A.PMax = greatest
ask_of A.PMin = least
ask_of (A.PBound c e) = bounded c (tree e)
ask_of (A.RMax r) = greatest_reward r
ask_of (A.RMin r) = least_reward r

abbrev pub path_of : Path → form.Path (Tree PrismOp)
path_of (P.Finally e) = finally (tree e)
path_of (P.Globally e) = globally (tree e)
path_of (P.Until a b) = until (tree a) (tree b)
path_of (P.WeakUntil a b) = weak_until (tree a) (tree b)
path_of (P.FinallyWithin k e) = finally_within (tree k) (tree e)
path_of (P.UntilWithin k a b) = until_within (tree k) (tree a) (tree b)

abbrev pub property_of : Property → trees.PrismProperty
property_of p = record { name = p.name; ask = ask_of p.ask; path = path_of p.path }

abbrev pub jani_ask_of : JaniAsk → form.Ask (Tree JaniOp) ℕ
jani_ask_of JA.PMax = greatest
jani_ask_of JA.PMin = least
jani_ask_of (JA.PBound c e) = bounded c (tree e)
jani_ask_of (JA.RMax r) = greatest_reward r
jani_ask_of (JA.RMin r) = least_reward r

abbrev pub jani_path_of : JaniPath → form.Path (Tree JaniOp)
jani_path_of (JP.Finally e) = finally (tree e)
jani_path_of (JP.Globally e) = globally (tree e)
jani_path_of (JP.Until a b) = until (tree a) (tree b)
jani_path_of (JP.WeakUntil a b) = weak_until (tree a) (tree b)
jani_path_of (JP.FinallyWithin k e) = finally_within (tree k) (tree e)
jani_path_of (JP.UntilWithin k a b) = until_within (tree k) (tree a) (tree b)

abbrev pub jani_property_of : JaniProperty → trees.JaniProperty
jani_property_of p = record { name = p.name; ask = jani_ask_of p.ask; path = jani_path_of p.path }

-- what an expression stands for
abbrev pub role_of : Role → trees.Role
role_of R.State = trees.state
role_of R.Steps = trees.steps
role_of R.Probability = trees.probability
