-- Properties as they are written in a JANI file (jani-model specification, version 1, "Properties"), and what the code holds of them. The
-- name of a property and of its reward structure have their places; in its expressions a name of the model stands with a point before it.
use Rattle.std.specs.Prelude.{Some}
use Rattle.bridge_io.specs.declared.reason.Named.{Named}
use Rattle.op_trees.specs.Tree.{tree}
use Rattle.jani_tree.specs.Syntax.{Expression}
use Rattle.prop_grammar.specs.Property.{Ask, greatest, least, bounded, greatest_reward, least_reward, Property}
use Rattle.prop_trees.specs.Syntax.{jani_path_of}
use Rattle.prop_trees.specs.Trees as trees
use Rattle.jani_props.specs.declared.written.WrittenAsk.{WrittenAsk}
use Rattle.jani_props.specs.declared.written.WrittenAsk.TheVariants as W
use Rattle.jani_props.specs.declared.written.Written as code

-- a reward structure is the name that is written
abbrev pub Written : Type 0
Written = Property Named Expression Named

abbrev pub ask_of : WrittenAsk → Ask Expression Named
ask_of W.PMax = greatest
ask_of W.PMin = least
ask_of (W.PBound c e) = bounded c (tree e)
ask_of (W.RMax n) = greatest_reward n
ask_of (W.RMin n) = least_reward n

abbrev pub written_of : code.Written → Written
written_of w = record { name = Some w.name; ask = ask_of w.ask; path = jani_path_of w.path }
