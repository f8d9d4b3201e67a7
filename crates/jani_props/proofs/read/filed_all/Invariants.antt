use Rattle.std.proofs.Common.{◌≡◌, map}
use Rattle.prop_trees.specs.Syntax.{jani_property_of}
use Rattle.jani_props.specs.Faults.{filed_by}
use Rattle.jani_props.specs.Model.{numbers_of}
use Rattle.jani_props.specs.Syntax.{written_of}
use Rattle.jani_props.proofs.read.filed_all.Given as goal

abbrev pub invariant-loop-p : goal.invariant-loop-p
invariant-loop-p l = map jani_property_of l.list ≡ map (filed_by (numbers_of l.names)) (map written_of l.yielded)
