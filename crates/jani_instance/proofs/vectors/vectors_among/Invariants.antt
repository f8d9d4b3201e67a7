use Rattle.std.proofs.Common.{map, take}
use Rattle.std.specs.List.{AllZip}
use Rattle.jani_tree.specs.Syntax.{vector_of}
use Rattle.jani_instance.specs.Actions.{IsLinked}
use Rattle.jani_instance.proofs.vectors.vectors_among.Given as goal

abbrev pub invariant-loop-v : goal.invariant-loop-v
invariant-loop-v l = AllZip (IsLinked l.actions) (map vector_of (take l.v-index l.these)) l.all.items
