use Rattle.std.proofs.Common.{◌≡◌, map, take}
use Rattle.std.specs.List.{flat_map}
use Rattle.jani_instance.specs.Actions.{acted_by, lent_edge, number_in}
use Rattle.jani_instance.specs.Shapes.{acting_of}
use Rattle.jani_instance.proofs.located.acting.Given as goal

abbrev pub invariant-loop-e : goal.invariant-loop-e
invariant-loop-e l = map acting_of l.all.items ≡ flat_map (acted_by (number_in l.actions) l.site) (map lent_edge (take l.e-index l.these))
