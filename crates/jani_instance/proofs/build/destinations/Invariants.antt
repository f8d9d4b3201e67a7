use Rattle.std.proofs.Common.{◌≡◌, map, take}
use Rattle.jani_tree.specs.Syntax as syntax
use Rattle.jani_instance.specs.Shapes.{destination_by, destination_of}
use Rattle.jani_instance.proofs.build.destinations.Given as goal

abbrev pub invariant-loop-d : goal.invariant-loop-d
invariant-loop-d l = map destination_of l.all.items ≡ map (destination_by l.site) (map syntax.destination_of (take l.d-index l.ds))
