use Rattle.std.proofs.Common.{◌≡◌, map, take}
use Rattle.jani_tree.specs.Syntax as syntax
use Rattle.std.specs.List.{flat_map}
use Rattle.jani_instance.specs.Shapes.{assigned_by, assigned_of, structure_in}
use Rattle.jani_instance.proofs.build.rewards.Given as goal

abbrev pub invariant-loop-write : goal.invariant-loop-write
invariant-loop-write l = map assigned_of l.all.items ≡ flat_map (assigned_by (structure_in l.site)) (map syntax.write_of (take l.write-index l.writes))
