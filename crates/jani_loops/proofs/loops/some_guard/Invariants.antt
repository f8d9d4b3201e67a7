use Rattle.std.specs.Prelude.{◌≡◌, map, drop}
use Rattle.std.specs.Option.{option_map}
use Rattle.op_trees.specs.Tree.{tree}
use Rattle.jani_loops.specs.Looped.{guards, lent_edge, some_of}
use Rattle.jani_loops.proofs.Made.{joined_with}
use Rattle.jani_loops.proofs.loops.some_guard.Given as goal

abbrev pub invariant-loop-e : goal.invariant-loop-e
invariant-loop-e l = joined_with (option_map tree l.all) (guards (map lent_edge (drop l.e-index l.edges))) ≡ some_of (guards (map lent_edge l.edges))
