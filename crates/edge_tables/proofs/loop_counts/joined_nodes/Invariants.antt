use Rattle.std.specs.Prelude.{◌≡◌, map, take}
use Rattle.op_trees.specs.Tree.{capped}
use Rattle.jani_loops.specs.Looped.{lent_edge}
use Rattle.edge_tables.specs.Counts.{joined_nodes}
use Rattle.edge_tables.proofs.loop_counts.joined_nodes.Given as goal

abbrev pub invariant-loop-e : goal.invariant-loop-e
invariant-loop-e l = l.sum ≡ capped (joined_nodes (map lent_edge (take l.e-index l.edges)))
