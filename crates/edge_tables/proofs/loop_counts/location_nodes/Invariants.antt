use Rattle.std.specs.Prelude.{◌≡◌, map, take}
use Rattle.std.specs.List.{sum_by}
use Rattle.op_trees.specs.Tree.{capped}
use Rattle.gathering.specs.Lists.{list_under}
use Rattle.jani_tree.specs.Syntax.{location_of}
use Rattle.jani_loops.specs.Looped.{lent_edge}
use Rattle.edge_tables.specs.Counts.{joined_nodes}
use Rattle.edge_tables.proofs.loop_counts.location_nodes.Given as goal

abbrev pub invariant-loop-l : goal.invariant-loop-l
invariant-loop-l l = l.sum ≡ capped (sum_by (λ m. joined_nodes (map lent_edge (list_under l.here m.name.name))) (map location_of (take l.l-index l.locations)))
