use Rattle.std.specs.Prelude.{◌≡◌, map, take}
use Rattle.std.specs.List.{sum_by}
use Rattle.op_trees.specs.Tree.{capped}
use Rattle.op_trees.specs.Tree.{node_count}
use Rattle.jani_tree.specs.Syntax.{write_of}
use Rattle.edge_tables.proofs.counts.writes_nodes.Given as goal

abbrev pub invariant-loop-w : goal.invariant-loop-w
invariant-loop-w l = l.sum ≡ capped (sum_by (λ w. node_count w.value) (map write_of (take l.w-index l.writes)))
