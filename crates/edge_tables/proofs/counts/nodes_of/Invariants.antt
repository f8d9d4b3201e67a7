use Rattle.std.specs.Prelude.{◌≡◌, ◌*◌, ℕ, List, map, take}
use Rattle.std.specs.List.{sum_by}
use Rattle.op_trees.specs.Tree.{capped}
use Rattle.prism_translation.specs.Refused.{edge_nodes}
use Rattle.edge_tables.specs.Tables.{Split}
use Rattle.edge_tables.specs.Counts.{edge_count}
use Rattle.edge_tables.specs.Code.{ranked_view, AreSums}
use Rattle.edge_tables.proofs.counts.nodes_of.Given as goal

abbrev pub invariant-loop-e : goal.invariant-loop-e
invariant-loop-e l = (ss : List Split) (k : ℕ) → AreSums l.sums ss k → l.sum ≡ capped (sum_by (λ e. edge_nodes e.edge * edge_count ss k e) (map ranked_view (take l.e-index l.edges)))
