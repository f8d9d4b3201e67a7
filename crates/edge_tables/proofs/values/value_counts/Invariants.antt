use Rattle.std.specs.Prelude.{◌≡◌, ℕ, List, length, map, take}
use Rattle.std.specs.List.{filter, sum_by}
use Rattle.op_trees.specs.Tree.{capped}
use Rattle.jani_tree.specs.Syntax.{location_of}
use Rattle.op_trees.specs.Names.{is_called}
use Rattle.edge_tables.specs.Code.{sum_under}
use Rattle.edge_tables.proofs.values.value_counts.Given as goal

abbrev pub invariant-loop-l : goal.invariant-loop-l
invariant-loop-l l = (x : List ℕ) → capped (sum_under l.counts x) ≡ capped (sum_by (λ m. length (filter (λ w. is_called x w.target) m.values)) (map location_of (take l.l-index l.l-items)))
