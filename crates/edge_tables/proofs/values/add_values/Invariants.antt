use Rattle.std.specs.Prelude.{◌≡◌, ◌+◌, ℕ, List, length, map, take}
use Rattle.std.specs.List.{filter}
use Rattle.op_trees.specs.Tree.{capped}
use Rattle.jani_tree.specs.Syntax.{write_of}
use Rattle.op_trees.specs.Names.{is_called}
use Rattle.edge_tables.specs.Code.{sum_under}
use Rattle.edge_tables.proofs.values.add_values.Given as goal

abbrev pub invariant-loop-w : goal.invariant-loop-w
invariant-loop-w l = (x : List ℕ) → capped (sum_under l.counts x) ≡ capped (sum_under l.initial.counts x + length (filter (λ w. is_called x w.target) (map write_of (take l.w-index l.values))))
