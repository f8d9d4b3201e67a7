use Rattle.std.specs.Prelude.{◌≡◌, ◌≤◌, ◌-◌, ◌^◌, ◌+◌, map, drop}
use Rattle.op_trees.specs.Tree.{capped}
use Rattle.edge_tables.specs.Counts.{commands_from, nodes_from}
use Rattle.edge_tables.specs.Code.{table_view, split_view}
use Rattle.edge_tables.proofs.counts.whole_size.Given as goal

abbrev pub invariant-loop-k : goal.invariant-loop-k
invariant-loop-k l = record {
  commands : capped (l.whole.commands + commands_from (map split_view l.splits) l.k (map table_view (drop l.k l.elements))) ≡ capped (commands_from (map split_view l.splits) 0 (map table_view l.elements));
  nodes : l.whole.commands ≤ 200000 →
      capped (l.whole.nodes + nodes_from (map split_view l.splits) l.k (map table_view (drop l.k l.elements))) ≡ capped (nodes_from (map split_view l.splits) 0 (map table_view l.elements));
  few_commands : l.whole.commands ≤ 2 ^ 64 - 1;
  few_nodes : l.whole.commands ≤ 200000 → l.whole.nodes ≤ 2 ^ 64 - 1;
}
