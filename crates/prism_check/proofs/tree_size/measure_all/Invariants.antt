use Rattle.std.specs.Prelude.{◌≡◌, ◌+◌, map, max, drop}
use Rattle.op_trees.specs.Tree.{capped}
use Rattle.prism_check.specs.Counted.{height_in, highest, nodes_in, nodes_of}
use Rattle.prism_check.specs.Views.{demand_by}
use Rattle.prism_check.proofs.tree_size.measure_all.Given as goal

abbrev pub invariant-loop-demand : goal.invariant-loop-demand
invariant-loop-demand l = record {
  nodes : capped (l.all.nodes + nodes_of (nodes_in l.names) (map demand_by (drop l.demand-index l.demands)))
      ≡ capped (nodes_of (nodes_in l.names) (map demand_by l.demands));
  height : capped (max l.all.height (highest (height_in l.names) (map demand_by (drop l.demand-index l.demands))))
      ≡ capped (highest (height_in l.names) (map demand_by l.demands));
  nodes_fit : capped l.all.nodes ≡ l.all.nodes;
  height_fits : capped l.all.height ≡ l.all.height;
}
