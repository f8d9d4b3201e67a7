use Rattle.std.specs.Prelude.{◌≡◌, ◌+◌, map, max, drop}
use Rattle.op_trees.specs.Tree.{capped}
use Rattle.prism_tree.specs.Syntax.{module_of}
use Rattle.prism_check.specs.Counted.{all_nodes, copied_size, tallest}
use Rattle.name_rules.specs.Names.{under}
use Rattle.prism_check.proofs.module_sizes.copies_size.Given as goal

abbrev pub invariant-loop-entry : goal.invariant-loop-entry
invariant-loop-entry l = record {
  nodes : capped (l.sum.nodes + all_nodes (map (copied_size (under l.named)) (map module_of (drop l.entry-index l.all))))
      ≡ capped (all_nodes (map (copied_size (under l.named)) (map module_of l.all)));
  height : max l.sum.height (tallest (map (copied_size (under l.named)) (map module_of (drop l.entry-index l.all))))
      ≡ tallest (map (copied_size (under l.named)) (map module_of l.all));
  nodes_fit : capped l.sum.nodes ≡ l.sum.nodes;
}
