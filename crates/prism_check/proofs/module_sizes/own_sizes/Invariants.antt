use Rattle.std.specs.Prelude.{◌≡◌, ◌+◌, ℕ, List, map, max, drop}
use Rattle.std.specs.List.{flat_map}
use Rattle.std.specs.Option.{option_map, option_or}
use Rattle.op_trees.specs.Tree.{capped}
use Rattle.prism_tree.specs.Syntax.{module_of}
use Rattle.prism_check.specs.Counted.{height_in, highest, nodes_in, nodes_of, own_demands, own_size}
use Rattle.name_rules.specs.Names.{under}
use Rattle.prism_check.specs.Tables.{named_module}
use Rattle.prism_check.proofs.module_sizes.own_sizes.Given as goal

abbrev pub invariant-loop-entry : goal.invariant-loop-entry
invariant-loop-entry l = record {
  nodes : capped (l.sum.nodes + nodes_of (nodes_in l.formulas) (flat_map own_demands (map module_of (drop l.entry-index l.all))))
      ≡ capped (nodes_of (nodes_in l.formulas) (flat_map own_demands (map module_of l.all)));
  height : capped (max l.sum.height (highest (height_in l.formulas) (flat_map own_demands (map module_of (drop l.entry-index l.all)))))
      ≡ capped (highest (height_in l.formulas) (flat_map own_demands (map module_of l.all)));
  nodes_fit : capped l.sum.nodes ≡ l.sum.nodes;
  height_fits : capped l.sum.height ≡ l.sum.height;
  named : (x : List ℕ) →
      option_or (under l.named x) (option_map (own_size (nodes_in l.formulas) (height_in l.formulas)) (named_module (drop l.entry-index l.all) x))
      ≡ option_map (own_size (nodes_in l.formulas) (height_in l.formulas)) (named_module l.all x);
}
