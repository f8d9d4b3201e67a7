use Rattle.std.specs.Prelude.{◌≡◌, ◌+◌, map, max, drop}
use Rattle.op_trees.specs.Tree.{capped}
use Rattle.prop_check.specs.Sized.{highest, nodes}
use Rattle.prop_check.specs.Views.{part_of}
use Rattle.prop_check.proofs.sizes.parts_size.Given as goal

abbrev pub invariant-loop-part : goal.invariant-loop-part
invariant-loop-part l = record {
  nodes : capped (l.all.nodes + nodes l.scope.file (map part_of (drop l.part-index l.parts))) ≡ capped (nodes l.scope.file (map part_of l.parts));
  height : capped (max l.all.height (highest l.scope.file (map part_of (drop l.part-index l.parts))))
      ≡ capped (highest l.scope.file (map part_of l.parts));
  nodes_fit : capped l.all.nodes ≡ l.all.nodes;
  height_fits : capped l.all.height ≡ l.all.height;
}
