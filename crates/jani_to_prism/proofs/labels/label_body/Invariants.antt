use Rattle.std.proofs.Common.{◌≡◌, ◌≤◌, map, drop, length}
use Rattle.op_trees.specs.Tree.{tree}
use Rattle.prism_targets.specs.Marks.{label_body}
use Rattle.prism_modules.specs.Code.{file_in, names_in}
use Rattle.jani_to_prism.specs.Given.{given_of}
use Rattle.jani_to_prism.proofs.labels.label_body.Given as goal

abbrev pub invariant-loop-left : goal.invariant-loop-left
invariant-loop-left l = record {
  within : l.left ≤ length l.given;
  body : tree l.body ≡ label_body (file_in l.names) (names_in l.names) (tree l.fn.other) (map given_of (drop l.left l.given));
}

abbrev pub decreases-loop-left : goal.decreases-loop-left
decreases-loop-left l = l.left
