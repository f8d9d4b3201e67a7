use Rattle.std.proofs.Common.{◌+◌, ◌*◌}
use Rattle.op_trees.specs.Tree.{tree, node_count}
use Rattle.jani_tree.proofs.write.+expression_json.Given as goal

abbrev pub decreases-expression_json : goal.decreases-expression_json
decreases-expression_json l = 3 * node_count (tree l.e.now)

abbrev pub decreases-add_expression : goal.decreases-add_expression
decreases-add_expression l = 3 * node_count (tree l.e.now) + 1

abbrev pub decreases-add_two : goal.decreases-add_two
decreases-add_two l = 3 * (node_count (tree l.left.now) + node_count (tree l.right.now)) + 2

abbrev pub decreases-add_three : goal.decreases-add_three
decreases-add_three l = 3 * (node_count (tree l.test.now) + (node_count (tree l.yes.now) + node_count (tree l.no.now))) + 2
