use Rattle.op_trees.specs.Tree.{tree}
use Rattle.jani_check.proofs.SameRewards.{decided}
use Rattle.jani_check.proofs.rewards.same_tree.Goals as goal

pub returns : goal.returns
returns c = decided (tree c.args.a.now) (tree c.args.b.now) c.same.result c.same.ensures
