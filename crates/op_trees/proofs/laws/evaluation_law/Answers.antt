use Rattle.op_trees.specs.SeenLaws.{answer_is, seen_is}
use Rattle.op_trees.proofs.laws.evaluation_law.Goals as goal

pub returns : goal.returns
returns g c = λ t env. (seen_is g.O.Operator.meaning env t, answer_is g.O.Operator.meaning env t)
