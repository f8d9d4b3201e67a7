use Rattle.op_trees.specs.Rebuilt.{seen-walked}
use Rattle.op_trees.proofs.laws.mapping_law.Goals as goal

pub returns : goal.returns
returns g c = λ rebuilt t old new. seen-walked g.O.Operator.meaning g.Q.Operator.meaning (λ r. r) rebuilt old new t
