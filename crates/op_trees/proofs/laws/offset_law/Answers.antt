use Rattle.op_trees.specs.SeenLaws.{seen_same}
use Rattle.op_trees.specs.TypeLaws.{type_same}
use Rattle.op_trees.proofs.laws.offset_law.Goals as goal

pub returns : goal.returns
returns g c = record {
  answers = λ t u. seen_same g.O.Operator.meaning t u;
  types = λ t u. type_same g.O.Operator.meaning t u;
}
