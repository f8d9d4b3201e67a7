use Rattle.op_trees.specs.SeenLaws.{seen-renamed}
use Rattle.op_trees.specs.TypeLaws.{type-renamed}
use Rattle.op_trees.proofs.laws.renaming_law.Goals as goal

pub returns : goal.returns
returns g c = record {
  answers = λ new env t. seen-renamed g.O.Operator.meaning new env t;
  types = λ new types t. type-renamed g.O.Operator.meaning new types t;
}
