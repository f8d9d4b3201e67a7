use Rattle.op_trees.specs.SeenLaws.{looked_up_is, seen-renamed_written_out}
use Rattle.op_trees.specs.TypeLaws.{type-renamed_written_out}
use Rattle.op_trees.proofs.laws.formula_law.Goals as goal

pub returns : goal.returns
returns g c = record {
  answers = λ new env f n t. seen-renamed_written_out g.O.Operator.meaning new env f n t;
  types = λ new types f n t. type-renamed_written_out g.O.Operator.meaning new types f n t;
  names = λ f rank falling env n x. looked_up_is g.O.Operator.meaning f rank falling env n x;
}
