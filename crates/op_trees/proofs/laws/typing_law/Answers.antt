use Rattle.op_trees.specs.TypeLaws.{answer_agrees, misfits_none, value_agrees}
use Rattle.op_trees.proofs.laws.typing_law.Goals as goal

pub returns : goal.returns
returns g c = record {
  value = λ types env t. value_agrees g.O.Operator.meaning g.met.O.Operator.laws types env t;
  answer = λ n. answer_agrees g.O.Operator.meaning g.met.O.Operator.laws (g.N.Names.types n) (g.N.Names.values n) (g.met.N.Names.typed n);
  misfits = λ types t. misfits_none g.O.Operator.meaning types t;
}
