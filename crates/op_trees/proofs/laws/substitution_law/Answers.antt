use Rattle.op_trees.specs.SeenLaws.{seen-substituted, seen-substituted_same}
use Rattle.op_trees.specs.TypeLaws.{type-substituted}
use Rattle.op_trees.proofs.laws.substitution_law.Goals as goal

pub returns : goal.returns
returns g c = record {
  bodies = λ f t env. seen-substituted g.O.Operator.meaning f t env;
  answers = λ f t. seen-substituted_same g.O.Operator.meaning f t;
  types = λ f t types. type-substituted g.O.Operator.meaning f t types;
}
