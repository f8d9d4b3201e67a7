-- The results that an evaluation keeps. (This project's own rule.)
use Rattle.std.specs.Prelude.{◌≡◌, ℕ, List, Option, Some, Result}
use Rattle.std.specs.Coded.{Coded-set, coded_result}
use Rattle.op_trees.specs.Meaning.{Meaning}
use Rattle.op_trees.specs.declared.tree.Value.{Value}
use Rattle.op_trees.specs.declared.tree.EvalFail.{EvalFail}
use Rattle.op_trees.specs.contracts.tree.Value as value
use Rattle.op_trees.specs.contracts.tree.EvalFail as fail
use Rattle.process_core.specs.Ready.{Values}
use Rattle.state_choices.specs.Trimmed.{computed}
use Rattle.instance_start.specs.Columns.{value_at}
use Rattle.expr_store.specs.Nodes.{seen_at}
use Rattle.expr_store.specs.declared.node.Node.{Node}

-- equations between results have one proof at most
pub one_result : IsSet (Result Value EvalFail)
one_result = Coded-set (coded_result value.the_row.coded fail.the_row.coded)

-- each result that is found is that of its node
module _ {O : Type 0} (m : Meaning O) (ns : List (Node O)) (values : Values) (constants : List (Option Value)) (found : ℕ → Option (Result Value EvalFail)) where
  pub record IsRight : Type 0 where
    pub right : (i : ℕ) (r : Result Value EvalFail) → found i ≡ Some r → r ≡ computed (seen_at m (value_at values constants) ns i)

  pub IsRight-prop : IsProp IsRight
  IsRight-prop = hlevel one_result
