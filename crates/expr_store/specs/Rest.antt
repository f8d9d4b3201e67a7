-- What a node comes out as, once it is known what is needed of it after its first operand. (This project's own rule.)
use Rattle.std.specs.Prelude.{Result}
use Rattle.op_trees.specs.Meaning.{Meaning, both_answer}
use Rattle.op_trees.specs.declared.tree.Value.{Value}
use Rattle.op_trees.specs.declared.tree.EvalFail.{EvalFail}
use Rattle.expr_store.specs.declared.answers.Rest.{Rest}
use Rattle.expr_store.specs.declared.answers.Rest.TheVariants.{Nothing, Second, Third, Both}

abbrev pub finished : {O : Type 0} → Meaning O → O → Result Value EvalFail → Rest → Result Value EvalFail → Result Value EvalFail → Result Value EvalFail
finished m o first (Nothing r) b c = r
finished m o first Second b c = b
finished m o first Third b c = c
finished m o first Both b c = both_answer m o first b
