use Rattle.std.proofs.Common.{◌+◌, ◌*◌}
use Rattle.expr_store.proofs.evaluation.Evaluation.+evaluate.Given as goal

abbrev pub decreases-value_of : goal.decreases-value_of
decreases-value_of g l = 2 * l.i + 1

abbrev pub decreases-value_anew : goal.decreases-value_anew
decreases-value_anew g l = 2 * l.i
