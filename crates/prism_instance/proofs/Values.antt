-- The answer of an evaluation, as it is seen.
use Rattle.std.proofs.Common.{◌≡◌}
use Rattle.op_trees.specs.Meaning.{Environment, answer}
use Rattle.op_trees.specs.Seen.{known_names}
use Rattle.op_trees.specs.SeenLaws.{answer_is}
use Rattle.prism_tree.specs.Operators.{prism_meaning}
use Rattle.prism_tree.specs.Syntax.{Expression}
use Rattle.prism_names.specs.Names.{see}
use Rattle.state_choices.specs.Trimmed.{computed}

pub answers_seen : (t : Expression) (env : Environment) → answer prism_meaning t env ≡ computed (see t (known_names env))
unfolding see
answers_seen t env = answer_is prism_meaning env t
