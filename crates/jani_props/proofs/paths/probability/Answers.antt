use Rattle.std.proofs.lemmas.Result.{IfOk-weaker}
use Rattle.jani_table.specs.Node.{node}
use Rattle.jani_props.proofs.Cleaned.{has_op}
use Rattle.jani_props.proofs.Parts.{is_at}
use Rattle.jani_props.proofs.paths.probability.Goals as goal

pub returns : goal.returns
returns c = IfOk-weaker c.path.result _ _ (λ p i. (has_op (node c.args.value.now) c.args.op c.requires.op, is_at _ _ _ c.required.ensures.member i)) c.path.ensures
