use Rattle.std.proofs.lemmas.Result.{IfOk-weaker}
use Rattle.std.proofs.Common.{◌∙◌}
use Rattle.generated_model.proofs.Texts.{handed_behind}
use Rattle.generated_model.proofs.text.handed_text.Goals as goal

pub returns : goal.returns
returns c = IfOk-weaker c.format.result _ _ (λ text e. e ∙ handed_behind c.args.k c.if-k-eq0.false) c.format.ensures.ok
