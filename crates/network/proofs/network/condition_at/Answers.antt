use Rattle.std.proofs.Common.{◌∙◌, ap}
use Rattle.state_choices.specs.Trimmed.{computed}
use Rattle.network.specs.Network.{setting_in}
use Rattle.network.specs.Views.{Setting, condition_by, look_at}
use Rattle.network.proofs.network.condition_at.Goals as goal

pub returns : goal.returns
returns g c =
    let m = g.O.Operator.meaning in
    let n = c.args.network.now in
    c.condition.ensures
    ∙ ap (λ (k : Setting _). computed (condition_by (look_at m k) k.values c.as_slice.result.now n.condition)) c.here-here.ensures
    ∙ ap (λ l. computed (condition_by (look_at m (setting_in n c.args.s.now.values)) c.args.s.now.values l n.condition)) c.as_slice.ensures.value
