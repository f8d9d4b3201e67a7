use Rattle.std.proofs.Common.{◌∙◌, ap, ap₂, map}
use Rattle.network.specs.Computed.{component_seen, own_seen, sums_seen}
use Rattle.network.specs.Network.{setting_in}
use Rattle.network.specs.Views.{look_at, member_of}
use Rattle.network.proofs.Whole.{evaluated_is}
use Rattle.network.proofs.network.evaluated_here.Goals as goal

pub returns : goal.returns
returns g c =
    let m = g.O.Operator.meaning in
    let n = c.args.network.now in
    evaluated_is m n c.args.here.now.values.now _ _ _
    (c.in_ok-members.ensures.1 ∙ ap₂ (λ k l. map (component_seen m k) l) c.requires.here c.as_slice.ensures.value)
    (c.in_ok-rewards.ensures.1 ∙ ap₂ (λ k l. sums_seen (look_at m k) n.rewards l) c.requires.here c.as_slice-2.ensures.value)
    (c.in_ok-own.ensures.1
    ∙ ap₂ (λ k l. map (own_seen (look_at m k) n.rewards (map member_of c.as_slice-4.result.now)) l) c.requires.here c.as_slice-3.ensures.value
    ∙ ap (λ l. map (own_seen (look_at m (setting_in n c.args.here.now.values.now)) n.rewards (map member_of l)) n.vectors.items) c.as_slice-4.ensures.value)
