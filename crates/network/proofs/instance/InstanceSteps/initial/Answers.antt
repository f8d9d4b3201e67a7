use Rattle.std.proofs.Common.{◌∙◌, sym, ap, ap₂, map}
use Rattle.process_core.specs.Instance.{may_begin}
use Rattle.instance_start.specs.Columns.{column_of}
use Rattle.state_choices.specs.Trimmed.{computed}
use Rattle.network.proofs.Initially.{begun, begun_state, not_begun}
use Rattle.network.proofs.instance.InstanceSteps.initial.Goals as goal

pub returns-then-not-may_begin : goal.returns-then-not-may_begin
returns-then-not-may_begin g c =
    let i = c.args.self.now in
    let o = g.M.Outlined.outline i.model in
    let s = c.args.s.now.values in
    let test = c.may_begin.ensures ∙ ap₂ may_begin (ap (map column_of) c.as_slice.ensures.value ∙ i.sound.columns) c.as_slice-2.ensures in
    not_begun (o.at s).condition (may_begin o.scene.columns s) (sym test ∙ c.if-not-may_begin.true)

pub returns : goal.returns
returns g c =
    let i = c.args.self.now in
    let o = g.M.Outlined.outline i.model in
    let s = c.args.s.now.values in
    let test = c.may_begin.ensures ∙ ap₂ may_begin (ap (map column_of) c.as_slice.ensures.value ∙ i.sound.columns) c.as_slice-2.ensures in
    begun (o.at s).condition (may_begin o.scene.columns s) c.holds.result (sym test ∙ c.if-not-may_begin.false)
    (c.holds.ensures (o.at s).condition (c.condition_at.ensures ∙ ap computed (i.sound.condition s (begun_state o.scene.columns s c.may_begin.result test c.if-not-may_begin.false))))
