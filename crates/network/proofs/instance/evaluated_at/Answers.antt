use Rattle.std.proofs.Common.{Result, Ok, Err, IfOk, map, refl}
use Rattle.state_choices.specs.Trimmed.{trimmed_group}
use Rattle.network.specs.Computed.{groups_of}
use Rattle.network.specs.Network.{groups_at}
use Rattle.network.specs.Outline.{process_by}
use Rattle.network.proofs.Sparing.{told_at}
use Rattle.network.proofs.Whole.{combined_at}
use Rattle.network.proofs.instance.evaluated_at.Goals as goal

then_ok : {X E : Type 0} {P Q : X → Type 0} (r : Result X E) → ((x : X) → P x → Q x) → IfOk r P → IfOk r Q
then_ok (Ok x) f h = f x h
then_ok (Err e) f h = tt

pub returns : goal.returns
returns g c =
    let i = c.args.instance.now in
    let o = g.M.Outlined.outline i.model in
    let s = c.args.s.now.values in
    let gs = map trimmed_group (groups_at g.O.Operator.meaning i.network s) in
    then_ok c.evaluated.result
    (λ e h. told_at (process_by o) s (groups_of e i.network.vectors.items) gs h.told_alike
    (combined_at (process_by o) s (o.at s).combinations gs (i.sound.combined s c.requires) refl refl))
    c.evaluated.ensures
