use Rattle.std.proofs.Common.{◌≡◌, ap, sym, ◌∙◌, length, get_or, arith}
use Rattle.path_carry.proofs.Loops.{lost_no_label}
use Rattle.path_carry.proofs.lost.lost_line.Goals as goal

pub returns-then-not-has : goal.returns-then-not-has
returns-then-not-has g c =
    let k = c.loop-k.k in
    let l = c.label-item.result in
    let same : c.as_slice-label-items.result.now ≡ c.args.path.now.labels = c.as_slice-label-items.ensures in
    let lengths = ap length same in
    let all = ap length c.as_slice-states.ensures in
    sym (c.loop-k.invariant
    ∙ lost_no_label (g.S.Steps.process c.args.s.now).is_state (g.D.Direction.has c.args.index.now.pairs.now) k c.as_slice-states.result.now c.args.path.now.labels l (omega arith) (omega arith)
    (c.label-item.is ∙ ap (λ x. get_or x k l) same) (sym c.has.ensures ∙ c.if-not-has.true))
