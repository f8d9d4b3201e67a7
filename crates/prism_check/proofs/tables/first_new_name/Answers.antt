use Rattle.std.specs.Prelude.{Some, true, false, bytes_eq}
use Rattle.std.proofs.Common.{sym, ap, ◌∙◌}
use Rattle.prism_check.proofs.Pairs.{pair_step}
use Rattle.prism_check.proofs.tables.first_new_name.Goals as goal

pub returns-then-eq : goal.returns-then-eq
returns-then-eq c =
    ap Some c.as_str-then-eq.ensures
    ∙ sym (pair_step c.args.pairs.now c.loop-pair.pair-index c.pair-item.result c.args.name.now true c.loop-pair-test.true c.pair-item.is
    (ap (λ n. bytes_eq n c.args.name.now) (sym c.as_str.ensures) ∙ sym c.eq.ensures ∙ c.if-eq.true) c.loop-pair.invariant)

pub loop-pair-preserved : goal.loop-pair-preserved
loop-pair-preserved c =
    pair_step c.args.pairs.now c.loop-pair.pair-index c.pair-item.result c.args.name.now false c.loop-pair-test.true c.pair-item.is
    (ap (λ n. bytes_eq n c.args.name.now) (sym c.as_str.ensures) ∙ sym c.eq.ensures ∙ c.if-eq.false) c.loop-pair.invariant
