use Rattle.std.proofs.Common.{ap, ◌∙◌}
use Rattle.std.specs.Prelude.{bytes_eq, find}
use Rattle.jani_table.specs.Table.{Row, spelled}
use Rattle.jani_table.proofs.Found.{found_here, found_later, found_nowhere}
use Rattle.jani_table.proofs.table.row.Goals as goal

pub returns-then-eq : goal.returns-then-eq
returns-then-eq c =
    found_here (λ (r : Row). bytes_eq (spelled r.0) c.args.key.now) c.rows-row-items.result.now c.loop-row.row-index _ _ _ (c.eq.ensures ∙ ap (λ s. bytes_eq s c.args.key.now) c.text.ensures) c.if-eq.true c.loop-row-test.true c.loop-row.invariant
    ∙ ap (find (λ (r : Row). bytes_eq (spelled r.0) c.args.key.now)) c.rows-row-items.ensures

pub loop-row-preserved : goal.loop-row-preserved
loop-row-preserved c =
    found_later (λ (r : Row). bytes_eq (spelled r.0) c.args.key.now) c.rows-row-items.result.now c.loop-row.row-index _ _ _ (c.eq.ensures ∙ ap (λ s. bytes_eq s c.args.key.now) c.text.ensures) c.if-eq.false c.loop-row-test.true c.loop-row.invariant

pub returns : goal.returns
returns c =
    found_nowhere (λ (r : Row). bytes_eq (spelled r.0) c.args.key.now) c.rows-row-items.result.now c.loop-row.row-index _ c.loop-row-test.false c.loop-row.invariant
    ∙ ap (find (λ (r : Row). bytes_eq (spelled r.0) c.args.key.now)) c.rows-row-items.ensures
