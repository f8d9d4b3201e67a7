use Rattle.std.proofs.Common.{ap, ◌∙◌}
use Rattle.std.specs.Prelude.{bytes_eq, find}
use Rattle.jani_table.proofs.Found.{found_here, found_later, found_nowhere}
use Rattle.jani_props.specs.Table.{Row, spelled_key}
use Rattle.jani_props.proofs.table.own_row.Goals as goal

pub returns-then-eq : goal.returns-then-eq
returns-then-eq c =
    found_here (λ (r : Row). bytes_eq (spelled_key r.0) c.args.key.now) c.own_rows-row-items.result.now c.loop-row.row-index _ _ _ (c.eq.ensures ∙ ap (λ s. bytes_eq s c.args.key.now) c.text.ensures) c.if-eq.true c.loop-row-test.true c.loop-row.invariant
    ∙ ap (find (λ (r : Row). bytes_eq (spelled_key r.0) c.args.key.now)) c.own_rows-row-items.ensures

pub loop-row-preserved : goal.loop-row-preserved
loop-row-preserved c =
    found_later (λ (r : Row). bytes_eq (spelled_key r.0) c.args.key.now) c.own_rows-row-items.result.now c.loop-row.row-index _ _ _ (c.eq.ensures ∙ ap (λ s. bytes_eq s c.args.key.now) c.text.ensures) c.if-eq.false c.loop-row-test.true c.loop-row.invariant

pub returns : goal.returns
returns c =
    found_nowhere (λ (r : Row). bytes_eq (spelled_key r.0) c.args.key.now) c.own_rows-row-items.result.now c.loop-row.row-index _ c.loop-row-test.false c.loop-row.invariant
    ∙ ap (find (λ (r : Row). bytes_eq (spelled_key r.0) c.args.key.now)) c.own_rows-row-items.ensures
