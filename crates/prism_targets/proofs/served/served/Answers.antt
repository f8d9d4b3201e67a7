use Rattle.std.proofs.Common.{[]}
use Rattle.std.specs.Borrow.{Bor}
use Rattle.prism_targets.specs.declared.rows.VectorRow.{VectorRow}
use Rattle.edge_tables.specs.Tables.{numbers_served}
use Rattle.prism_targets.specs.Code.{row_view}
use Rattle.gathering.proofs.Loops.{flat_seen}
use Rattle.prism_targets.proofs.served.served.Goals as goal

pub loop-row-preserved : goal.loop-row-preserved
loop-row-preserved c = λ e.
    flat_seen (numbers_served c.args.element (record { edge = e; rewarding = c.args.rewarding; rank = c.args.rank })) (λ (r : Bor VectorRow). row_view r.now) c.args.rows.now c.loop-row.row-index
    c.row-item.result [] c.loop-row.all.items c.add_served.new.all.items c.loop-row-test.true c.row-item.is (c.loop-row.invariant e) (c.in_ok-add_served.ensures e)
