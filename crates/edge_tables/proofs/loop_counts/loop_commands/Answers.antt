use Rattle.std.specs.Prelude.{◌*◌, List, Some, length}
use Rattle.std.specs.List.{sum_by}
use Rattle.std.proofs.Common.{◌∙◌, ap, take_all}
use Rattle.bridge_io.specs.declared.reason.Named.{Named}
use Rattle.op_trees.specs.Tree.{capped}
use Rattle.edge_tables.specs.Counts.{action_count}
use Rattle.edge_tables.specs.Code.{sum_under}
use Rattle.edge_tables.proofs.Summing.{capped_factor, product_next}
use Rattle.edge_tables.proofs.loop_counts.loop_commands.Goals as goal

pub loop-x-preserved : goal.loop-x-preserved
loop-x-preserved c = λ ss k h.
    let x = c.x-item.result in
    product_next (λ (x : Named). length c.args.locations.now * action_count ss k (Some x.name)) c.args.actions.now c.loop-x.x-index x c.loop-x.sum c.saturating_add-sum.result c.saturating_mul-next.result
    c.loop-x-test.true c.x-item.is (c.loop-x.invariant ss k h)
    (c.saturating_mul-next.ensures
    ∙ capped_factor (length c.args.locations.now) c.get.result (action_count ss k (Some x.name))
    (c.get.ensures ∙ ap (sum_under c.args.sums.now) c.as_str.ensures ∙ h x.name))
    c.saturating_add-sum.ensures

pub returns : goal.returns
returns c = λ ss k h.
    c.loop-x.invariant ss k h
    ∙ ap (λ (xs : List Named). capped (sum_by (λ x. length c.args.locations.now * action_count ss k (Some x.name)) xs)) (take_all c.loop-x.x-index c.args.actions.now c.loop-x-test.false)
