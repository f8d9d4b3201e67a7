use Rattle.prism_exprs.specs.Kept.{seen}
use Rattle.prism_exprs.proofs.Outer.{prims_read, outer_reads_by, outer_fails_by, outer_deep_read, outer_deep_failed, front_taken, front_most, left_within, left_past, left_fewer, stops_at, leaves_in, past_plain, leaves_plain}
use Rattle.prism_exprs.proofs.limit.parse_outer_prim.Goals as goal

pub returns-in_err-behind-in-Ok-clause-read : goal.returns-in_err-behind-in-Ok-clause-read
returns-in_err-behind-in-Ok-clause-read c =
    let front = front_taken c.args.tokens _ _ c.min-ahead.result c.split_at.ensures.front c.with.ensures in
    leaves_in _ _ _ _ _ _ c.from_residual.ensures (λ s. outer_deep_read prims_read s (seen c.args.tokens) _ _ _ _ _ front (front_most c.args.tokens _ c.min-ahead.ensures) c.in-Ok.ensures (left_past c.in-Ok.rest (seen c.args.tokens) _ _ c.in_err-behind-in-Ok.ensures.err))

pub overflow_sub-ahead-in-Err-At : goal.overflow_sub-ahead-in-Err-At
overflow_sub-ahead-in-Err-At c =
    let front = front_taken c.args.tokens _ _ c.min-ahead.result c.split_at.ensures.front c.with.ensures in
    left_fewer prims_read c.args.tokens c.in-Err-At.rest _ _ front (front_most c.args.tokens _ c.min-ahead.ensures) (stops_at prims_read _ _ c.in-Err-At.rest _ c.in-Err-At.field-0-is c.in-Err-At.ensures)

pub returns-in_err-stopped-in-Err-At-clause-read : goal.returns-in_err-stopped-in-Err-At-clause-read
returns-in_err-stopped-in-Err-At-clause-read c =
    let front = front_taken c.args.tokens _ _ c.min-ahead.result c.split_at.ensures.front c.with.ensures in
    leaves_in _ _ _ _ _ _ c.from_residual-in_err-stopped-in-Err-At.ensures
    (λ s. outer_deep_failed prims_read s (seen c.args.tokens) _ _ _ _ front (front_most c.args.tokens _ c.min-ahead.ensures) (stops_at prims_read _ _ c.in-Err-At.rest _ c.in-Err-At.field-0-is c.in-Err-At.ensures) (left_past c.in-Err-At.rest (seen c.args.tokens) _ _ c.in_err-stopped-in-Err-At.ensures.err))

pub returns-in_ok-behind-in-Ok-clause-read : goal.returns-in_ok-behind-in-Ok-clause-read
returns-in_ok-behind-in-Ok-clause-read c s =
    let front = front_taken c.args.tokens _ _ c.min-ahead.result c.split_at.ensures.front c.with.ensures in
    outer_reads_by prims_read s (seen c.args.tokens) _ _ _ _ _ front (front_most c.args.tokens _ c.min-ahead.ensures) c.in-Ok.ensures (left_within c.in-Ok.rest (seen c.args.tokens) _ _ c.in_ok-behind-in-Ok.ensures.ok)

pub returns-in_ok-stopped-in-Err-At-clause-read : goal.returns-in_ok-stopped-in-Err-At-clause-read
returns-in_ok-stopped-in-Err-At-clause-read c s =
    let front = front_taken c.args.tokens _ _ c.min-ahead.result c.split_at.ensures.front c.with.ensures in
    outer_fails_by prims_read s (seen c.args.tokens) _ _ _ _ front (front_most c.args.tokens _ c.min-ahead.ensures) (stops_at prims_read _ _ c.in-Err-At.rest _ c.in-Err-At.field-0-is c.in-Err-At.ensures) (left_within c.in-Err-At.rest (seen c.args.tokens) _ _ c.in_ok-stopped-in-Err-At.ensures.ok)

pub returns-in_err-behind-in-Ok-clause-plain : goal.returns-in_err-behind-in-Ok-clause-plain
returns-in_err-behind-in-Ok-clause-plain c = leaves_plain _ _ c.from_residual.ensures (past_plain _ (seen c.args.tokens) _ c.in_err-behind-in-Ok.ensures.err)

pub returns-in_err-stopped-in-Err-At-clause-plain : goal.returns-in_err-stopped-in-Err-At-clause-plain
returns-in_err-stopped-in-Err-At-clause-plain c = leaves_plain _ _ c.from_residual-in_err-stopped-in-Err-At.ensures (past_plain _ (seen c.args.tokens) _ c.in_err-stopped-in-Err-At.ensures.err)
