use Rattle.std.proofs.Common.{◌+◌, refl, arith}
use Rattle.decimal_json.proofs.Tokens.{leads_on, leads_end, leads_halt}
use Rattle.decimal_json.proofs.strides.after_at.Goals as goal

pub loop-whole-init : goal.loop-whole-init
loop-whole-init c = (c.requires.some, λ r f u b. f u b)

pub returns : goal.returns
returns c u b = c.loop-whole.invariant.1 _ (λ v o. c.comma_at.ensures v o) u b

pub returns-in-Err : goal.returns-in-Err
returns-in-Err c u b = leads_halt c.args.at c.args.n c.loop-whole.end c.args.bytes.now _ _ c.loop-whole.invariant.0 c.loop-whole.invariant.1 u c.in-Err.stop c.in-Err.ensures.goes c.in-Err.ensures.quiet b

pub returns-then-end-bytes : goal.returns-then-end-bytes
returns-then-end-bytes c u b = leads_end c.args.at c.args.n c.loop-whole.end c.args.bytes.now _ _ c.loop-whole.invariant.0 c.loop-whole.invariant.1 (c.loop-whole.end + 1) c.closed.new.state.frames c.in-Ok.more u refl c.if-end-bytes.true c.in-Ok.ensures.goes b

pub loop-whole-preserved : goal.loop-whole-preserved
loop-whole-preserved c = (
  (let l = c.loop-whole.invariant.0 in let e = c.if-end-bytes.false in omega (arith, l, e)),
  leads_on c.args.at c.args.n c.loop-whole.end c.args.bytes.now _ _ c.loop-whole.invariant.0 c.loop-whole.invariant.1 (c.loop-whole.end + 1) c.closed.new.state.frames c.in-Ok.more refl c.in-Ok.ensures.goes,
)
