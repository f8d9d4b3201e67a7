use Rattle.std.proofs.Common.{◌≡◌, ◌*◌, ◌^◌}
use Rattle.frac_core.proofs.decimal.times_tens.Given as goal

abbrev pub invariant-loop-left : goal.invariant-loop-left
invariant-loop-left l = l.size * 10 ^ l.left ≡ l.fn.digits * 10 ^ l.fn.places

abbrev pub decreases-loop-left : goal.decreases-loop-left
decreases-loop-left l = l.left
