use Rattle.std.proofs.Common.{◌≡◌, ◌*◌, ◌^◌, ◌<◌}
use Rattle.frac_core.specs.Gcd.{gcd}
use Rattle.frac_core.proofs.decimal.over_tens.Given as goal

abbrev pub invariant-loop-left : goal.invariant-loop-left
invariant-loop-left l = record {
  positive : 0 < l.parts.1;
  apart : gcd l.parts.0 l.parts.1 ≡ 1;
  across : l.fn.digits * (l.parts.1 * 10 ^ l.left) ≡ l.parts.0 * 10 ^ l.fn.places;
}

abbrev pub decreases-loop-left : goal.decreases-loop-left
decreases-loop-left l = l.left
