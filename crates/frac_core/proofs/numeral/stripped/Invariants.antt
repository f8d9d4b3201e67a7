use Rattle.std.proofs.Common.{◌≡◌, ◌*◌, ◌^◌, ◌<◌, ◌≤◌}
use Rattle.frac_core.proofs.numeral.stripped.Given as goal

abbrev pub invariant-loop-left : goal.invariant-loop-left
invariant-loop-left l = record {
  product : l.left * 10 ^ l.zeros ≡ l.digits;
  above : 0 < l.left;
  few : l.zeros ≤ 38;
}

abbrev pub decreases-loop-left : goal.decreases-loop-left
decreases-loop-left l = l.left
