use Rattle.std.proofs.Common.{◌≡◌, ◌≤◌, drop, length, nat_eq, false}
use Rattle.std.specs.List.{list_any}
use Rattle.row_check.proofs.texts.split_at_last_space.Given as goal

abbrev pub invariant-loop-i : goal.invariant-loop-i
invariant-loop-i l = record {
  within : l.i ≤ length l.text;
  none : list_any (nat_eq 32) (drop l.i l.text) ≡ false;
}

abbrev pub decreases-loop-i : goal.decreases-loop-i
decreases-loop-i l = l.i
