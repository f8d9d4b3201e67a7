use Rattle.std.proofs.Common.{◌≡◌, take, nat_eq, false}
use Rattle.std.specs.List.{list_any}
use Rattle.row_check.proofs.row_files.split_before_space.Given as goal

abbrev pub invariant-loop-i : goal.invariant-loop-i
invariant-loop-i l = list_any (nat_eq 32) (take l.i l.text) ≡ false
