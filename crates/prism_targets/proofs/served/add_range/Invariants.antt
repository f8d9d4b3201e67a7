use Rattle.std.proofs.Common.{◌≡◌, ◌≤◌, ◌++◌, ◌-◌, max}
use Rattle.std.specs.List.{range_with_len}
use Rattle.prism_targets.proofs.served.add_range.Given as goal

abbrev pub invariant-loop-number : goal.invariant-loop-number
invariant-loop-number l = record {
  within : l.number ≤ max l.row.first l.row.end;
  numbers : l.all.items ≡ l.initial.all.items ++ range_with_len l.row.first (l.number - l.row.first);
}
