use Rattle.std.proofs.Common.{◌≡◌, ◌++◌}
use Rattle.row_check.specs.Keys.{choice_key, entries_key}
use Rattle.row_check.proofs.counting.key_of.Given as goal

abbrev pub invariant-loop-number : goal.invariant-loop-number
invariant-loop-number l = l.key.items ++ entries_key l.number-iterator ≡ choice_key l.choice
