use Rattle.std.proofs.Common.{◌≡◌, ◌+◌, ◌≤◌, drop}
use Rattle.state_choices.specs.Apart.{columns_apart}
use Rattle.state_choices.proofs.stepping.columns_apart.Given as goal

abbrev pub invariant-loop-i : goal.invariant-loop-i
invariant-loop-i l = (l.count ≤ l.i) × (l.count + columns_apart (drop l.i l.from) (drop l.i l.to) ≡ columns_apart l.from l.to)
