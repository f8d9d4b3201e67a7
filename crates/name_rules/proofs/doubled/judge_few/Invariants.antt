use Rattle.std.specs.Prelude.{◌≡◌, map, take, drop, reverse}
use Rattle.name_rules.specs.Least.{soonest}
use Rattle.name_rules.specs.Doubled.{doubled, doubled_after}
use Rattle.name_rules.specs.Names.{named_by}
use Rattle.name_rules.proofs.doubled.judge_few.Given as goal

abbrev pub invariant-loop-i : goal.invariant-loop-i
invariant-loop-i l =
    soonest l.best (doubled_after l.reason (reverse (map named_by (take l.i l.names))) (map named_by (drop l.i l.names)))
    ≡ soonest l.fn.before (doubled l.reason (map named_by l.names))
