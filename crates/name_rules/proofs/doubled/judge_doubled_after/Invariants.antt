use Rattle.std.specs.Prelude.{List, map, drop}
use Rattle.bridge_io.specs.declared.reason.Named.{Named}
use Rattle.name_rules.specs.Least.{soonest}
use Rattle.name_rules.specs.Doubled.{doubled_after}
use Rattle.name_rules.specs.Names.{named_by}
use Rattle.name_rules.specs.Doubled.{IsLowest, lowest_under}
use Rattle.name_rules.proofs.Clashes.{Left}
use Rattle.name_rules.proofs.doubled.judge_doubled_after.Given as goal

abbrev pub invariant-loop-n : goal.invariant-loop-n
invariant-loop-n l = (ns : List Named) → IsLowest l.earlier ns →
    Left l.reason ns (lowest_under l.lowest) l.best (map named_by (drop l.n-index l.names))
    (soonest l.fn.before (doubled_after l.reason ns (map named_by l.names)))
