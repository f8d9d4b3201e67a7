use Rattle.std.specs.Prelude.{◌≡◌, drop, map}
use Rattle.std.specs.List.{flat_map}
use Rattle.name_rules.specs.Least.{soonest}
use Rattle.name_rules.specs.Names.{named_by}
use Rattle.name_rules.specs.Unknown.{unless_known}
use Rattle.name_rules.proofs.unknown.judge_uses.Given as goal

abbrev pub invariant-loop-n : goal.invariant-loop-n
invariant-loop-n g l =
    soonest l.best (flat_map (unless_known (g.K.Telling.tells l.known)) (map named_by (drop l.n-index l.names)))
    ≡ soonest l.fn.before (flat_map (unless_known (g.K.Telling.tells l.known)) (map named_by l.names))
