use Rattle.name_rules.specs.Rounds.{IsPlaced, IsTurnTo}
use Rattle.name_rules.proofs.placing.place_some.Given as goal

abbrev pub invariant-loop-i : goal.invariant-loop-i
invariant-loop-i l = IsPlaced l.all l.placing × IsTurnTo l.all l.i l.initial.placing l.placing l.some
