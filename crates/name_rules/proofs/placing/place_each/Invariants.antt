use Rattle.name_rules.specs.Rounds.{IsPlaced}
use Rattle.name_rules.proofs.placing.place_each.Given as goal

abbrev pub invariant-loop-i : goal.invariant-loop-i
invariant-loop-i l = IsPlaced l.all l.placing
