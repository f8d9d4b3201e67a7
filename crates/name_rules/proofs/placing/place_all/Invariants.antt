use Rattle.name_rules.specs.Rounds.{IsPlaced, open_from}
use Rattle.name_rules.proofs.placing.place_all.Given as goal

abbrev pub invariant-loop-placing : goal.invariant-loop-placing
invariant-loop-placing l = IsPlaced l.all l.placing

abbrev pub decreases-loop-placing : goal.decreases-loop-placing
decreases-loop-placing l = open_from 0 l.placing.placed.items
