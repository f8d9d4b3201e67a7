use Rattle.name_rules.specs.Names.{has_name}
use Rattle.name_rules.specs.Rounds.{StillLeading}
use Rattle.name_rules.proofs.circles.add_found.Given as goal

abbrev pub invariant-loop-step : goal.invariant-loop-step
invariant-loop-step l = StillLeading l.all (has_name l.initial.leading) (has_name l.leading)
