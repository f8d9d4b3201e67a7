use Rattle.name_rules.specs.Names.{has_name}
use Rattle.name_rules.specs.Rounds.{StillLeading, IsLeadingTurnTo}
use Rattle.name_rules.proofs.circles.add_some.Given as goal

abbrev pub invariant-loop-i : goal.invariant-loop-i
invariant-loop-i l =
    StillLeading l.all (has_name l.initial.leading) (has_name l.leading)
    × IsLeadingTurnTo l.all l.i (has_name l.initial.leading) (has_name l.leading) l.some
