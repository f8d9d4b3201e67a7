use Rattle.std.proofs.Common.{[], map}
use Rattle.state_choices.specs.Open.{way_of}
use Rattle.state_choices.proofs.Gathering.{IsGathered}
use Rattle.state_choices.proofs.Loops.{way_wide, way_ways}
use Rattle.state_choices.proofs.branches.branches_of.Given as goal

abbrev pub invariant-loop-way : goal.invariant-loop-way
invariant-loop-way l = IsGathered way_wide way_ways l.ways [] l.way-index (map way_of l.all)
