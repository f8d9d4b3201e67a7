use Rattle.std.proofs.Common.{[], map}
use Rattle.state_choices.specs.Open.{way_of}
use Rattle.state_choices.proofs.Gathering.{IsGathered}
use Rattle.state_choices.proofs.Loops.{update_wide, update_ways}
use Rattle.state_choices.proofs.branches.branches_alone.Given as goal

abbrev pub invariant-loop-update : goal.invariant-loop-update
invariant-loop-update l = IsGathered update_wide update_ways l.updates [] l.update-index (map way_of l.all)
