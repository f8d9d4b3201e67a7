use Rattle.std.proofs.Common.{map}
use Rattle.process_core.specs.Ready.{Values}
use Rattle.state_choices.specs.Open.{open_choice}
use Rattle.state_choices.proofs.Gathering.{IsGathered}
use Rattle.state_choices.proofs.Loops.{participants_wide, participants_choice}
use Rattle.state_choices.proofs.opening.add_combinations.Given as goal

abbrev pub invariant-loop-way : goal.invariant-loop-way
invariant-loop-way l = (s : Values) → IsGathered (participants_wide l.group) (participants_choice s l.group) l.way-items (map (open_choice s) l.initial.all) l.way-index (map (open_choice s) l.all)
