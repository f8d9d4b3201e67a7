use Rattle.std.proofs.Common.{map}
use Rattle.process_core.specs.Ready.{Values}
use Rattle.state_choices.specs.Open.{open_choice}
use Rattle.state_choices.proofs.Gathering.{IsGathered}
use Rattle.state_choices.proofs.Loops.{alone_wide, alone_choice}
use Rattle.state_choices.proofs.opening.add_each_alone.Given as goal

abbrev pub invariant-loop-command : goal.invariant-loop-command
invariant-loop-command l = (s : Values) → IsGathered (alone_wide l.group) (alone_choice s l.group) l.list (map (open_choice s) l.initial.all) l.command-index (map (open_choice s) l.all)
