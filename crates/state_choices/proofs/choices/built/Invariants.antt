use Rattle.std.proofs.Common.{◌≡◌, map, take}
use Rattle.process_core.specs.Seen.{seen_choice}
use Rattle.state_choices.specs.Open.{open_choice}
use Rattle.state_choices.proofs.choices.built.Given as goal

abbrev pub invariant-loop-choice : goal.invariant-loop-choice
invariant-loop-choice l = map seen_choice l.all ≡ map (open_choice l.s.values) (take l.choice-index l.choices)
