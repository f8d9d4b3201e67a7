use Rattle.std.proofs.Common.{◌≡◌, drop, map}
use Rattle.process_core.specs.Paths.{is_step}
use Rattle.state_choices.specs.Open.{open_choice}
use Rattle.state_choices.proofs.stepping.any_steps.Given as goal

abbrev pub invariant-loop-choice : goal.invariant-loop-choice
invariant-loop-choice l =
    (l.values.items ≡ l.from)
    × (is_step (map (open_choice l.from) l.choices) l.label l.to ≡ is_step (map (open_choice l.from) (drop l.choice-index l.choices)) l.label l.to)
