use Rattle.std.proofs.Common.{◌≡◌, ◌&&◌, map, drop}
use Rattle.std.specs.List.{find, list_any}
use Rattle.process_core.specs.Ready.{same_label}
use Rattle.process_core.specs.Paths.{leads_to}
use Rattle.state_choices.specs.Open.{open_choice}
use Rattle.carry_maps.specs.Maps.{candidates}
use Rattle.path_carry.proofs.choosing.leading.Given as goal

abbrev pub invariant-loop-choice : goal.invariant-loop-choice
invariant-loop-choice l =
    find (λ c. list_any (same_label c.label) (candidates l.index.pairs.now l.label) && leads_to l.to.values c.outcome) (map (open_choice l.from.values) l.choices)
    ≡ find (λ c. list_any (same_label c.label) (candidates l.index.pairs.now l.label) && leads_to l.to.values c.outcome) (map (open_choice l.from.values) (drop l.choice-index l.choices))
