use Rattle.std.proofs.Common.{map, []}
use Rattle.std.specs.List.{list_any}
use Rattle.process_core.specs.Ready.{Values}
use Rattle.state_choices.specs.Open.{open_choice}
use Rattle.process_core.specs.Choices.{choices}
use Rattle.process_core.specs.Bounds.{is_wide_rest}
use Rattle.state_choices.specs.Views.{group_of}
use Rattle.state_choices.specs.Groups.{of_group}
use Rattle.state_choices.proofs.Gathering.{IsGathered}
use Rattle.state_choices.proofs.opening.all_choices.Given as goal

abbrev pub invariant-loop-group : goal.invariant-loop-group
invariant-loop-group l = (s : Values) → IsGathered (λ g. list_any is_wide_rest (of_group (group_of g))) (λ g. choices s (of_group (group_of g))) l.groups [] l.group-index (map (open_choice s) l.all)
