-- The groups of combinations that a process has at a state.
-- (PRISM manual, "The PRISM Language": "Commands", "Synchronisation"; jani-model specification, "Edges", "Compositions".)
use Rattle.std.specs.Prelude.{◌≡◌, List, None}
use Rattle.process_core.specs.Ready.{Values}
use Rattle.process_core.specs.Bounds as core
use Rattle.process_core.specs.Choices as core_choices
use Rattle.process_core.specs.Steps.{Process}
use Rattle.state_choices.specs.Groups.{Group, of_groups}

-- What passes a bound in the process at the state does so in these groups; and where nothing does, its choices are theirs.
pub record AreGroupsAt (p : Process) (s : Values) (gs : List Group) : Type 0 where
  pub excess : core.excess (of_groups gs) ≡ p.excess s
  pub choices : p.excess s ≡ None → core_choices.choices s (of_groups gs) ≡ p.choices s
