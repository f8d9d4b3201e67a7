use Rattle.process_core.specs.Equal.{equal_values_is, equal_states_is, equal_branches_is, equal_choices_is, equal_choices}
use Rattle.process_core.specs.Counts.{often_from_counts}
use Rattle.process_core.proofs.laws.equality_laws.Goals as goal

pub returns-clause-tests : goal.returns-clause-tests
returns-clause-tests c = record { values = equal_values_is; states = equal_states_is; branches = equal_branches_is; choices = equal_choices_is }

pub returns-clause-counts : goal.returns-clause-counts
returns-clause-counts c = often_from_counts equal_choices equal_choices_is
