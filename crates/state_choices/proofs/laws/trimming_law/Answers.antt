use Rattle.state_choices.proofs.TrimmedChoices.{trimming_law}
use Rattle.state_choices.proofs.ComputedLaws.{computed_laws}
use Rattle.state_choices.proofs.laws.trimming_law.Goals as goal

pub returns : goal.returns
returns c = record { choices = trimming_law; computed = computed_laws }
