use Rattle.model_specialising.proofs.Once.{one_specialise_end, specialise_end_or_fault}
use Rattle.model_specialising.proofs.laws.one_specialise_law.Goals as goal

pub returns-clause-one : goal.returns-clause-one
returns-clause-one c = one_specialise_end

pub returns-clause-apart : goal.returns-clause-apart
returns-clause-apart c = specialise_end_or_fault
