use Rattle.model_carrying.proofs.Once.{carry_end_or_fault, one_carry_end, one_carry_fault}
use Rattle.model_carrying.proofs.laws.one_carry_law.Goals as goal

pub returns-clause-one : goal.returns-clause-one
returns-clause-one c = one_carry_end c.described_law.ensures c.form_law.ensures.flat c.form_laws.ensures.one_path

pub returns-clause-fault : goal.returns-clause-fault
returns-clause-fault c = one_carry_fault c.described_law.ensures c.form_law.ensures.flat c.form_laws.ensures.one_path c.one_syntax.ensures c.places_law.ensures.sizes

pub returns-clause-apart : goal.returns-clause-apart
returns-clause-apart c = carry_end_or_fault c.described_law.ensures c.form_law.ensures.flat c.form_laws.ensures.one_path c.places_law.ensures.sizes
