use Rattle.jani_props.proofs.Only.{one_written, no_first_fault}
use Rattle.jani_props.proofs.laws.written_law.Goals as goal

pub returns-clause-one : goal.returns-clause-one
returns-clause-one c = one_written

pub returns-clause-no_fault : goal.returns-clause-no_fault
returns-clause-no_fault c = no_first_fault
