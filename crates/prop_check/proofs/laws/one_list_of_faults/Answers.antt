use Rattle.prop_check.proofs.Reading.{one_list}
use Rattle.prop_check.proofs.laws.one_list_of_faults.Goals as goal

pub returns : goal.returns
returns c = one_list c.one_syntax.ensures c.one_file.ensures
