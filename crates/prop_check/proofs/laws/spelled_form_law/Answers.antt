use Rattle.prop_check.proofs.Spelled.{spelled_form}
use Rattle.prop_check.proofs.laws.spelled_form_law.Goals as goal

pub returns : goal.returns
returns c = spelled_form
