use Rattle.model_carrying.proofs.GivenThere.{values_fit, values_are_alike}
use Rattle.model_carrying.proofs.laws.values_law.Goals as goal

pub returns : goal.returns
returns c = record { fit = values_fit; alike = values_are_alike }
