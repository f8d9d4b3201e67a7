use Rattle.jani_meaning.proofs.Constants.{constants_have_values}
use Rattle.jani_meaning.proofs.constant_law.Goals as goal

pub returns : goal.returns
returns c = constants_have_values
