use Rattle.specialise_prism.proofs.Clean.{specialised_is_clean}
use Rattle.specialise_prism.proofs.laws.specialised_clean_law.Goals as goal

pub returns : goal.returns
returns c = specialised_is_clean
