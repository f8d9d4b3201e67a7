use Rattle.specialise_jani.proofs.Clean.{specialised_is_clean, specialised_is_short}
use Rattle.specialise_jani.proofs.laws.specialised_clean_law.Goals as goal

pub returns : goal.returns
returns c = record { clean = specialised_is_clean; short = specialised_is_short }
