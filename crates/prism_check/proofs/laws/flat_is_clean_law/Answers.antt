use Rattle.prism_check.proofs.CleanFile.{flat_has_no_fault, flat_is_checked, flat_is_clean}
use Rattle.prism_check.proofs.FlatTwice.{flat_twice}
use Rattle.prism_check.proofs.laws.flat_is_clean_law.Goals as goal

pub returns : goal.returns
returns c = record { clean = flat_is_clean; sound = flat_has_no_fault; checked = flat_is_checked; stays = flat_twice }
