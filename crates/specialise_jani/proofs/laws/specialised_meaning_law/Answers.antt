use Rattle.specialise_jani.proofs.Meaning.{given_are_defined, given_have_values, specialised_means_the_same}
use Rattle.specialise_jani.proofs.laws.specialised_meaning_law.Goals as goal

pub returns : goal.returns
returns c = record { same = specialised_means_the_same; given = given_have_values; defined = given_are_defined }
