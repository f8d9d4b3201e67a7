use Rattle.jani_translation_laws.proofs.SameMeaning.{translation_means_the_same}
use Rattle.jani_translation_laws.proofs.meaning.same_meaning_law.Goals as goal

pub returns : goal.returns
returns c = translation_means_the_same
