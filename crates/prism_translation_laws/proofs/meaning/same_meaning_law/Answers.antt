use Rattle.prism_translation_laws.proofs.SameMeaning.{corresponding_are_alike, translation_means_the_same, meaning_stays}
use Rattle.prism_translation_laws.proofs.meaning.same_meaning_law.Goals as goal

pub returns : goal.returns
returns c = record { alike = corresponding_are_alike; same = translation_means_the_same c.meaning_law.ensures.same; stays = meaning_stays }
