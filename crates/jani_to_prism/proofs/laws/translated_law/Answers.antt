use Rattle.jani_to_prism.proofs.Kept.{aside}
use Rattle.jani_to_prism.proofs.laws.translated_law.Goals as goal

pub returns : goal.returns
returns c = aside c.meaning_law.ensures.process c.places_law.ensures.clean c.same_meaning_law.ensures.stays
