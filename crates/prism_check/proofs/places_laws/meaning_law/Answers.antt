use Rattle.prism_check.proofs.Meaning.{bound_nothing, meaning_nothing, moments_kept, scenes_kept}
use Rattle.prism_check.proofs.places_laws.meaning_law.Goals as goal

pub returns : goal.returns
returns c = record { process = meaning_nothing; meaning = bound_nothing; scenes = scenes_kept; moments = moments_kept }
