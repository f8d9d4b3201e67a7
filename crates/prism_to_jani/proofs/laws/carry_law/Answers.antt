use Rattle.prism_to_jani.proofs.Mapped.{has_labels, is_short, map_aside, map_of_translation, same_by_map}
use Rattle.prism_to_jani.proofs.laws.carry_law.Goals as goal

pub returns : goal.returns
returns c = record { translation = map_of_translation; same = same_by_map; labels = has_labels; short = is_short; places = map_aside }
