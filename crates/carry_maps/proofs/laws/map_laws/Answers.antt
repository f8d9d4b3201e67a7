use Rattle.carry_maps.proofs.Instances.{same_by_others, same_by_its_map}
use Rattle.carry_maps.proofs.laws.map_laws.Goals as goal

pub returns : goal.returns
returns c = record { others = same_by_others; same = same_by_its_map }
