use Rattle.jani_translation.proofs.SameColumns.{same_constants, constants_seen_alike, columns_seen_alike, faults_alike}
use Rattle.jani_translation.proofs.laws.seen_law.Goals as goal

pub returns : goal.returns
returns c = record { values = same_constants; constants = constants_seen_alike; columns = columns_seen_alike; faults = faults_alike }
