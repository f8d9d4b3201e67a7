use Rattle.prism_check.proofs.Faults.{checked_alike, clean_alike, commands_alike, faults_alike, names_alike, sizes_alike, types_alike}
use Rattle.prism_check.proofs.places_laws.places_law.Goals as goal

pub returns : goal.returns
returns c = record {
  names = names_alike;
  sizes = sizes_alike;
  types = types_alike;
  faults = faults_alike;
  commands = commands_alike;
  clean = clean_alike;
  checked = checked_alike;
}
