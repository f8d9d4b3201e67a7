-- The counterpart of a model in the other language, by which its paths are carried, and which files are refused because they have a fault or
-- none. (This project's own rule, over what the two translations are.)
use Rattle.std.specs.Prelude.{◌≡◌, ◌≢◌, ℕ, List, []}
use Rattle.bridge_io.specs.declared.reason.Fault.{Fault}
use Rattle.bridge_io.specs.declared.reason.Reason.TheVariants.{TooLarge}
use Rattle.name_rules.specs.Least.{IsLeast}
use Rattle.instance_start.specs.Description.{Description}
use Rattle.carry_maps.specs.declared.map.CarryMap.{CarryMap}
use Rattle.prism_tree.specs.Syntax as prism
use Rattle.prism_names.specs.Flat.{flat}
use Rattle.prism_check.specs.SizeFaults.{size_faults}
use Rattle.prism_instance.specs.Described.{prism_description}
use Rattle.jani_tree.specs.Syntax as jani
use Rattle.jani_instance.specs.Described.{jani_description}
use Rattle.prism_to_jani.specs.Promise.{IsJaniOf}
use Rattle.prism_to_jani.specs.Maps.{IsMapToJani}
use Rattle.prism_translation.specs.Refused.{refused}
use Rattle.jani_to_prism.specs.Promise.{IsPrismOf}
use Rattle.jani_to_prism.specs.Maps.{IsMapToPrism}
use Rattle.command_words.specs.declared.request.Lang.{Lang}
use Rattle.command_words.specs.declared.request.Lang.TheVariants.{Prism, Jani}
use Rattle.model_files.specs.PrismFile.{IsFaultless, IsPrismFault}
use Rattle.model_files.specs.JaniFile.{IsFaultlessJani, IsJaniFault}

-- what the model in the other language describes, and how states and labels go with each other
pub record Counterpart : Type 0 where
  pub description : Description
  pub map : CarryMap

-- of a PRISM file: the JANI file that it is translated to
pub record IsJaniCounterpart (tree : prism.File) (o : Counterpart) : Type 0 where
  pub file : jani.File
  pub translated : IsJaniOf tree file
  pub description : o.description ≡ jani_description file
  pub map : IsMapToJani (flat tree) o.map

-- of a JANI file whose translation has no fault: the PRISM file that it is translated to, which passes no limit
pub record IsPrismCounterpart (tree : jani.File) (o : Counterpart) : Type 0 where
  pub accepted : refused tree ≡ []
  pub file : prism.File
  pub translated : IsPrismOf tree file
  pub sized : size_faults file ≡ []
  pub description : o.description ≡ prism_description file
  pub map : IsMapToPrism tree o.map

-- The bytes are a file without fault that describes this, and this is its counterpart.
abbrev pub HasCounterpart : Lang → List ℕ → Description → Counterpart → Type 0
HasCounterpart Prism bytes d o = (tree : prism.File) × IsFaultless bytes tree × (d ≡ prism_description tree) × IsJaniCounterpart tree o
HasCounterpart Jani bytes d o = (tree : jani.File) × IsFaultlessJani bytes tree × (d ≡ jani_description tree) × IsPrismCounterpart tree o

-- ---- files that are refused
-- A JANI file is refused at its own least fault; or else at that of its translation; or else, where the PRISM file that it is translated to
-- passes a limit, at its first byte.
pub data IsJaniRefused (bytes : List ℕ) (f : Fault) : Type 0 where
  of_file : IsJaniFault bytes f → IsJaniRefused bytes f
  of_translation : (tree : jani.File) → IsFaultlessJani bytes tree → IsLeast (refused tree) f → IsJaniRefused bytes f
  of_size : (tree : jani.File) → IsFaultlessJani bytes tree → refused tree ≡ [] → (new : prism.File) → IsPrismOf tree new → size_faults new ≢ [] → f ≡ record { reason = TooLarge; at = 0 } → IsJaniRefused bytes f

abbrev pub IsCarryFault : Lang → List ℕ → Fault → Type 0
IsCarryFault Prism bytes f = IsPrismFault bytes f
IsCarryFault Jani bytes f = IsJaniRefused bytes f
