-- What a model file describes, in either language, and the least fault of all other bytes.
-- (This project's own rule, over what the two languages mean.)
use Rattle.std.specs.Prelude.{◌≡◌, ℕ, List}
use Rattle.bridge_io.specs.declared.reason.Fault.{Fault}
use Rattle.prism_tree.specs.Syntax as prism
use Rattle.jani_tree.specs.Syntax as jani
use Rattle.instance_start.specs.Description.{Description}
use Rattle.prism_instance.specs.Described.{prism_description}
use Rattle.jani_instance.specs.Described.{jani_description}
use Rattle.command_words.specs.declared.request.Lang.{Lang}
use Rattle.command_words.specs.declared.request.Lang.TheVariants.{Prism, Jani}
use Rattle.model_files.specs.PrismFile.{IsFaultless, IsPrismFault}
use Rattle.model_files.specs.JaniFile.{IsFaultlessJani, IsJaniFault}

-- the bytes are a file without fault, and this is what it describes
abbrev pub Describes : Lang → List ℕ → Description → Type 0
Describes Prism bytes d = (tree : prism.File) × IsFaultless bytes tree × (d ≡ prism_description tree)
Describes Jani bytes d = (tree : jani.File) × IsFaultlessJani bytes tree × (d ≡ jani_description tree)

abbrev pub IsModelFault : Lang → List ℕ → Fault → Type 0
IsModelFault Prism bytes f = IsPrismFault bytes f
IsModelFault Jani bytes f = IsJaniFault bytes f
