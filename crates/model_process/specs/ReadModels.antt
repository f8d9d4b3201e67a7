-- What reading the bytes of a model's file came to, in the language that the words name.
use Rattle.std.specs.Prelude.{ℕ, List}
use Rattle.command_words.specs.declared.request.Lang.{Lang}
use Rattle.command_words.specs.declared.request.Lang.TheVariants as L
use Rattle.model_files.specs.PrismFile.{IsReadPrism}
use Rattle.model_files.specs.JaniFile.{IsReadJani}
use Rattle.model_files.specs.declared.read.ReadModel.{ReadModel}
use Rattle.model_files.specs.declared.read.ReadModel.TheVariants.{Prism, Jani}

abbrev pub IsRead : Lang → List ℕ → ReadModel → Type 0
IsRead L.Prism bytes (Prism model) = IsReadPrism bytes model
IsRead L.Prism bytes (Jani model) = ⊥
IsRead L.Jani bytes (Prism model) = ⊥
IsRead L.Jani bytes (Jani model) = IsReadJani bytes model
