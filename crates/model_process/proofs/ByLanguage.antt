-- What was read, by its language.
use Rattle.std.proofs.Common.{◌≡◌, refl, ℕ, List}
use Rattle.std.specs.Prelude.{Result}
use Rattle.bridge_io.specs.declared.reason.Refused.{Refused}
use Rattle.prism_check.specs.Checked.{Checked}
use Rattle.jani_tree.specs.declared.syntax.JaniFile.{JaniFile}
use Rattle.command_words.specs.declared.request.Lang.{Lang}
use Rattle.command_words.specs.declared.request.Lang.TheVariants as L
use Rattle.model_files.specs.PrismFile.{IsReadPrism}
use Rattle.model_files.specs.JaniFile.{IsReadJani}
use Rattle.model_files.specs.declared.read.ReadModel.TheVariants.{Prism, Jani}
use Rattle.model_process.specs.ReadModels.{IsRead}

pub prism_read : (l : Lang) (bytes : List ℕ) (model : Result Checked Refused) → IsRead l bytes (Prism model) → (l ≡ L.Prism) × IsReadPrism bytes model
prism_read L.Prism bytes model h = (refl, h)
prism_read L.Jani bytes model h = absurd h

pub jani_read : (l : Lang) (bytes : List ℕ) (model : Result JaniFile Refused) → IsRead l bytes (Jani model) → (l ≡ L.Jani) × IsReadJani bytes model
jani_read L.Prism bytes model h = absurd h
jani_read L.Jani bytes model h = (refl, h)
