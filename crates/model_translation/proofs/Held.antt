-- What is written for the properties of a JANI file.
use Rattle.std.specs.Prelude.{ℕ, List, Result, Ok, Err, IfOk, IfErr}
use Rattle.bridge_io.specs.declared.reason.Refused.{Refused}
use Rattle.bridge_io.specs.declared.reason.Refused.TheVariants.{Memory, At}
use Rattle.jani_tree.specs.Syntax as jani
use Rattle.prop_trees.specs.Trees.{JaniProperty}
use Rattle.jani_props.specs.Reading.{AreRead, IsRefusal}
use Rattle.prop_to_prism.specs.Laws.{AreWrittenAs}
use Rattle.model_files.specs.JaniFile.{IsFaultlessJani, RefusesJani}
use Rattle.model_translation.specs.JaniProperties.{TranslatesHeld, of_file, of_properties}

-- what the text of a judged file's properties, or their fault, is of the bytes
pub translates_held : (bytes : List ℕ) (tree : jani.File) → IsFaultlessJani bytes tree → (r : Result (List ℕ) Refused) →
    IfOk r (λ text. (ps : List JaniProperty) × AreRead tree ps × AreWrittenAs tree ps text) → IfErr r (IsRefusal tree) → TranslatesHeld bytes r
translates_held bytes tree faultless (Ok text) ok err = (tree, ok.0, record { holds = record { faultless = faultless; read = ok.1 }; written = ok.2 })
translates_held bytes tree faultless (Err (Memory e)) ok err = tt
translates_held bytes tree faultless (Err (At f)) ok err = of_properties tree faultless err

pub refuses_file : (bytes : List ℕ) (r : Refused) → RefusesJani bytes r → TranslatesHeld bytes (Err r)
refuses_file bytes (Memory e) h = tt
refuses_file bytes (At f) h = of_file h
