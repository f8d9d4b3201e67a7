-- What is written for the properties of a JANI file: the text of a properties file for the PRISM model that the file is translated to
-- (this project's own rule).
use Rattle.std.specs.Prelude.{ℕ, List, Result, Ok, Err}
use Rattle.bridge_io.specs.declared.reason.Fault.{Fault}
use Rattle.bridge_io.specs.declared.reason.Refused.{Refused}
use Rattle.bridge_io.specs.declared.reason.Refused.TheVariants as R
use Rattle.jani_tree.specs.Syntax as jani
use Rattle.prop_trees.specs.Trees.{JaniProperty}
use Rattle.jani_props.specs.Reading.{AreRead, IsFirst}
use Rattle.prop_to_prism.specs.Laws.{AreWrittenAs}
use Rattle.model_files.specs.JaniFile.{IsFaultlessJani, IsJaniFault}

-- The bytes are a JANI file without fault, and these are its properties.
pub record HoldsProperties (bytes : List ℕ) (tree : jani.File) (ps : List JaniProperty) : Type 0 where
  pub faultless : IsFaultlessJani bytes tree
  pub read : AreRead tree ps

abbrev pub HasProperties : List ℕ → Type 0
HasProperties bytes = (tree : jani.File) × (ps : List JaniProperty) × HoldsProperties bytes tree ps

-- The text is that of the properties that these are translated to, with which they agree; against the model that the file is translated to it is
-- read back as these, and no fault of names and of types is found in it.
pub record IsPropertiesText (bytes text : List ℕ) (tree : jani.File) (ps : List JaniProperty) : Type 0 where
  pub holds : HoldsProperties bytes tree ps
  pub written : AreWrittenAs tree ps text

abbrev pub TranslatesProperties : List ℕ → List ℕ → Type 0
TranslatesProperties bytes text = (tree : jani.File) × (ps : List JaniProperty) × IsPropertiesText bytes text tree ps

-- This is the least fault of the first phase that has any: of the JANI file; or else of its properties.
pub data IsPropertiesRefused (bytes : List ℕ) (f : Fault) : Type 0 where
  of_file : IsJaniFault bytes f → IsPropertiesRefused bytes f
  of_properties : (tree : jani.File) → IsFaultlessJani bytes tree → IsFirst tree f → IsPropertiesRefused bytes f

-- It is written for the bytes, or they are refused at their least fault; want of memory may come at any time.
abbrev pub TranslatesHeld : List ℕ → Result (List ℕ) Refused → Type 0
TranslatesHeld bytes (Ok text) = TranslatesProperties bytes text
TranslatesHeld bytes (Err (R.Memory e)) = Unit {0}
TranslatesHeld bytes (Err (R.At f)) = IsPropertiesRefused bytes f
