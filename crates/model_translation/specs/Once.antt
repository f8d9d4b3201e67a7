-- What is written for files is fixed by their bytes, and so is the fault at which they are refused: statements, which are proved of a function of
-- this crate.
use Rattle.std.specs.Prelude.{◌≡◌, ℕ, List}
use Rattle.bridge_io.specs.declared.reason.Fault.{Fault}
use Rattle.model_translation.specs.Translation.{Translates}
use Rattle.model_translation.specs.WithProperties.{IsPropertiesFault, TranslatesWith}
use Rattle.model_translation.specs.JaniProperties.{IsPropertiesRefused, TranslatesProperties}

-- a PRISM file, and one with its properties
abbrev pub OneTranslation : Type 0
OneTranslation = (bytes text other : List ℕ) → Translates bytes text → Translates bytes other → text ≡ other

abbrev pub OneTranslationWith : Type 0
OneTranslationWith = (model properties text other : List ℕ) → TranslatesWith model properties text → TranslatesWith model properties other → text ≡ other

abbrev pub OnePropertiesFault : Type 0
OnePropertiesFault = (model properties : List ℕ) (f g : Fault) → IsPropertiesFault model properties f → IsPropertiesFault model properties g → f ≡ g

-- the properties of a JANI file
abbrev pub OnePropertiesText : Type 0
OnePropertiesText = (bytes text other : List ℕ) → TranslatesProperties bytes text → TranslatesProperties bytes other → text ≡ other

abbrev pub OnePropertiesRefused : Type 0
OnePropertiesRefused = (bytes : List ℕ) (f g : Fault) → IsPropertiesRefused bytes f → IsPropertiesRefused bytes g → f ≡ g
