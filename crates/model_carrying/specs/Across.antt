-- What is written of a carried path, judged on a text that the model's file is translated to, as the path is judged on the model. (This project's
-- own rule.)
use Rattle.std.specs.Prelude.{◌≡◌, ◌↔◌, ℕ, suc, List, [], ◌∷◌, None, codes}
use Rattle.std.specs.List.{AllZip}
use Rattle.bridge_io.specs.declared.reason.Fault.{Fault}
use Rattle.instance_start.specs.Description.{Constant, Description}
use Rattle.instance_start.specs.Given.{given_by}
use Rattle.prism_tree.specs.Syntax as prism
use Rattle.prism_tree.specs.Faults.{Spells}
use Rattle.jani_tree.specs.Syntax as jani
use Rattle.jani_tree.specs.Back.{SpellsFile}
use Rattle.prism_to_jani.specs.Promise.{IsJaniOf}
use Rattle.jani_to_prism.specs.Promise.{IsPrismOf}
use Rattle.command_words.specs.declared.request.Lang.{Lang}
use Rattle.command_words.specs.declared.request.Lang.TheVariants.{Prism, Jani}
use Rattle.command_words.specs.Given.{Assignment}
use Rattle.command_words.specs.Words.{Carrying, Checking, of_path}
use Rattle.model_files.specs.PrismFile.{IsFaultless}
use Rattle.model_files.specs.JaniFile.{IsFaultlessJani}
use Rattle.model_process.specs.Claims.{EndsOnFiles, IsFileFault}
use Rattle.model_process.specs.Constants.{givens, wrong_value}
use Rattle.model_process.specs.Models.{Describes}
use Rattle.model_process.specs.Starts.{IsStartable}
use Rattle.model_process.specs.declared.ending.Ending.{Ending}
use Rattle.model_process.specs.declared.ending.Ending.TheVariants as E
use Rattle.model_carrying.specs.Ends.{EndsOnCarryFiles}
use Rattle.model_carrying.specs.Values.{IsGivenAs}

abbrev pub other : Lang → Lang
other Prism = Jani
other Jani = Prism

-- ---- the text
-- The model's file has no fault, and each tree that the text spells is one that it is translated to.
abbrev pub IsTranslation : Lang → List ℕ → List ℕ → Type 0
IsTranslation Prism model text = (tree : prism.File) × IsFaultless model tree × ((new : jani.File) → SpellsFile text new → IsJaniOf tree new)
IsTranslation Jani model text = (tree : jani.File) × IsFaultlessJani model tree × ((new : prism.File) → Spells text new → IsPrismOf tree new)

-- ---- the constants
-- Each open constant of the one is given what is given for the constant of the other that stands at its place.
abbrev pub AreGivenAs : List Constant → List Constant → List Assignment → List Assignment → Type 0
AreGivenAs cs ds here there = AllZip (IsGivenAs (given_by (givens here)) (given_by (givens there))) cs ds

-- The constants of the text are given what those of the model are, each under its new name.
abbrev pub IsGivenAcross : Lang → List ℕ → List ℕ → List Assignment → List Assignment → Type 0
IsGivenAcross lang model text here there = (d e : Description) → Describes lang model d → Describes (other lang) text e → AreGivenAs d.constants e.constants here there

-- ---- what is asked
-- The one carries a path of the model to the text, and of the others one judges the path on the model and one what was written on the text, under
-- the same constants.
pub record AskAcross (c : Carrying) (here there : Checking) (model text : List ℕ) : Type 0 where
  pub path : List ℕ
  pub claim : here.claim ≡ of_path path
  pub language : here.lang ≡ c.lang
  pub constants : here.given ≡ c.given
  pub path_there : List ℕ
  pub claim_there : there.claim ≡ of_path path_there
  pub language_there : there.lang ≡ other c.lang
  pub constants_there : IsGivenAcross c.lang model text c.given there.given

-- it is said yes or no, so nothing passed a bound
abbrev pub IsAnswer : Ending → Type 0
IsAnswer (E.Done text) = Unit {0}
IsAnswer (E.No line) = Unit {0}
IsAnswer (E.Stopped path line) = ⊥
IsAnswer (E.Word i) = ⊥
IsAnswer (E.Faulty lines) = ⊥
IsAnswer (E.Excess path line) = ⊥

abbrev pub said_yes : Ending
said_yes = E.Done (codes "yes\n")

-- ---- the laws, for texts that go with models so
-- where the text is read without fault, and both checks say yes or no, the one says yes exactly where the other does
abbrev pub AreJudgedAlike : (Lang → List ℕ → List ℕ → Type 0) → Type 0
AreJudgedAlike IsText = (c : Carrying) (here there : Checking) (model text path written : List ℕ) (e f : Ending) → AskAcross c here there model text → IsText c.lang model text →
    EndsOnCarryFiles c (model ∷ path ∷ []) (E.Done written) → EndsOnFiles here (model ∷ path ∷ []) e → EndsOnFiles there (text ∷ written ∷ []) f →
    IsAnswer e → IsAnswer f → (e ≡ said_yes) ↔ (f ≡ said_yes)

-- what is written isn't refused there: it has the form of a path, with the columns of the text's model in its header
abbrev pub IsNeverRefused : (Lang → List ℕ → List ℕ → Type 0) → Type 0
IsNeverRefused IsText = (c : Carrying) (here there : Checking) (model text path written : List ℕ) (i : ℕ) (f : Fault) → AskAcross c here there model text → IsText c.lang model text →
    EndsOnCarryFiles c (model ∷ path ∷ []) (E.Done written) → IsFileFault there (text ∷ written ∷ []) (suc i) f → ⊥

-- and where the text is read without fault and the constants fit, its model starts
abbrev pub StartsAlways : (Lang → List ℕ → List ℕ → Type 0) → Type 0
StartsAlways IsText = (c : Carrying) (here there : Checking) (model text path written : List ℕ) (e : Description) → AskAcross c here there model text → IsText c.lang model text →
    EndsOnCarryFiles c (model ∷ path ∷ []) (E.Done written) → Describes there.lang text e → wrong_value e.constants there.given ≡ None → IsStartable e there.given
