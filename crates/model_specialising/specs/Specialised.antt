-- What is written for a model that is specialised to values that are given for some of its constants, in either language.
-- (This project's own rule.)
use Rattle.std.specs.Prelude.{◌≡◌, ℕ, List, [], ◌∷◌, ◌++◌, Contains}
use Rattle.bridge_io.specs.declared.reason.Fault.{Fault}
use Rattle.process_core.specs.Instance.{Valuation}
use Rattle.prism_tree.specs.Syntax as prism
use Rattle.prism_names.specs.Flat.{flat}
use Rattle.prism_print.specs.Text.{file_text}
use Rattle.prism_print.specs.Same.{bare_file, SpellsFile}
use Rattle.prism_flat.specs.Process as prism_process
use Rattle.prism_check.specs.Clean.{IsClean}
use Rattle.decimal_json.specs.Faults.{IsTokenFault}
use Rattle.jani_tree.specs.Syntax as jani
use Rattle.jani_tree.specs.Text.{jani_text}
use Rattle.jani_tree.specs.Back.{SpellsOnly}
use Rattle.jani_check.specs.Faults.{IsChecked}
use Rattle.jani_meaning.specs.Process as jani_process
use Rattle.constant_folding.specs.Unfit.{Extends}
use Rattle.specialise_prism.specs.Specialised as to_prism
use Rattle.specialise_prism.specs.SameMeaning as prism_meaning
use Rattle.specialise_jani.specs.Specialised as to_jani
use Rattle.specialise_jani.specs.SameMeaning as jani_meaning
use Rattle.model_files.specs.PrismFile.{IsPrismFault}
use Rattle.model_files.specs.JaniFile.{IsJaniFault}
use Rattle.model_files.specs.ReadAgain.{limits, IsShaped}

-- The text is the canonical one of a file, which it spells, places aside. Places aside too, that file is the one without formulas and copies of
-- modules, specialised to the given values. It has no fault of names and none of types; if the text has a fault, a limit of reading is passed, as its
-- expressions may be longer and nested deeper than those that were read. Under each valuation that gives the given constants their values the file
-- means the same as the one that was read, and neither has the fault that one of these constants is undefined.
pub record IsSpecialisedPrism (tree : prism.File) (given : Valuation) (text : List ℕ) (new : prism.File) : Type 0 where
  pub text_is : text ≡ file_text new
  pub spells : SpellsFile text new
  pub shape : bare_file new ≡ bare_file (to_prism.specialised (flat tree) given)
  pub clean : IsClean new
  pub limits : (f : Fault) → IsPrismFault text f → Contains limits f.reason
  pub same : (v : Valuation) → Extends given v → prism_meaning.SameMeaningAt tree new v
  pub defined : (v : Valuation) → Extends given v →
      prism_meaning.GivenDefined tree.constants given ((prism_process.model tree).faults v) × prism_meaning.GivenDefined tree.constants given ((prism_process.model new).faults v)

-- The text is the canonical one of the file specialised to the given values, and a line feed; it spells that file, places aside, and no other, by a JSON
-- value without fault of shape. The file has no fault of names, types or the profile; if the text has a fault, one of its tokens is past a limit of
-- JSON, as its values may be nested deeper than those that were read. Under each valuation that gives the given constants their values the file means the
-- same as the one that was read, and neither has the fault that one of these constants is undefined.
pub record IsSpecialisedJani (tree : jani.File) (given : Valuation) (text : List ℕ) (new : jani.File) : Type 0 where
  pub text_is : text ≡ jani_text new ++ 10 ∷ []
  pub spells : SpellsOnly text new
  pub shaped : IsShaped text
  pub shape : new ≡ to_jani.specialised tree given
  pub clean : IsChecked new
  pub limits : (f : Fault) → IsJaniFault text f → IsTokenFault text f.at f.reason
  pub same : (v : Valuation) → Extends given v → jani_meaning.SameMeaningAt tree new v
  pub defined : (v : Valuation) → Extends given v →
      jani_meaning.GivenDefined tree.constants given ((jani_process.model tree).faults v) × jani_meaning.GivenDefined tree.constants given ((jani_process.model new).faults v)

-- this is written for a file
abbrev pub SpecialisesPrism : prism.File → Valuation → List ℕ → Type 0
SpecialisesPrism tree given text = (new : prism.File) × IsSpecialisedPrism tree given text new

abbrev pub SpecialisesJani : jani.File → Valuation → List ℕ → Type 0
SpecialisesJani tree given text = (new : jani.File) × IsSpecialisedJani tree given text new
