-- How specialising a model ends: by the faults of its file; else by the first value that is given for no open constant; else with the text of the
-- specialised model. (The order is this project's own rule.)
use Rattle.std.specs.Prelude.{◌≡◌, ℕ, ◌+◌, List, Some, None, Result, Ok, Err}
use Rattle.bridge_io.specs.declared.reason.Refused.{Refused}
use Rattle.bridge_io.specs.declared.reason.Refused.TheVariants as R
use Rattle.instance_start.specs.Description.{Constant}
use Rattle.instance_start.specs.Given.{given_by}
use Rattle.prism_tree.specs.Syntax as prism
use Rattle.prism_instance.specs.Described.{prism_description}
use Rattle.jani_tree.specs.Syntax as jani
use Rattle.jani_instance.specs.Described.{jani_description}
use Rattle.command_words.specs.declared.request.Lang.{Lang}
use Rattle.command_words.specs.declared.request.Lang.TheVariants.{Prism, Jani}
use Rattle.command_words.specs.Given.{Assignment}
use Rattle.command_words.specs.Words.{Specialising}
use Rattle.model_files.specs.PrismFile.{IsFaultless}
use Rattle.model_files.specs.JaniFile.{IsFaultlessJani}
use Rattle.model_process.specs.Constants.{givens, unfit_value}
use Rattle.model_process.specs.Models.{IsModelFault}
use Rattle.model_process.specs.declared.ending.Ending.{Ending}
use Rattle.model_process.specs.declared.ending.Ending.TheVariants as E
use Rattle.model_specialising.specs.Specialised.{SpecialisesPrism, SpecialisesJani}

-- how it ends on a model with these constants, for which such a text is written: a value doesn't fit, its word behind `specialise LANG FILE`; or with
-- the text. A constant that isn't given stays open.
pub data EndsSpecialised (constants : List Constant) (given : List Assignment) (IsWritten : List ℕ → Type 0) (e : Ending) : Type 0 where
  unfit : (i : ℕ) → unfit_value constants given ≡ Some i → e ≡ E.Word (3 + 1 + i) → EndsSpecialised constants given IsWritten e
  done : unfit_value constants given ≡ None → (text : List ℕ) → IsWritten text → e ≡ E.Done text → EndsSpecialised constants given IsWritten e

abbrev pub EndsOnPrism : prism.File → List Assignment → Ending → Type 0
EndsOnPrism tree given e = EndsSpecialised (prism_description tree).constants given (SpecialisesPrism tree (given_by (givens given))) e

abbrev pub EndsOnJani : jani.File → List Assignment → Ending → Type 0
EndsOnJani tree given e = EndsSpecialised (jani_description tree).constants given (SpecialisesJani tree (given_by (givens given))) e

-- how it ends on the bytes of a file in some language
abbrev pub EndsIn : Lang → List Assignment → List ℕ → Ending → Type 0
EndsIn Prism given bytes e = (tree : prism.File) × IsFaultless bytes tree × EndsOnPrism tree given e
EndsIn Jani given bytes e = (tree : jani.File) × IsFaultlessJani bytes tree × EndsOnJani tree given e

abbrev pub EndsOnSpecialise : Specialising → List ℕ → Ending → Type 0
EndsOnSpecialise p bytes e = EndsIn p.lang p.given bytes e

-- It ends so, or the bytes are refused at their least fault; want of memory may come at any time.
abbrev pub SpecialisesIn : Lang → List Assignment → List ℕ → Result Ending Refused → Type 0
SpecialisesIn lang given bytes (Ok e) = EndsIn lang given bytes e
SpecialisesIn lang given bytes (Err (R.Memory e)) = Unit {0}
SpecialisesIn lang given bytes (Err (R.At f)) = IsModelFault lang bytes f

abbrev pub SpecialisesOn : Specialising → List ℕ → Result Ending Refused → Type 0
SpecialisesOn p bytes r = SpecialisesIn p.lang p.given bytes r
