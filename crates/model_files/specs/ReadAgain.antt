-- What this program may find in a text that spells a file without fault: that a limit of its own is passed, and nothing else.
-- (The limits are this project's own rule.)
use Rattle.std.specs.Prelude.{ℕ, List, [], ◌∷◌, ◌≡◌, Contains}
use Rattle.bridge_io.specs.declared.reason.Fault.{Fault}
use Rattle.bridge_io.specs.declared.reason.Reason.{Reason}
use Rattle.bridge_io.specs.declared.reason.Reason.TheVariants.{TooLong, BadNumber, TooDeep, TooLarge}
use Rattle.prism_tree.specs.Syntax as prism
use Rattle.prism_print.specs.Same as prism_texts
use Rattle.prism_check.specs.Clean.{IsClean}
use Rattle.decimal_json.specs.declared.tree.Json.{Json}
use Rattle.decimal_json.specs.Lang.{Mark}
use Rattle.decimal_json.specs.Faults.{IsJson, IsTokenFault}
use Rattle.decimal_json.specs.Proper.{SpellsValue}
use Rattle.jani_table.specs.declared.table.Form.TheVariants as F
use Rattle.jani_table.specs.Node.{node}
use Rattle.jani_table.specs.Faults.{faults as shape_faults}
use Rattle.jani_tree.specs.Syntax as jani
use Rattle.jani_tree.specs.Back.{IsCleanValue, SpellsOnly}
use Rattle.jani_check.specs.Faults.{IsChecked}
use Rattle.model_files.specs.PrismFile.{IsPrismFault}
use Rattle.model_files.specs.JaniFile.{IsJaniFault}

-- the reasons of limits: the bytes of a name, a number, the tokens of an expression or brackets in each other, and the size of all
abbrev pub limits : List Reason
limits = TooLong ∷ BadNumber ∷ TooDeep ∷ TooLarge ∷ []

-- A text that spells a PRISM file without faults of names and of types has no fault but that a limit is passed.
abbrev pub PrismReadAgain : Type 0
PrismReadAgain = (text : List ℕ) (file : prism.File) → prism_texts.SpellsFile text file → IsClean file → (f : Fault) → IsPrismFault text f → Contains limits f.reason

-- No JSON value that the text spells has any fault of shape: no member that is unknown or missing, none of another kind than is asked, and no
-- name of more than 255 bytes; the value of its properties may be any. Of the value that it spells, places aside, each number is in normal form,
-- and no object has a key twice.
pub record IsShaped (text : List ℕ) : Type 0 where
  pub value : Json
  pub spelled : SpellsValue text value
  pub clean : IsCleanValue value
  pub faultless : (other : Json) (tokens : List Mark) → IsJson text other tokens → shape_faults F.Model (node other) ≡ []

-- Such a text that spells a JANI file of the profile, and no other, has no fault but of a token of JSON that is past a limit: a number, or a bracket
-- in others. (A key that stands twice counts as such a token, too; here no object has one.)
abbrev pub JaniReadAgain : Type 0
JaniReadAgain = (text : List ℕ) (file : jani.File) → SpellsOnly text file → IsShaped text → IsChecked file → (f : Fault) → IsJaniFault text f → IsTokenFault text f.at f.reason
