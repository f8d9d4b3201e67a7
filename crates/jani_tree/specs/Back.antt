-- Reading back what is written: the canonical text of a tree spells that tree, places aside, and no other. This program reads it
-- back where it keeps the limits that reading has: written names may be longer, and brackets nested deeper.
use Rattle.std.specs.Prelude.{◌≡◌, ℕ, true, List, []}
use Rattle.bridge_io.specs.declared.reason.Fault.{Fault}
use Rattle.bridge_io.specs.declared.reason.Reason.TheVariants.{TooLong}
use Rattle.decimal_json.specs.declared.tree.Json.{Json}
use Rattle.decimal_json.specs.Proper.{all_normal, SameValue, SpellsValue}
use Rattle.decimal_json.specs.Lang.{Mark}
use Rattle.decimal_json.specs.Faults.{IsJson, IsWhole}
use Rattle.jani_table.specs.declared.table.Form.TheVariants as F
use Rattle.jani_table.specs.Node.{node}
use Rattle.jani_table.specs.Faults.{faults}
use Rattle.jani_tree.specs.Syntax.{File}
use Rattle.jani_tree.specs.Jani.{IsFile}
use Rattle.std.specs.List.{AllByRecursion as OfAll}
use Rattle.jani_tree.specs.Canonical.{FileForm, file_node}
use Rattle.jani_tree.specs.Places.{bare_node, bare_file}
use Rattle.jani_tree.specs.Form.{FileRead, FileShort, KeysOnce}

-- The tree has the form of trees, the type of each variable has a value of its own, and no object of the properties has a key
-- twice.
pub record IsWritable (f : File) : Type 0 where
  pub read : FileRead f
  pub types : FileForm f
  pub once : KeysOnce f.properties

-- ---- values
-- a name that is too long is the only fault
abbrev pub OnlyLong : List Fault → Type 0
OnlyLong = OfAll (λ f. f.reason ≡ TooLong)

-- The value has no fault of shape but names of more than 255 bytes, each of its numbers is in normal form, and no object of it has
-- a key twice.
pub record IsCleanValue (x : Json) : Type 0 where
  pub shape : OnlyLong (faults F.Model (node x))
  pub normal : all_normal x ≡ true
  pub once : KeysOnce (node x)

-- It has no fault of shape, and each tree that it spells is this one, places aside.
pub record IsBack (x : Json) (f : File) : Type 0 where
  pub shape : faults F.Model (node x) ≡ []
  pub same : (g : File) → IsFile (node x) g → bare_file g ≡ bare_file f

-- What is the same as the canonical value of a tree, places aside, is read back as the tree, where its names are short.
abbrev pub ReadsBack : Type 0
ReadsBack = (f : File) (x y : Json) → IsWritable f → FileShort f → node x ≡ file_node f → SameValue y x → IsBack y f

-- So is what bytes spell that spell the canonical value, places aside, where they spell one value alone.
abbrev pub TextReadsBack : Type 0
TextReadsBack = (f : File) (x y : Json) (bytes : List ℕ) → IsWritable f → FileShort f → node x ≡ file_node f → SpellsValue bytes x → IsWhole bytes y → IsBack y f

-- ---- texts
-- The bytes spell the tree: they are a JSON text (RFC 8259) whose value is a JANI file, whatever its size.
abbrev pub SpellsFile : List ℕ → File → Type 0
SpellsFile bytes f = (x : Json) × (tokens : List Mark) × IsJson bytes x tokens × IsFile (node x) f

-- they spell it, places aside
abbrev pub SpellsAside : List ℕ → File → Type 0
SpellsAside bytes f = (x : Json) × (tokens : List Mark) × IsJson bytes x tokens × IsFile (bare_node (node x)) (bare_file f)

-- They spell it, places aside, and each tree that they spell is the same but for places.
pub record SpellsOnly (bytes : List ℕ) (f : File) : Type 0 where
  pub tree : SpellsAside bytes f
  pub only : (g : File) → SpellsFile bytes g → bare_file g ≡ bare_file f

-- Bytes that spell the canonical value of a tree spell the tree alone.
abbrev pub TextSpells : Type 0
TextSpells = (f : File) (x : Json) (bytes : List ℕ) → FileForm f → node x ≡ file_node f → SpellsValue bytes x → SpellsOnly bytes f
