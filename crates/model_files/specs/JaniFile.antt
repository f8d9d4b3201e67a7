-- Which bytes are a JANI file without fault, and the least fault of all others.
-- (The files are those of the jani-model specification, version 1; which fault is the least is this project's own rule.)
use Rattle.std.specs.Prelude.{◌≡◌, ℕ, List, [], Result, Ok, Err}
use Rattle.bridge_io.specs.declared.reason.Fault.{Fault}
use Rattle.bridge_io.specs.declared.reason.Refused.{Refused}
use Rattle.bridge_io.specs.declared.reason.Refused.TheVariants as R
use Rattle.decimal_json.specs.declared.tree.Json.{Json}
use Rattle.decimal_json.specs.Faults.{IsWhole, IsLeast as IsLeastOfText}
use Rattle.jani_table.specs.declared.table.Form.TheVariants as F
use Rattle.jani_table.specs.Node.{node}
use Rattle.name_rules.specs.Least.{IsLeast}
use Rattle.jani_table.specs.Faults.{faults as shape_faults}
use Rattle.jani_tree.specs.Syntax.{File, file_of}
use Rattle.jani_tree.specs.declared.syntax.JaniFile.{JaniFile}
use Rattle.jani_tree.specs.Jani.{IsFile}
use Rattle.jani_check.specs.Faults.{faults as jani_faults}

-- The bytes spell this JSON value and no other, and have no fault of JSON; the value has no fault of shape, and spells this tree
-- and no other.
pub record IsJaniRead (bytes : List ℕ) (value : Json) (tree : File) : Type 0 where
  pub whole : IsWhole bytes value
  pub shaped : shape_faults F.Model (node value) ≡ []
  pub spells : IsFile (node value) tree
  pub only : (x : File) → IsFile (node value) x → x ≡ tree

-- and the tree has no fault of names, types or the profile
pub record IsFaultlessJani (bytes : List ℕ) (tree : File) : Type 0 where
  pub value : Json
  pub read : IsJaniRead bytes value tree
  pub sound : jani_faults tree ≡ []

-- some tree
abbrev pub HasNoJaniFault : List ℕ → Type 0
HasNoJaniFault bytes = (tree : File) × IsFaultlessJani bytes tree

-- This is the least fault of the first phase that has any: of JSON; or else of the value's shape; or else of the names, the types
-- or the profile of the tree.
pub data IsJaniFault (bytes : List ℕ) (f : Fault) : Type 0 where
  of_json : IsLeastOfText bytes f.at f.reason → IsJaniFault bytes f
  of_shape : (value : Json) → IsWhole bytes value → IsLeast (shape_faults F.Model (node value)) f → IsJaniFault bytes f
  of_model : (value : Json) (tree : File) → IsJaniRead bytes value tree → IsLeast (jani_faults tree) f → IsJaniFault bytes f

-- want of memory may come at any time
abbrev pub RefusesJani : List ℕ → Refused → Type 0
RefusesJani bytes (R.Memory e) = Unit {0}
RefusesJani bytes (R.At f) = IsJaniFault bytes f

-- what reading the bytes came to: the file that they are, or why there is none
abbrev pub IsReadJani : List ℕ → Result JaniFile Refused → Type 0
IsReadJani bytes (Ok file) = IsFaultlessJani bytes (file_of file)
IsReadJani bytes (Err refused) = RefusesJani bytes refused
