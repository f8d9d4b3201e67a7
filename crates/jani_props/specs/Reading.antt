-- What reading the properties of a JANI file gives: the properties that its JSON value spells, or the least fault of the first phase that
-- has any (jani-model specification, version 1, "Properties"; the order of the phases is this project's own rule).
use Rattle.std.specs.Prelude.{◌≡◌, List, [], map, length}
use Rattle.std.specs.List.{AllByRecursion as Each}
use Rattle.bridge_io.specs.declared.reason.Fault.{Fault}
use Rattle.bridge_io.specs.declared.reason.Refused.{Refused}
use Rattle.bridge_io.specs.declared.reason.Refused.TheVariants.{Memory, At}
use Rattle.name_rules.specs.Least.{IsLeast}
use Rattle.jani_tree.specs.Syntax.{File}
use Rattle.prop_trees.specs.Trees.{JaniProperty}
use Rattle.prop_trees.specs.Form.{JaniForm}
use Rattle.prop_trees.specs.JaniText.{AreProperties}
use Rattle.jani_props.specs.Syntax.{Written}
use Rattle.jani_props.specs.Spelled.{AreWritten}
use Rattle.jani_props.specs.Faults.{shape_faults, name_faults, type_faults, structures, filed}

-- The fault is the least of those of the shape; where there are none of these, the least of those of names; where there are none of these
-- either, the least of those of types.
pub data IsFirst (file : File) (f : Fault) : Type 0 where
  of_shape : IsLeast (shape_faults file) f → IsFirst file f
  of_names : (ps : List Written) → shape_faults file ≡ [] → AreWritten file.properties ps → IsLeast (name_faults file ps) f → IsFirst file f
  of_types : (ps : List Written) → shape_faults file ≡ [] → AreWritten file.properties ps → name_faults file ps ≡ [] → IsLeast (type_faults file ps) f → IsFirst file f

-- Memory was refused, or this is that fault.
abbrev pub IsRefusal : File → Refused → Type 0
IsRefusal file (Memory e) = Unit {0}
IsRefusal file (At f) = IsFirst file f

-- These are the properties of a written list in which the phases of names and types find nothing.
pub record AreSound (file : File) (ps : List JaniProperty) : Type 0 where
  pub written : List Written
  pub are : map (filed file) written ≡ ps
  pub names : name_faults file written ≡ []
  pub types : type_faults file written ≡ []

-- Properties of a JANI model: literals are in normal form, operators have their operands, a query of rewards names a structure of the model
-- by its number and asks it of paths F e, and the phases of names and types find nothing.
pub record AreOfJani (file : File) (ps : List JaniProperty) : Type 0 where
  pub form : Each (JaniForm (length (structures file))) ps
  pub sound : AreSound file ps

-- These are the properties of the file: its value has no fault of shape, it spells these and no other, and as they are written there they
-- have no fault of names and of types.
pub record AreRead (file : File) (ps : List JaniProperty) : Type 0 where
  pub shape : shape_faults file ≡ []
  pub spelled : AreProperties (structures file) file.properties ps
  pub only : (qs : List JaniProperty) → AreProperties (structures file) file.properties qs → qs ≡ ps
  pub are : AreOfJani file ps
  pub written : AreWritten file.properties are.sound.written
