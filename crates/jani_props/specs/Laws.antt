-- What holds of the properties that JSON values spell and of those that are read of a file (jani-model specification, version 1,
-- "Properties").
use Rattle.std.specs.Prelude.{◌≡◌, List}
use Rattle.bridge_io.specs.declared.reason.Fault.{Fault}
use Rattle.jani_table.specs.Node.{Node}
use Rattle.jani_tree.specs.Syntax.{File}
use Rattle.prop_trees.specs.Trees.{JaniProperty}
use Rattle.jani_props.specs.Syntax.{Written}
use Rattle.jani_props.specs.Spelled.{AreWritten}
use Rattle.jani_props.specs.Reading.{AreRead, IsFirst}

-- a value spells one list of written properties at most, the places of their names included
abbrev pub OneWritten : Type 0
OneWritten = (v : Node) (ps qs : List Written) → AreWritten v ps → AreWritten v qs → ps ≡ qs

-- a file whose properties are read has no first fault of properties
abbrev pub ReadHaveNoFault : Type 0
ReadHaveNoFault = (file : File) (ps : List JaniProperty) (f : Fault) → AreRead file ps → IsFirst file f → ⊥
