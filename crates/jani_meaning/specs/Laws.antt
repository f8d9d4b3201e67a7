-- What holds of every JANI file, with faults or without: statements, which are proved of the functions of this crate.
-- (jani-model specification, version 1: "Models" for type "mdp", "Automata", "Transient variables".)
use Rattle.std.specs.Prelude.{◌≡◌, ℕ, ◌+◌, ◌<◌, map, length, ◌++◌, IsTrue, Some, false}
use Rattle.std.specs.List.{All}
use Rattle.op_trees.specs.Tree.{AllNames}
use Rattle.process_core.specs.Ready.{Values, Name}
use Rattle.process_core.specs.Distribution.{IsProper}
use Rattle.jani_tree.specs.Syntax.{Expression, Const, File, element_names}
use Rattle.jani_tree.specs.Places.{bare_file}
use Rattle.process_core.specs.Instance.{Valuation, numbered, constant_faults, column_faults, no_condition}
use Rattle.jani_meaning.specs.Elements.{lasting, labels, structures}
use Rattle.jani_meaning.specs.Scene.{constant_called, constant_value, constant, constant_names, column, scene}
use Rattle.jani_meaning.specs.Moment.{moment}
use Rattle.jani_meaning.specs.Process.{model}

-- a state has a value for the location of each element and for each variable that is not transient
abbrev pub StatesHaveColumns : File → Type 0
StatesHaveColumns file =
    (v : Valuation) (s : Values) → IsTrue ((model file).is_state v s) → length s ≡ length (element_names file) + length (lasting file)

-- there is a mark for each transient variable
abbrev pub MarksOfTransients : File → Type 0
MarksOfTransients file = (v : Valuation) (s : Values) → length ((model file).marks v s) ≡ length (labels file) + length (structures file)

-- a good choice of a state is a distribution over states, any other has a kind of fault
abbrev pub ChoicesAreProper : File → Type 0
ChoicesAreProper file =
    (v : Valuation) (s : Values) → IsTrue ((model file).is_state v s) → All (λ c. IsProper ((model file).is_state v) c.outcome) ((model file).choices v s)

-- a file without an initial condition has none at any state
abbrev pub NoConditionIsTrue : File → Type 0
NoConditionIsTrue file = (v : Valuation) (s : Values) → (scene file v).has_condition ≡ false → (moment file v s).condition ≡ no_condition

-- the locations have no instance fault: the faults are those of the constants and of the variables, which are numbered from
-- the number of elements on
abbrev pub LocationsHaveNoFault : File → Type 0
LocationsHaveNoFault file =
    (v : Valuation) → (model file).faults v
    ≡ numbered constant_faults 0 (scene file v).constants ++ numbered (column_faults (scene file v).has_condition) (length (element_names file)) (map (λ o. column (constant_names file v) o.var) (lasting file))

-- ---- constants that lead round in no circle
-- a name that, if it is a constant's, is ranked below n
pub record RanksBelow (file : File) (rank : Name → ℕ) (n : ℕ) (x : Name) : Type 0 where
  pub below : (c : Const) → constant_called file x ≡ Some c → rank x < n

-- a rank falls from a constant to the constants in its expression
pub record IsConstantRank (file : File) (rank : Name → ℕ) : Type 0 where
  pub within : (x : Name) → RanksBelow file rank (length file.constants) x
  pub falls : (x : Name) (c : Const) (e : Expression) → constant_called file x ≡ Some c → c.value ≡ Some e →
      AllNames (RanksBelow file rank (rank x)) e

-- then a constant has the value that is given for it, or that of its expression, in which constants have their values
abbrev pub ConstantsHaveValues : File → Type 0
ConstantsHaveValues file = (v : Valuation) (x : Name) → constant file v x ≡ constant_value (v x) (constant_names file v) (constant_called file x)

-- ---- places
-- files that are the same but for the places that their trees keep mean the same
abbrev pub PlacesMeanNothing : File → File → Type 0
PlacesMeanNothing f g = bare_file f ≡ bare_file g → model f ≡ model g
