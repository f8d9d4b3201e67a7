-- A JANI file under a valuation (jani-model specification, version 1: "Models", "Automata", "Types"). A valuation gives a
-- value for each constant that the file gives none. That constants may stand in any order, and the order of the columns,
-- are rules of this project.
use Rattle.std.specs.Prelude.{ℕ, zero, suc, ◌-◌, pos, List, ◌++◌, map, length, Bool, true, false, ◌||◌, Option, Some, None, is_none, is_some}
use Rattle.std.specs.List.{find, list_any}
use Rattle.frac_core.specs.Fraction.{whole}
use Rattle.op_trees.specs.Seen.{Seen, known, seen}
use Rattle.op_trees.specs.declared.tree.Value.{Value}
use Rattle.op_trees.specs.declared.tree.Value.TheVariants as V
use Rattle.process_core.specs.Ready.{Name}
use Rattle.jani_table.specs.Operators.{jani_meaning}
use Rattle.jani_tree.specs.Syntax.{Expression, Const, VarKind, boolean, integer, number, real_bounded, one_sided, bounded, Var, Automaton, File}
use Rattle.process_core.specs.Instance.{Valuation, Domain, Truths, Between, Column, Scene}
use Rattle.op_trees.specs.Names.{is_called}
use Rattle.jani_meaning.specs.Elements.{elements, initial_number, has_several_starts, Owned, lasting}

-- ---- what is seen of expressions
unfoldable pub see : Expression → (Name → Seen) → Seen
see e names = seen jani_meaning e names

-- ---- constants
abbrev pub constant_called : File → Name → Option Const
constant_called file x = find (λ c. is_called x c.name) file.constants

-- what is seen of a constant: the value that is given for it, or that of its expression
abbrev pub constant_seen : Option Value → (Name → Seen) → Option Expression → Seen
constant_seen given names None = known given
constant_seen given names (Some e) = see e names

abbrev pub constant_value : Option Value → (Name → Seen) → Option Const → Option Value
constant_value given names None = None
constant_value given names (Some c) = (constant_seen given names c.value).value

-- the value of a constant whose expression leads through fewer than n further constants
abbrev pub constant_within : File → Valuation → ℕ → Name → Option Value
constant_within file v zero x = None
constant_within file v (suc n) x = constant_value (v x) (λ y. known (constant_within file v n y)) (constant_called file x)

-- the value of a constant; constants may stand in any order
abbrev pub constant : File → Valuation → Name → Option Value
constant file v = constant_within file v (length file.constants)

-- the names of an expression that names no variable
abbrev pub constant_names : File → Valuation → Name → Seen
constant_names file v x = known (constant file v x)

-- ---- columns
-- a whole number that is given
abbrev pub counted : ℕ → Seen
counted n = known (Some (V.Number (whole (pos n))))

-- the location that an automaton begins in, if there is but one
abbrev pub first_location : Automaton → Bool → Option Seen
first_location a true = None
first_location a false = Some (counted (initial_number a))

-- the location of an element: its place in the list of its automaton, from 0 on
abbrev pub location_column : Automaton → Column
location_column a = record {
  name = a.name.name;
  domain = Between (counted 0) (counted (length a.locations - 1));
  first = first_location a (has_several_starts a);
}

-- the numbers between the bounds, or truth values; a file without fault has no variable of another kind that lasts
abbrev pub domain_of : (Name → Seen) → VarKind → Domain
domain_of names (bounded low high) = Between (see low names) (see high names)
domain_of names boolean = Truths
domain_of names integer = Truths
domain_of names number = Truths
domain_of names real_bounded = Truths
domain_of names one_sided = Truths

-- the value of "initial-value"; a transient variable has one, in a file without fault
abbrev pub start_of : (Name → Seen) → Option Expression → Seen
start_of names None = known None
start_of names (Some e) = see e names

-- the value of "initial-value", if the variable has one
abbrev pub first_of : (Name → Seen) → Option Expression → Option Seen
first_of names None = None
first_of names (Some e) = Some (see e names)

abbrev pub column : (Name → Seen) → Var → Column
column names x = record { name = x.name.name; domain = domain_of names x.kind; first = first_of names x.start }

-- the locations of the elements, then the variables that are not transient
abbrev pub columns_of : File → Valuation → List Column
columns_of file v = map location_column (elements file) ++ map (λ o. column (constant_names file v) o.var) (lasting file)

-- ---- initial conditions
abbrev pub begins_anywhere : Owned → Bool
begins_anywhere o = is_none o.var.start

-- "restrict-initial", an element that may begin in several locations, or a variable without first value
abbrev pub has_condition : File → Bool
has_condition file = is_some file.restrict || (list_any has_several_starts (elements file) || list_any begins_anywhere (lasting file))

-- ---- the file under the valuation
-- The number of a fault's variable counts columns, so the locations of the elements count among them.
abbrev pub scene : File → Valuation → Scene
scene file v = record {
  constants = map (λ c. constant_seen (v c.name.name) (constant_names file v) c.value) file.constants;
  columns = columns_of file v;
  has_condition = has_condition file;
}
