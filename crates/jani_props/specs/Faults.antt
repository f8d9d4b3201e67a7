-- The faults of the names and of the types of properties against the model of their JANI file (jani-model specification, version 1,
-- "Properties", "Types"). The reasons and their places, and what properties may read, are this project's own rule.
use Rattle.std.specs.Prelude.{ℕ, List, ◌++◌, [], map, Option, Some, None, Bool, true, not, ◌||◌, is_some, bytes_eq}
use Rattle.std.specs.List.{flat_map, filter, position}
use Rattle.std.specs.Option.{option_map}
use Rattle.bridge_io.specs.declared.reason.Named.{Named}
use Rattle.bridge_io.specs.declared.reason.Reason.TheVariants.{TwiceNamed, Unknown, NotConstant}
use Rattle.bridge_io.specs.declared.reason.Fault.{Fault}
use Rattle.op_trees.specs.declared.tree.Ty.{Ty}
use Rattle.op_trees.specs.declared.tree.Ty.TheVariants as T
use Rattle.op_trees.specs.Types.{Types}
use Rattle.op_trees.specs.Names.{names_of, offset_of, some_name}
use Rattle.basics.specs.Options.{if_some}
use Rattle.name_rules.specs.Least.{fault_if}
use Rattle.name_rules.specs.Names.{is_among}
use Rattle.name_rules.specs.Unknown.{unless_known}
use Rattle.name_rules.specs.Doubled.{doubled}
use Rattle.jani_tree.specs.Syntax.{Expression, Var, Location, File}
use Rattle.jani_check.specs.declared.things.Thing.{Thing}
use Rattle.jani_check.specs.Things.{global_thing, thing_type, is_constant, is_lasting, is_label, is_reward, var_thing}
use Rattle.jani_check.specs.TypeFaults.{type_faults_of}
use Rattle.prop_trees.specs.Trees.{Name, Role, state, steps, probability, parts, structure_of, ask_with, JaniProperty}
use Rattle.prop_trees.specs.Names.{Meant, of_model, is_initial, is_deadlock, nothing, meant}
use Rattle.prop_trees.specs.PrismFaults.{wanted_of}
use Rattle.jani_props.specs.declared.model.Meaning.{Meaning}
use Rattle.jani_props.specs.declared.model.Meaning.TheVariants.{OfModel, BuiltIn, Nothing}
use Rattle.jani_props.specs.declared.table.PropForm.TheVariants as F
use Rattle.jani_props.specs.Syntax.{Written}
use Rattle.jani_props.specs.Shape as shape

-- ---- the model

-- the names of the variables to which the locations of automata give values
abbrev pub given_in : Location → List Named
given_in l = map (λ w. w.target) l.values

abbrev pub given_names : File → List Named
given_names file = flat_map (λ a. flat_map given_in a.locations) file.automata

abbrev pub shape_faults : File → List Fault
shape_faults file = shape.faults (is_among (given_names file)) F.Properties file.properties

-- the numeric transient ones of some variables, in order
abbrev pub structures_among : List Var → List Name
structures_among vars = map (λ v. v.name.name) (filter (λ v. is_reward (Some (var_thing v))) vars)

abbrev pub number_among : List Var → Name → Option ℕ
number_among vars x = position (λ y. bytes_eq y x) (structures_among vars)

-- a reward structure is a global numeric transient variable
abbrev pub structures : File → List Name
structures file = structures_among file.variables

-- the number of the structure of this name
abbrev pub structure_number : File → Name → Option ℕ
structure_number file x = number_among file.variables x

-- ---- names, by what the names of the model stand for and by the numbers of its structures

abbrev pub built_in_by : Meant → Meaning
built_in_by is_initial = BuiltIn
built_in_by is_deadlock = BuiltIn
built_in_by (of_model _) = Nothing
built_in_by nothing = Nothing

abbrev pub meaning_by : (Name → Option Thing) → Meant → Meaning
meaning_by things (of_model x) = OfModel (things x)
meaning_by things is_initial = built_in_by is_initial
meaning_by things is_deadlock = built_in_by is_deadlock
meaning_by things nothing = built_in_by nothing

-- a property reads constants, global variables that are not transient, and global labels
abbrev pub is_read : Meaning → Bool
is_read (OfModel t) = is_constant t || (is_lasting t || is_label t)
is_read BuiltIn = true
is_read Nothing = true

abbrev pub type_of : Meaning → Option Ty
type_of (OfModel t) = option_map thing_type t
type_of BuiltIn = Some T.Bool
type_of Nothing = None

-- a constant alone does not vary
abbrev pub may_vary : Meaning → Bool
may_vary (OfModel t) = not (is_constant t)
may_vary BuiltIn = true
may_vary Nothing = true

module _ (things : Name → Option Thing) where
  abbrev pub meaning : Name → Meaning
  meaning x = meaning_by things (meant x)

  abbrev pub is_known : Name → Bool
  is_known x = is_read (meaning x)

  abbrev pub unknown_in : Role × Expression → List Fault
  unknown_in x = flat_map (unless_known is_known) (names_of x.1)

  abbrev pub name_types : Types
  name_types x = type_of (meaning x)

  abbrev pub varies : Name → Bool
  varies x = may_vary (meaning x)

  -- a bound names constants alone
  abbrev pub constant_faults : Role → Expression → List Fault
  constant_faults state e = []
  constant_faults steps e = fault_if (some_name varies e) (offset_of e) NotConstant
  constant_faults probability e = fault_if (some_name varies e) (offset_of e) NotConstant

  abbrev pub wrong_in : Role × Expression → List Fault
  wrong_in x = type_faults_of name_types (wanted_of x.0) x.1 ++ constant_faults x.0 x.1

  abbrev pub wrong_types : Written → List Fault
  wrong_types p = flat_map wrong_in (parts p)

-- a structure that there is not
abbrev pub unknown_structure : (Name → Option ℕ) → Named → List Fault
unknown_structure number n = fault_if (not (is_some (number n.name))) n.at Unknown

abbrev pub unknown_names : (Name → Option Thing) → (Name → Option ℕ) → Written → List Fault
unknown_names things number p = flat_map (unknown_structure number) (if_some (structure_of p.ask)) ++ flat_map (unknown_in things) (parts p)

-- the names of properties
abbrev pub titles : List Written → List Named
titles ps = flat_map (λ p. if_some p.name) ps

-- ---- all faults of names, and of types

-- a name of two properties, at the later one; and names that are not known
abbrev pub names_wrong : (Name → Option Thing) → (Name → Option ℕ) → List Written → List Fault
names_wrong things number ps = doubled TwiceNamed (titles ps) ++ flat_map (unknown_names things number) ps

abbrev pub types_wrong : (Name → Option Thing) → List Written → List Fault
types_wrong things ps = flat_map (wrong_types things) ps

abbrev pub name_faults : File → List Written → List Fault
name_faults file ps = names_wrong (global_thing file) (structure_number file) ps

abbrev pub type_faults : File → List Written → List Fault
type_faults file ps = types_wrong (global_thing file) ps

-- ---- the properties of the model

abbrev pub or_nought : Option ℕ → ℕ
or_nought None = 0
or_nought (Some i) = i

abbrev pub numbered : (Name → Option ℕ) → Named → ℕ
numbered number n = or_nought (number n.name)

-- the property that is written, with its structure numbered
abbrev pub filed_by : (Name → Option ℕ) → Written → JaniProperty
filed_by number p = record { name = option_map (λ n. n.name) p.name; ask = ask_with (λ e. e) (numbered number) p.ask; path = p.path }

abbrev pub filed : File → Written → JaniProperty
filed file p = filed_by (structure_number file) p
