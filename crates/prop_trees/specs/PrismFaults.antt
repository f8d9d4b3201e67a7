-- The faults of a properties file of PRISM against a model: those of names, then of size, then of types (PRISM manual, "Property
-- Specification": "Identifying A Set Of States", "Reward-based Properties", "Properties Files"). The limits, the reasons and their
-- places are this project's own rule.
use Rattle.std.specs.Prelude.{◌≡◌, ℕ, max, List, [], ◌∷◌, ◌++◌, map, Option, Some, None, Bool, true, false, not, ◌||◌, nat_lt, is_some, unwrap_or, if◌then◌else◌}
use Rattle.std.specs.List.{flat_map, fold, sum, list_any, position}
use Rattle.std.specs.Option.{option_map}
use Rattle.bridge_io.specs.declared.reason.Named.{Named}
use Rattle.bridge_io.specs.declared.reason.Fault.{Fault}
use Rattle.bridge_io.specs.declared.reason.Reason.TheVariants.{TwiceNamed, Unknown, TooLarge, WrongType, NotConstant}
use Rattle.op_trees.specs.declared.tree.Ty.TheVariants as T
use Rattle.op_trees.specs.Tree.{renamed, node_count, height_of}
use Rattle.op_trees.specs.Types.{Types, type_in, misfits}
use Rattle.op_trees.specs.Names.{offset_of, some_name, is_called}
use Rattle.basics.specs.Options.{if_some}
use Rattle.prism_tree.specs.Operators.{prism_meaning}
use Rattle.prism_tree.specs.Syntax.{Expression, Rewards, File}
use Rattle.prism_tree.specs.Grammar.{unquoted}
use Rattle.prism_names.specs.Order.{whole}
use Rattle.name_rules.specs.Least.{fault, fault_if, or_else}
use Rattle.op_trees.specs.declared.wanted.Wanted.{Wanted}
use Rattle.op_trees.specs.declared.wanted.Wanted.TheVariants as W
use Rattle.prism_check.specs.NameFaults.{is_among, doubled, given_labels, values, names_of, unless_known}
use Rattle.op_trees.specs.Wanted.{is_unwanted}
use Rattle.prism_check.specs.TypeFaults.{types, has_variable}
use Rattle.prism_check.specs.SizeFaults.{height_limit}
use Rattle.prop_grammar.specs.declared.syntax.Structure.{Structure}
use Rattle.prop_grammar.specs.Syntax.{WrittenProperty}
use Rattle.prop_grammar.specs.Grammar.{has_quotes}
use Rattle.prop_trees.specs.Trees.{Name, PrismProperty, Role, state, steps, probability, parts, structure_of, ask_with, path_with}
use Rattle.prop_trees.specs.Names.{filed_name}

-- the names, the reward structures and the bounds and state formulas of all properties
abbrev pub titles : List WrittenProperty → List Named
titles ps = flat_map (λ p. if_some p.name) ps

abbrev pub structures : List WrittenProperty → List Structure
structures ps = flat_map (λ p. if_some (structure_of p.ask)) ps

abbrev pub all_parts : List WrittenProperty → List (Role × Expression)
all_parts ps = flat_map parts ps

-- a reward structure of this name
abbrev pub is_titled : Name → Rewards → Bool
is_titled x r = list_any (is_called x) (if_some r.name)

-- A state formula is a bool, a bound of steps an int, a bound of probability a number.
abbrev pub wanted_of : Role → Wanted
wanted_of state = W.Bool
wanted_of steps = W.Int
wanted_of probability = W.Number

module _ (file : File) where
  -- ---- names

  -- a label, if it has quotes, else a constant, a formula or a variable
  abbrev pub is_known : Name → Bool
  is_known x = if has_quotes x then is_among (given_labels ++ map (λ l. l.name) file.labels) (unquoted x) else is_among (values file) x

  -- the number of a reward structure: that of this name, or without one the first
  abbrev pub number_by : Option Name → Option ℕ
  number_by (Some x) = position (is_titled x) file.rewards
  number_by None = position (λ r. true) file.rewards

  abbrev pub structure_number : Structure → Option ℕ
  structure_number s = number_by s.name

  abbrev pub unknown_structure : Structure → List Fault
  unknown_structure s = fault_if (not (is_some (structure_number s))) s.at Unknown

  abbrev pub unknown_in : Role × Expression → List Fault
  unknown_in x = flat_map (unless_known is_known) (names_of x.1)

  -- a name of two properties, at the later one; structures and names that the file has not
  abbrev pub name_faults : List WrittenProperty → List Fault
  name_faults ps =
      doubled TwiceNamed (titles ps) ++ (flat_map unknown_structure (structures ps) ++ flat_map unknown_in (all_parts ps))

  -- ---- size, formulas written out; a label is one node

  abbrev pub expressions : List WrittenProperty → List Expression
  expressions ps = map (λ x. whole file x.1) (all_parts ps)

  abbrev pub size_faults : List WrittenProperty → List Fault
  size_faults ps =
      fault_if (nat_lt 2000000 (sum (map node_count (expressions ps))) || nat_lt height_limit (fold max 0 (map height_of (expressions ps)))) 0 TooLarge

  -- ---- types

  -- a label is a bool
  abbrev pub name_types : Types
  name_types x = if has_quotes x then Some T.Bool else types file x

  -- A name without a type is a misfit; an expression that has misfits has no type.
  abbrev pub type_faults_of : Role → Expression → List Fault
  type_faults_of r e =
      map (λ at. fault at WrongType) (misfits prism_meaning name_types e)
      ++ fault_if (is_unwanted (wanted_of r) (type_in prism_meaning name_types e)) (offset_of e) WrongType

  -- A bound names constants alone: no label, and no variable where its formulas are written out.
  abbrev pub varies : Expression → Bool
  varies e = some_name has_quotes e || has_variable file e

  abbrev pub constant_faults : Role → Expression → List Fault
  constant_faults state e = []
  constant_faults steps e = fault_if (varies e) (offset_of e) NotConstant
  constant_faults probability e = fault_if (varies e) (offset_of e) NotConstant

  abbrev pub part_faults : Role × Expression → List Fault
  part_faults x = type_faults_of x.0 x.1 ++ constant_faults x.0 x.1

  abbrev pub type_faults : List WrittenProperty → List Fault
  type_faults ps = flat_map part_faults (all_parts ps)

  -- ---- all faults of the first of these phases that has any

  abbrev pub faults : List WrittenProperty → List Fault
  faults ps = or_else (name_faults ps) (or_else (size_faults ps) (type_faults ps))

  -- ---- the properties of the model

  -- the number of a reward structure, 0 where there is none
  abbrev pub number_of : Structure → ℕ
  number_of s = unwrap_or (structure_number s) 0

  -- the property that is written, with its names marked and its structure numbered
  abbrev pub filed : WrittenProperty → PrismProperty
  filed p = record { name = option_map (λ n. n.name) p.name; ask = ask_with (renamed filed_name) number_of p.ask; path = path_with (renamed filed_name) p.path }

  -- These are the properties of a written list in which the phases of names and types find nothing.
  pub record AreSound (ps : List PrismProperty) : Type 0 where
    pub written : List WrittenProperty
    pub are : map filed written ≡ ps
    pub names : name_faults written ≡ []
    pub types : type_faults written ≡ []
