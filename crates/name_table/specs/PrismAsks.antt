-- The new names of a translation to PRISM (this project's own rule). A JANI file asks for the names of its constants, its
-- variables that are not transient, a location variable for each element, its elements, its labels and its reward structures,
-- in this order; what it gets are the entries of these asks. The actions that a translation makes are asked for behind them:
-- they have a class and a space of their own, so no other name hangs on them.
use Rattle.std.specs.Prelude.{ℕ, ◌+◌, List, [], ◌++◌, map, length, drop, Option, None, slice_get, unwrap_or}
use Rattle.std.specs.List.{position}
use Rattle.std.specs.Option.{option_map, option_or}
use Rattle.bridge_io.specs.declared.reason.Named.{Named}
use Rattle.process_core.specs.Ready.{Name}
use Rattle.jani_tree.specs.Syntax.{Const, File, element_names}
use Rattle.op_trees.specs.Names.{is_called}
use Rattle.jani_meaning.specs.Elements.{Owned, lasting, labels, structures, place_of}
use Rattle.name_table.specs.declared.class.NameClass.{NameClass}
use Rattle.name_table.specs.declared.class.NameClass.TheVariants.{Constant, Variable, Location, Module, Label, Reward}
use Rattle.name_table.specs.declared.class.Target.TheVariants.{Prism}
use Rattle.name_table.specs.declared.entry.Entry.{Entry}
use Rattle.name_table.specs.Entries.{Ask, entries_of}
use Rattle.name_table.specs.Asks.{ask, some_from}

-- ---- asks
abbrev pub ask_for : NameClass → Owned → Ask
ask_for c o = ask c o.var.name.name

abbrev pub constant_ask : Const → Ask
constant_ask c = ask Constant c.name.name

-- a location variable has no old name
abbrev pub location_ask : Named → Ask
location_ask n = (Location, None)

abbrev pub module_ask : Named → Ask
module_ask n = ask Module n.name

abbrev pub asks : File → List Ask
asks file =
    map constant_ask file.constants
    ++ (map (ask_for Variable) (lasting file)
    ++ (map location_ask (element_names file)
    ++ (map module_ask (element_names file)
    ++ (map (ask_for Label) (labels file)
    ++ map (ask_for Reward) (structures file)))))

-- the entries of the file, without those of actions
abbrev pub entries : File → List Entry
entries file = entries_of Prism (asks file)

-- ---- the entries of each class, in order
pub record NewNames : Type 0 where
  pub constants : List Entry
  pub variables : List Entry
  pub locations : List Entry
  pub modules : List Entry
  pub labels : List Entry
  pub rewards : List Entry
  pub actions : List Entry

module _ (file : File) where
  -- where the entries of each class begin, behind those of the classes before
  abbrev pub locations_at : ℕ
  locations_at = length file.constants + length (lasting file)

  abbrev pub modules_at : ℕ
  modules_at = locations_at + length (element_names file)

  abbrev pub labels_at : ℕ
  labels_at = modules_at + length (element_names file)

  abbrev pub rewards_at : ℕ
  rewards_at = labels_at + length (labels file)

  -- all entries behind these are of actions
  abbrev pub actions_at : ℕ
  actions_at = rewards_at + length (structures file)

  abbrev pub names_by : List Entry → NewNames
  names_by es = record {
    constants = some_from 0 (length file.constants) es;
    variables = some_from (length file.constants) (length (lasting file)) es;
    locations = some_from locations_at (length (element_names file)) es;
    modules = some_from modules_at (length (element_names file)) es;
    labels = some_from labels_at (length (labels file)) es;
    rewards = some_from rewards_at (length (structures file)) es;
    actions = drop actions_at es;
  }

-- ---- new names
-- the name of an entry, empty where there is none
abbrev pub name_at : List Entry → ℕ → Name
name_at es i = unwrap_or (option_map (λ e. e.name) (slice_get es i)) []

abbrev pub name_at_some : List Entry → Option ℕ → Option Name
name_at_some es i = option_map (name_at es) i

-- What a name becomes in an expression of the element with this number: the new name of its own variable, else of the global
-- one, else of the constant. A name that is none of these becomes the empty name, which nothing in a PRISM file has.
abbrev pub value_name : File → NewNames → ℕ → Name → Name
value_name file names k x =
    unwrap_or (option_or (name_at_some names.variables (place_of (lasting file) k x))
    (name_at_some names.constants (position (λ c. is_called x c.name) file.constants))) []

-- the number that no element has: outside of elements only global names are known
abbrev pub outside : File → ℕ
outside file = length (element_names file)
