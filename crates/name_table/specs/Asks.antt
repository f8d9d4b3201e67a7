-- The new names of a translation (this project's own rule). A file asks for the names of its constants, its variables, its
-- labels, its reward structures, its modules and its actions, in this order; what it gets are the entries of these asks. The
-- file's formulas and copies of modules are written out.
use Rattle.std.specs.Prelude.{ℕ, ◌+◌, List, [], ◌∷◌, ◌++◌, map, length, take, drop, Option, Some, if◌then◌else◌, bytes_eq}
use Rattle.std.specs.List.{flat_map}
use Rattle.std.specs.Option.{option_map}
use Rattle.bridge_io.specs.declared.reason.Named.{Named}
use Rattle.basics.specs.Options.{if_some}
use Rattle.process_core.specs.Ready.{Name, firsts}
use Rattle.prism_tree.specs.Syntax.{Var, Command, Body, Module, plain, copied, File}
use Rattle.name_table.specs.declared.class.NameClass.{NameClass}
use Rattle.name_table.specs.declared.class.NameClass.TheVariants.{Constant, Variable, Label, Reward, Module as OfModule, Action}
use Rattle.name_table.specs.declared.class.Target.TheVariants.{Jani}
use Rattle.name_table.specs.declared.entry.Entry.{Entry}
use Rattle.name_table.specs.Entries.{Ask, entries_of}

-- ---- what has a name
-- the contents of a module; a file that is written out has no copy
abbrev pub contents : Module → Body
contents (plain m) = m
contents (copied m) = record { name = m.name; vars = []; commands = [] }

abbrev pub bodies : File → List Body
bodies file = map contents file.modules

-- the variables in the order of columns: the global ones, then those of the modules
abbrev pub variables : File → List Var
variables file = file.globals ++ flat_map (λ m. m.vars) (bodies file)

abbrev pub action_of : Command → Option Name
action_of c = option_map (λ a. a.name) c.action

-- the actions of commands, in order of first occurrence
abbrev pub actions : File → List Name
actions file = firsts bytes_eq (flat_map (λ m. flat_map (λ c. if_some (action_of c)) m.commands) (bodies file))

-- the name of a reward structure, if it has one
abbrev pub called : Option Named → Option Name
called n = option_map (λ x. x.name) n

-- ---- asks
abbrev pub ask : NameClass → Name → Ask
ask c x = (c, Some x)

abbrev pub constant_asks : File → List Ask
constant_asks file = map (λ c. ask Constant c.name.name) file.constants

abbrev pub variable_asks : File → List Ask
variable_asks file = map (λ x. ask Variable x.name.name) (variables file)

abbrev pub label_asks : File → List Ask
label_asks file = map (λ l. ask Label l.name.name) file.labels

abbrev pub reward_asks : File → List Ask
reward_asks file = map (λ r. (Reward, called r.name)) file.rewards

abbrev pub module_asks : File → List Ask
module_asks file = map (λ m. ask OfModule m.name.name) (bodies file)

abbrev pub action_asks : File → List Ask
action_asks file = map (ask Action) (actions file)

abbrev pub asks : File → List Ask
asks file = constant_asks file ++ (variable_asks file ++ (label_asks file ++ (reward_asks file ++ (module_asks file ++ action_asks file))))

-- ---- new names
-- the entry of the i-th constant has number i, that of the j-th variable the number of constants plus j, and so on
abbrev pub entries : File → List Entry
entries file = entries_of Jani (asks file)

-- so many entries, from this number on
abbrev pub some_from : ℕ → ℕ → List Entry → List Entry
some_from at n es = take n (drop at es)

-- The new name that goes with an old one, the first of this name. A name that is not among the old ones becomes the empty
-- name, which nothing in a JANI file has.
abbrev pub new_name : List Name → List Entry → Name → Name
new_name [] es x = []
new_name (y ∷ ys) [] x = []
new_name (y ∷ ys) (e ∷ es) x = if bytes_eq y x then e.name else new_name ys es x

-- the entries of each class, in order, and what the names in expressions and the actions become
pub record NewNames : Type 0 where
  pub constants : List Entry
  pub variables : List Entry
  pub labels : List Entry
  pub rewards : List Entry
  pub modules : List Entry
  pub value : Name → Name
  pub action : Name → Name

-- the names of the constants, then those of the variables
abbrev pub value_names : File → List Name
value_names file = map (λ c. c.name.name) file.constants ++ map (λ x. x.name.name) (variables file)

module _ (file : File) (es : List Entry) where
  -- where the entries of each class begin, behind those of the classes before
  abbrev pub labels_at : ℕ
  labels_at = length file.constants + length (variables file)

  abbrev pub rewards_at : ℕ
  rewards_at = labels_at + length file.labels

  abbrev pub modules_at : ℕ
  modules_at = rewards_at + length file.rewards

  abbrev pub actions_at : ℕ
  actions_at = modules_at + length file.modules

  abbrev pub names_by : NewNames
  names_by = record {
    constants = some_from 0 (length file.constants) es;
    variables = some_from (length file.constants) (length (variables file)) es;
    labels = some_from labels_at (length file.labels) es;
    rewards = some_from rewards_at (length file.rewards) es;
    modules = some_from modules_at (length file.modules) es;
    value = new_name (value_names file) es;
    action = new_name (actions file) (drop actions_at es);
  }

-- the new names of a file
abbrev pub new_names : File → NewNames
new_names file = names_by file (entries file)
