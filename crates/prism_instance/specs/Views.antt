-- What the code of an instance stands for: commands, items and names.
-- (This project's own rule.)
use Rattle.std.specs.Prelude.{◌≡◌, length, List, [], map, Option}
use Rattle.std.specs.Borrow.{Bor}
use Rattle.op_trees.specs.Meaning.{Environment}
use Rattle.op_trees.specs.Seen.{Seen, known_names}
use Rattle.op_trees.specs.Types.{Types, AgreesWith}
use Rattle.process_core.specs.Ready.{Name}
use Rattle.process_core.specs.Instance as core
use Rattle.prism_tree.specs.declared.syntax.PrismCommand.{PrismCommand}
use Rattle.prism_tree.specs.declared.syntax.PrismItem.{PrismItem}
use Rattle.prism_tree.specs.Syntax.{command_of, item_of}
use Rattle.name_rules.specs.Names.{under}
use Rattle.name_rules.specs.declared.map.NameMap.{NameMap}
use Rattle.op_trees.specs.declared.tree.Value.{Value}
use Rattle.instance_start.specs.declared.data.Column as code
use Rattle.instance_start.specs.declared.data.Place.{Place}
use Rattle.instance_start.specs.Columns.{column_of, value_at, column_at, type_of, agrees}
use Rattle.prism_flat.specs.Moment.{place_of}
use Rattle.prism_tree.specs.Syntax as syntax
use Rattle.prism_instance.specs.declared.constant_names.ConstantNames.{ConstantNames}
use Rattle.prism_instance.specs.declared.state_names.StateNames.{StateNames}

-- ---- commands and items
abbrev pub items_of : List (Bor PrismItem) → List syntax.Item
items_of is = map (λ i. item_of i.now) is

abbrev pub commands_of : List (Bor PrismCommand) → List syntax.Command
commands_of cs = map (λ c. command_of c.now) cs

-- ---- names, in a state or where there are constants alone
abbrev pub values_in : ConstantNames → Environment
values_in r x = value_at r.values.now r.table.now (under r.places.now x)

abbrev pub seen_in : ConstantNames → Name → Seen
seen_in r = known_names (values_in r)

abbrev pub names_by : NameMap Place → List (Option Value) → Name → Seen
names_by places table = known_names (λ x. value_at [] table (under places x))

abbrev pub types_in : ConstantNames → Types
types_in r x = type_of (values_in r x)

-- a value that a name has, has the type that the name has
pub types_agree : (r : ConstantNames) (x : Name) → AgreesWith (types_in r x) (values_in r x)
types_agree r x = agrees (values_in r x)

-- ---- names in states
abbrev pub places_in : StateNames → Name → Option Place
places_in r x = under r.places.now x

abbrev pub columns_in : StateNames → List core.Column
columns_in r = map column_of r.columns.now

-- the column of a written name is that of the first variable of this name
abbrev pub FindsIn : NameMap Place → List code.Column → Type 0
FindsIn places cols = (x : Name) → column_at (length cols) (under places x) ≡ place_of (map column_of cols) x

abbrev pub FindsColumns : StateNames → Type 0
FindsColumns r = FindsIn r.places.now r.columns.now
