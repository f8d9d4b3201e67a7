-- The state of a JANI file that goes with a state of its translation, and the label that goes with an action of that (this
-- project's own rule).
use Rattle.std.specs.Prelude.{ℕ, ◌+◌, List, ◌++◌, map, length, Option, Some, None, bytes_eq}
use Rattle.std.specs.List.{find, flat_map}
use Rattle.process_core.specs.Ready.{Values, Name}
use Rattle.choice_laws.specs.Columns.{state_by}
use Rattle.process_core.specs.Instance.{only_if}
use Rattle.jani_tree.specs.Syntax.{File, element_names}
use Rattle.jani_meaning.specs.Elements.{lasting}
use Rattle.prism_translation.specs.Elements.{Element, elements, has_several, Lasting, shared, at_home}
use Rattle.prism_translation.specs.Targets.{old_name}
use Rattle.prism_translation.specs.Names.{new_names}
use Rattle.prism_translation.specs.Modules.{Action, actions}

-- ---- columns
-- the column of a variable in the states of the JANI file, behind the locations of the elements
abbrev pub column_of : File → Lasting → ℕ
column_of file x = length (element_names file) + x.number

-- the columns of a module: the location, where there are several, and the variables that are at home there
abbrev pub module_columns : File → Element → List ℕ
module_columns file el = only_if (has_several el) el.number ++ map (column_of file) (at_home file el.number)

-- for each column of the translated file the one that it is in the JANI file
abbrev pub columns : File → List ℕ
columns file = map (column_of file) (shared file) ++ flat_map (module_columns file) (elements file)

-- ---- states
-- the state of the JANI file: the locations of the elements, and then the variables; an element without a column is at its
-- only location, which has the number 0
abbrev pub state_of : File → Values → Values
state_of file s = state_by (columns file) (length (element_names file) + length (lasting file)) s

-- ---- labels: the old name of the target that the action is made for, which may be none
abbrev pub old_name_of : Option Action → Option Name
old_name_of None = None
old_name_of (Some t) = old_name t.target

abbrev pub old_label_by : List Action → Option Name → Option Name
old_label_by ts None = None
old_label_by ts (Some x) = old_name_of (find (λ t. bytes_eq x t.name) ts)

abbrev pub old_label : File → Option Name → Option Name
old_label file = old_label_by (actions file (new_names file))
