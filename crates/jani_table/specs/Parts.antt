-- Forms that one kind of value alone may have, and the parts of values that are read where there is no fault.
use Rattle.std.specs.Prelude.{Bool, true, false, Option, Some, None, is_some}
use Rattle.jani_table.specs.declared.table.Form.{Form}
use Rattle.jani_table.specs.declared.table.Form.TheVariants as F
use Rattle.jani_table.specs.declared.table.Kind.{Kind}
use Rattle.jani_table.specs.declared.table.Kind.TheVariants as O
use Rattle.jani_table.specs.Table.{item_form}
use Rattle.jani_table.specs.Faults.{or_left_out}

-- the kind of object that alone may have this form
abbrev pub plain_kind : Form → Option Kind
plain_kind F.Model = Some O.Model
plain_kind F.Action = Some O.Action
plain_kind F.Constant = Some O.Constant
plain_kind F.Variable = Some O.Variable
plain_kind F.Automaton = Some O.Automaton
plain_kind F.Location = Some O.Location
plain_kind F.TransientValue = Some O.TransientValue
plain_kind F.Edge = Some O.Edge
plain_kind F.Destination = Some O.Destination
plain_kind F.Assignment = Some O.Assignment
plain_kind F.System = Some O.System
plain_kind F.Element = Some O.Element
plain_kind F.Vector = Some O.Vector
plain_kind F.Boxed = Some O.Boxed
plain_kind F.AutomatonInitial = Some O.AutomatonInitial
plain_kind f = None

abbrev pub is_plain : Form → Bool
is_plain f = is_some (plain_kind f)

abbrev pub or_unclear_kind : Option Kind → Kind
or_unclear_kind None = O.Unclear
or_unclear_kind (Some k) = k

abbrev pub kind_of : Form → Kind
kind_of f = or_unclear_kind (plain_kind f)

-- a list alone may have this form
abbrev pub is_list_form : Form → Bool
is_list_form f = is_some (item_form f)

-- the form of its items
abbrev pub item_of : Form → Form
item_of f = or_left_out (item_form f)

-- a string alone may have this form
abbrev pub is_text_form : Form → Bool
is_text_form F.Text = true
is_text_form F.Name = true
is_text_form F.ModelType = true
is_text_form F.Feature = true
is_text_form F.BoundedWord = true
is_text_form F.BaseWord = true
is_text_form F.Operator = true
is_text_form f = false
