-- What stands where in the properties of a JANI file (jani-model specification, version 1, "Properties"): how keys are written, which
-- members each object has, and what the value of a member and the items of a list have to be. Which forms are left out is this project's
-- own rule.
use Rattle.std.specs.Prelude.{ℕ, List, [], Option, Some, None, codes, bytes_eq, find, map}
use Rattle.std.specs.Option.{option_map}
use Rattle.jani_table.specs.declared.table.Form.{Form}
use Rattle.jani_table.specs.declared.table.Form.TheVariants as Table
use Rattle.jani_table.specs.declared.table.Need.{Need}
use Rattle.jani_table.specs.Table as table
use Rattle.jani_table.specs.Table.{spelled}
use Rattle.jani_props.specs.declared.table.PropKey.{PropKey}
use Rattle.jani_props.specs.declared.table.PropKey.TheVariants as K
use Rattle.jani_props.specs.declared.table.PropForm.{PropForm}
use Rattle.jani_props.specs.declared.table.PropForm.TheVariants as F
use Rattle.jani_props.specs.declared.table.PropKind.{PropKind}
use Rattle.jani_props.specs.declared.table.PropKind.TheVariants as O
use Rattle.jani_props.specs.Members as members

-- the key as it is written
abbrev pub spelled_key : PropKey → List ℕ
spelled_key (K.Of k) = spelled k
spelled_key K.Expression = codes "expression"
spelled_key K.Fun = codes "fun"
spelled_key K.Values = codes "values"
spelled_key K.States = codes "states"
spelled_key K.Accumulate = codes "accumulate"
spelled_key K.Reach = codes "reach"
spelled_key K.StepBounds = codes "step-bounds"
spelled_key K.Upper = codes "upper"

-- a member that an object may have, whether it has to, and what its value has to be
abbrev pub Row : Type 0
Row = PropKey × Need × PropForm

-- the members of each object of properties alone; none of an operator, whose members are those that it has in a model
abbrev pub own_rows : PropKind → List Row
own_rows O.Property = members.property
own_rows O.Filter = members.filter
own_rows O.Probability = members.probability
own_rows O.Reward = members.reward
own_rows (O.Comparison side) = members.comparison side
own_rows O.OnePath = members.one_path
own_rows O.TwoPaths = members.two_paths
own_rows O.StepBound = members.step_bound
own_rows O.Label = members.label
own_rows (O.Operation k) = []

-- what the value of an operator's member has to be, by what it has to be in a model
abbrev pub operand_form : Form → PropForm
operand_form Table.Expression = F.Expression
operand_form Table.Operator = F.Operator
operand_form Table.LeftOut = F.LeftOut
operand_form f = F.Note

-- an operator has the members that it has in a model
abbrev pub operand_row : table.Row → Row
operand_row r = (K.Of r.0, r.1, operand_form r.2)

abbrev pub rows_of : PropKind → List Row
rows_of (O.Operation k) = map operand_row (table.rows_of k)
rows_of O.Property = own_rows O.Property
rows_of O.Filter = own_rows O.Filter
rows_of O.Probability = own_rows O.Probability
rows_of O.Reward = own_rows O.Reward
rows_of (O.Comparison side) = own_rows (O.Comparison side)
rows_of O.OnePath = own_rows O.OnePath
rows_of O.TwoPaths = own_rows O.TwoPaths
rows_of O.StepBound = own_rows O.StepBound
rows_of O.Label = own_rows O.Label

abbrev pub own_row_of : PropKind → List ℕ → Option Row
own_row_of kind s = find (λ r. bytes_eq (spelled_key r.0) s) (own_rows kind)

abbrev pub form_in : Option Row → Option PropForm
form_in r = option_map (λ r. r.2) r

-- what the value of a member with this key has to be; none where an object of this kind has no such member
abbrev pub known_form : PropKind → List ℕ → Option PropForm
known_form (O.Operation k) s = option_map operand_form (table.known_form k s)
known_form O.Property s = form_in (own_row_of O.Property s)
known_form O.Filter s = form_in (own_row_of O.Filter s)
known_form O.Probability s = form_in (own_row_of O.Probability s)
known_form O.Reward s = form_in (own_row_of O.Reward s)
known_form (O.Comparison side) s = form_in (own_row_of (O.Comparison side) s)
known_form O.OnePath s = form_in (own_row_of O.OnePath s)
known_form O.TwoPaths s = form_in (own_row_of O.TwoPaths s)
known_form O.StepBound s = form_in (own_row_of O.StepBound s)
known_form O.Label s = form_in (own_row_of O.Label s)

-- what the items of a list have to be; none where no list may stand
abbrev pub item_form : PropForm → Option PropForm
item_form F.Properties = Some F.Property
item_form F.Sums = Some F.Sum
item_form f = None
