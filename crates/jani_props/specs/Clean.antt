-- Values without faults.
use Rattle.std.specs.Prelude.{◌≡◌, ℕ, List, [], ◌++◌, Bool, bytes_eq, ◌&&◌, is_some, unwrap_or}
use Rattle.std.specs.List.{list_any}
use Rattle.bridge_io.specs.declared.reason.Fault.{Fault}
use Rattle.bridge_io.specs.declared.reason.Reason.TheVariants.{WrongShape}
use Rattle.jani_table.specs.Node.{Node, null, truth, number, text, array, object, Nodes, at_of}
use Rattle.jani_table.specs.Table.{is_required}
use Rattle.jani_table.specs.Faults.{fault}
use Rattle.jani_props.specs.declared.table.PropKey.{PropKey}
use Rattle.jani_props.specs.declared.table.PropForm.{PropForm}
use Rattle.jani_props.specs.declared.table.PropForm.TheVariants as F
use Rattle.jani_props.specs.declared.table.PropKind.{PropKind}
use Rattle.jani_props.specs.Table.{spelled_key, rows_of, known_form}
use Rattle.jani_props.specs.Shape.{faults, items_faults, members_faults, own_faults}

-- all faults of an object with this table of members, where these names are given values
abbrev pub object_faults : (List ℕ → Bool) → PropKind → Node → List Fault
object_faults given k (object at ms close) = members_faults given k ms ++ own_faults given k ms at close
object_faults given k (null at) = fault (at_of (null at)) WrongShape
object_faults given k (truth at b) = fault (at_of (truth at b)) WrongShape
object_faults given k (number at d) = fault (at_of (number at d)) WrongShape
object_faults given k (text at s) = fault (at_of (text at s)) WrongShape
object_faults given k (array at vs) = fault (at_of (array at vs)) WrongShape

-- The value has no fault for this form, where some names are given values.
pub record IsClean (f : PropForm) (v : Node) : Type 0 where
  pub given : List ℕ → Bool
  pub clean : faults given f v ≡ []

-- the same of an object with this table of members
pub record IsCleanObject (k : PropKind) (v : Node) : Type 0 where
  pub given : List ℕ → Bool
  pub clean : object_faults given k v ≡ []

-- the same of items
pub record AreClean (f : PropForm) (vs : Nodes) : Type 0 where
  pub given : List ℕ → Bool
  pub clean : items_faults given f vs ≡ []

-- what the value of a known member has to be
abbrev pub part_form : PropKind → PropKey → PropForm
part_form kind key = unwrap_or (known_form kind (spelled_key key)) F.LeftOut

abbrev pub is_known : PropKind → PropKey → Bool
is_known kind key = is_some (known_form kind (spelled_key key))

abbrev pub is_needed : PropKind → PropKey → Bool
is_needed kind key = list_any (λ r. is_required r.1 && bytes_eq (spelled_key r.0) (spelled_key key)) (rows_of kind)
