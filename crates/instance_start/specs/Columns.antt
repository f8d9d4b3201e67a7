-- What the program's constants, variables and columns stand for, where names stand, and which columns a scene is to have.
-- (This project's own rule.)
use Rattle.std.specs.Prelude.{◌≡◌, ℕ, List, [], map, Bool, false, Option, Some, None, Result, Ok, Err, slice_get, unwrap_or}
use Rattle.std.specs.Option.{option_map}
use Rattle.std.proofs.Common.{sym, ap₂}
use Rattle.op_trees.specs.Seen.{Seen}
use Rattle.op_trees.specs.Types.{AgreesWith, has_type}
use Rattle.op_trees.specs.declared.tree.Ty.{Ty}
use Rattle.op_trees.specs.declared.tree.Ty.TheVariants as T
use Rattle.op_trees.specs.declared.tree.Value.{Value}
use Rattle.op_trees.specs.declared.tree.Value.TheVariants as V
use Rattle.op_trees.specs.declared.tree.EvalFail.{EvalFail}
use Rattle.process_core.specs.Ready.{Values}
use Rattle.process_core.specs.Instance as core
use Rattle.process_core.specs.Instance.{Scene, Range, range_from, is_wide_instance, instance_faults}
use Rattle.process_core.specs.declared.data.StartFail.{StartFail}
use Rattle.process_core.specs.declared.data.StartFail.TheVariants.{Memory, Wide, Faults, Word}
use Rattle.state_choices.specs.Views.{seen_of}
use Rattle.state_choices.specs.Trimmed.{trimmed_seen}
use Rattle.instance_start.specs.Description as description
use Rattle.instance_start.specs.declared.data.Constant as code_constant
use Rattle.instance_start.specs.declared.data.Bounds.{Bounds}
use Rattle.instance_start.specs.declared.data.Variable as code_variable
use Rattle.instance_start.specs.declared.data.Range as code_range
use Rattle.instance_start.specs.declared.data.Place.{Place}
use Rattle.instance_start.specs.declared.data.Place.TheVariants.{Constant, Variable}
use Rattle.instance_start.specs.declared.data.Domain.{Domain}
use Rattle.instance_start.specs.declared.data.Domain.TheVariants as D
use Rattle.instance_start.specs.declared.data.First.{First}
use Rattle.instance_start.specs.declared.data.First.TheVariants as F
use Rattle.instance_start.specs.declared.data.Column.{Column}

abbrev pub constant_of : code_constant.Constant → description.Constant
constant_of c = record { name = c.name.now; ty = c.ty; is_open = c.is_open }

-- ---- variables, as they come out
abbrev pub bounds_of : Option Bounds → core.Domain
bounds_of None = core.Truths
bounds_of (Some b) = core.Between (seen_of b.low) (seen_of b.high)

abbrev pub variable_of : code_variable.Variable → core.Column
variable_of v = record { name = v.name.now; domain = bounds_of v.bounds; first = option_map seen_of v.first }

abbrev pub range_seen : code_range.Range → Range
range_seen r = record { low = r.low; high = r.high }

-- what a program knows of a column: of a value that is wide only that it is so
abbrev pub trimmed_domain : core.Domain → core.Domain
trimmed_domain core.Truths = core.Truths
trimmed_domain (core.Between low high) = core.Between (trimmed_seen low) (trimmed_seen high)

abbrev pub trimmed_column : core.Column → core.Column
trimmed_column c = record { name = c.name; domain = trimmed_domain c.domain; first = option_map trimmed_seen c.first }

-- ---- columns
-- a value that is known, and not wide
abbrev pub narrow : Value → Seen
narrow v = record { value = Some v; wide = false }

abbrev pub domain_of : Domain → core.Domain
domain_of D.Truths = core.Truths
domain_of (D.Between low high) = core.Between (narrow (V.Number low)) (narrow (V.Number high))

abbrev pub first_of : First → Option Seen
first_of F.Any = None
first_of F.Nothing = Some (record { value = None; wide = false })
first_of (F.Only v) = Some (narrow v)

abbrev pub column_of : Column → core.Column
column_of c = record { name = c.name.now; domain = domain_of c.domain; first = first_of c.first }

-- the column that a variable gets: the right one where its bounds are defined, and nothing of it is wide
abbrev pub range_of : core.Domain → Option Range
range_of core.Truths = None
range_of (core.Between low high) = range_from low high

abbrev pub settled_domain : Option Range → Domain
settled_domain None = D.Truths
settled_domain (Some r) = D.Between r.low r.high

abbrev pub settled_first : Option (Result Value EvalFail) → First
settled_first None = F.Any
settled_first (Some (Ok v)) = F.Only v
settled_first (Some (Err e)) = F.Nothing

abbrev pub settled_column : code_variable.Variable → Column
settled_column v = record { name = v.name; domain = settled_domain (range_of (bounds_of v.bounds)); first = settled_first v.first }

-- what the values of constants and the variables make up, with an initial condition or without
abbrev pub scene_of : Bool → List (Result Value EvalFail) → List code_variable.Variable → Scene
scene_of has_condition values variables = record { constants = map seen_of values; columns = map variable_of variables; has_condition = has_condition }

-- nothing is wide, there is no fault, and these are the columns
pub record AreColumns (k : Scene) (cs : List core.Column) : Type 0 where
  pub narrow : is_wide_instance k ≡ false
  pub sound : instance_faults k ≡ []
  pub columns : cs ≡ k.columns

-- ---- names in a state
abbrev pub value_at : Values → List (Option Value) → Option Place → Option Value
value_at s constants None = None
value_at s constants (Some (Constant i)) = unwrap_or (slice_get constants i) None
value_at s constants (Some (Variable i)) = slice_get s i

-- the number of the column, the number of columns where a name stands for none
abbrev pub column_at : ℕ → Option Place → ℕ
column_at n None = n
column_at n (Some (Constant i)) = n
column_at n (Some (Variable i)) = i

-- the type of a value
abbrev pub type_of : Option Value → Option Ty
type_of None = None
type_of (Some (V.Truth b)) = Some T.Bool
type_of (Some (V.Number q)) = Some T.Real

-- a value that is there has its type
pub agrees : (o : Option Value) → AgreesWith (type_of o) o
agrees None = record { agrees = λ t v h k. absurd cc }
agrees (Some (V.Truth b)) = record { agrees = λ t v h k. let e : T.Bool ≡ t = cc in let f : V.Truth b ≡ v = cc in ap₂ has_type (sym e) (sym f) }
agrees (Some (V.Number q)) = record { agrees = λ t v h k. let e : T.Real ≡ t = cc in let f : V.Number q ≡ v = cc in ap₂ has_type (sym e) (sym f) }

-- a failure for want of memory
abbrev pub IsMemory : StartFail → Type 0
IsMemory (Memory e) = Unit {0}
IsMemory (Faults fs) = ⊥
IsMemory (Word i) = ⊥
IsMemory Wide = ⊥
