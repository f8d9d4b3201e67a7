-- A model under a valuation as plain data: what its constants and the ranges and first values of its variables come out as,
-- and whether it has an initial condition.
-- Which faults it has, what its states are, and whether it is wide, follow from that alone, for PRISM and JANI alike.
-- (PRISM manual, "The PRISM Language": "Constants", "Modules And Variables", "Multiple Initial States"; jani-model
-- specification, "Models", "restrict-initial". Which faults an instance has, and their order, is a rule of this project.)
use Rattle.std.specs.Prelude.{◌≡◌, ℕ, ◌+◌, List, [], ◌∷◌, ◌++◌, map, Bool, true, false, not, ◌&&◌, ◌||◌, Option, Some, None, is_none, if◌then◌else◌, get_or}
use Rattle.std.specs.List.{list_any}
use Rattle.std.specs.Option.{option_and_then}
use Rattle.std.proofs.Common.{ap₂, ◌∙◌}
use Rattle.std.proofs.Math.Path.{fun_ext}
use Rattle.std.specs.declared.cmp.Ordering.{Ordering}
use Rattle.std.specs.declared.cmp.Ordering.TheVariants as C
use Rattle.frac_core.specs.Fraction.{Fraction, compare, is_whole}
use Rattle.op_trees.specs.Seen.{Seen, known}
use Rattle.op_trees.specs.declared.tree.Value.{Value}
use Rattle.op_trees.specs.declared.tree.Value.TheVariants as V
use Rattle.process_core.specs.Process.{Choice, Model}
use Rattle.process_core.specs.Ready.{Values, Name, Write}
use Rattle.process_core.specs.Choices.{number_of, is_true, all_defined}
use Rattle.process_core.specs.Equal.{equal_values}
use Rattle.process_core.specs.declared.data.Mark.{Mark}
use Rattle.process_core.specs.declared.data.FaultKind.{FaultKind}
use Rattle.process_core.specs.declared.data.FaultKind.TheVariants.{ConstUndef, BoundUndef, EmptyRange, InitUndef, InitOutside}

-- a value for each constant that a model leaves open
abbrev pub Valuation : Type 0
Valuation = Name → Option Value

-- the values of a variable: truth values, or the whole numbers between two bounds
pub data Domain : Type 0 where
  Truths : Domain
  Between : Seen → Seen → Domain

-- a variable: its name, its values, and the one that it begins with, or none where it may begin with any
pub record Column : Type 0 where
  pub name : Name
  pub domain : Domain
  pub first : Option Seen

-- a model under a valuation: its constants and its variables in order, and whether it has an initial condition
pub record Scene : Type 0 where
  pub constants : List Seen
  pub columns : List Column
  pub has_condition : Bool

-- ---- ranges
pub record Range : Type 0 where
  pub low : Fraction
  pub high : Fraction

-- the range between two bounds, where both are defined
abbrev pub range_between : Option Fraction → Option Fraction → Option Range
range_between (Some l) (Some h) = Some (record { low = l; high = h })
range_between (Some l) None = None
range_between None h = None

abbrev pub range_from : Seen → Seen → Option Range
range_from l h = range_between (number_of l.value) (number_of h.value)

abbrev pub is_greater : Ordering → Bool
is_greater C.Greater = true
is_greater o = false

abbrev pub is_above : Fraction → Fraction → Bool
is_above x y = is_greater (compare x y)

abbrev pub is_empty : Range → Bool
is_empty r = is_above r.low r.high

-- a whole number between the bounds
abbrev pub has_value : Range → Value → Bool
has_value r (V.Truth b) = false
has_value r (V.Number q) = is_whole q && (not (is_above r.low q) && not (is_above q r.high))

abbrev pub range_has : Option Range → Value → Bool
range_has None v = false
range_has (Some r) v = has_value r v

-- a value of the domain
abbrev pub is_in : Domain → Value → Bool
is_in Truths (V.Truth b) = true
is_in Truths (V.Number q) = false
is_in (Between l h) v = range_has (range_from l h) v

-- ---- what is written to a variable
abbrev pub domain_at : List Column → ℕ → Domain
domain_at cs i = get_or (map (λ c. c.domain) cs) i Truths

abbrev pub fits_in : Domain → Option Value → Bool
fits_in d None = false
fits_in d (Some v) = is_in d v

abbrev pub write_to : List Column → ℕ → Seen → Write
write_to cs i value = record { column = i; value = value; fits = fits_in (domain_at cs i) value.value }

-- ---- instance faults
-- a fault, and the number of the constant or of the variable that has it
pub record Fault : Type 0 where
  pub kind : FaultKind
  pub place : ℕ

abbrev pub fault_of : FaultKind → ℕ → Fault
fault_of kind i = record { kind = kind; place = i }

-- what each member gives with its number, in order
abbrev pub numbered : {X Y : Type 0} → (ℕ → X → List Y) → ℕ → List X → List Y
numbered f i [] = []
numbered f i (x ∷ xs) = f i x ++ numbered f (i + 1) xs

abbrev pub only_if : {X : Type 0} → Bool → X → List X
only_if b x = if b then (x ∷ []) else []

abbrev pub constant_faults : ℕ → Seen → List Fault
constant_faults i s = only_if (is_none s.value) (fault_of ConstUndef i)

abbrev pub range_faults : ℕ → Option Range → List Fault
range_faults i None = fault_of BoundUndef i ∷ []
range_faults i (Some r) = only_if (is_empty r) (fault_of EmptyRange i)

abbrev pub domain_faults : ℕ → Domain → List Fault
domain_faults i Truths = []
domain_faults i (Between l h) = range_faults i (range_from l h)

-- outside a range that is defined and not empty
abbrev pub range_lacks : Option Range → Value → Bool
range_lacks None v = false
range_lacks (Some r) v = not (is_empty r) && not (has_value r v)

abbrev pub is_outside : Domain → Value → Bool
is_outside Truths v = false
is_outside (Between l h) v = range_lacks (range_from l h) v

abbrev pub value_faults : ℕ → Domain → Option Value → List Fault
value_faults i d None = fault_of InitUndef i ∷ []
value_faults i d (Some v) = only_if (is_outside d v) (fault_of InitOutside i)

-- Those of a first value, where there is one. In a model with an initial condition there are none: a first value that is
-- undefined or outside leaves no initial state there.
abbrev pub first_faults : Bool → ℕ → Domain → Option Seen → List Fault
first_faults true i d first = []
first_faults false i d None = []
first_faults false i d (Some s) = value_faults i d s.value

abbrev pub column_faults : Bool → ℕ → Column → List Fault
column_faults has_condition i c = domain_faults i c.domain ++ first_faults has_condition i c.domain c.first

-- those of the constants, then those of the variables, each in order
abbrev pub instance_faults : Scene → List Fault
instance_faults k = numbered constant_faults 0 k.constants ++ numbered (column_faults k.has_condition) 0 k.columns

-- ---- wide instances: something that a constant, a bound or a first value needs passes the bound of fractions
abbrev pub is_wide_domain : Domain → Bool
is_wide_domain Truths = false
is_wide_domain (Between l h) = l.wide || h.wide

abbrev pub is_wide_first : Option Seen → Bool
is_wide_first None = false
is_wide_first (Some s) = s.wide

abbrev pub is_wide_column : Column → Bool
is_wide_column c = is_wide_domain c.domain || is_wide_first c.first

abbrev pub is_wide_instance : Scene → Bool
is_wide_instance k = list_any (λ s. s.wide) k.constants || list_any is_wide_column k.columns

-- ---- states
-- a value of its domain for each variable
abbrev pub is_state : List Column → Values → Bool
is_state [] [] = true
is_state [] (v ∷ s) = false
is_state (c ∷ cs) [] = false
is_state (c ∷ cs) (v ∷ s) = is_in c.domain v && is_state cs s

abbrev pub is_value : Option Value → Value → Bool
is_value None v = false
is_value (Some w) v = equal_values w v

abbrev pub is_first : Option Seen → Value → Bool
is_first None v = true
is_first (Some s) v = is_value s.value v

-- a variable may begin with this value: the first one, where there is one
abbrev pub begins : Column → Value → Bool
begins c v = is_first c.first v

-- each variable may begin with its value
abbrev pub begin_all : List Column → Values → Bool
begin_all [] [] = true
begin_all [] (v ∷ s) = false
begin_all (c ∷ cs) [] = false
begin_all (c ∷ cs) (v ∷ s) = begins c v && begin_all cs s

-- a state that is initial if the initial condition holds there
abbrev pub may_begin : List Column → Values → Bool
may_begin cs s = is_state cs s && begin_all cs s

-- what an initial condition comes out as where there is none
abbrev pub no_condition : Seen
no_condition = known (Some (V.Truth true))

-- an initial state, where the initial condition comes out so
abbrev pub is_initial : List Column → Seen → Values → Bool
is_initial cs condition s = is_true condition.value && may_begin cs s

-- the test of that is wide: all else holds, and something that the condition needs is wide
abbrev pub is_wide_initial : List Column → Seen → Values → Bool
is_wide_initial cs condition s = condition.wide && may_begin cs s

abbrev pub first_value : Column → Option Value
first_value c = option_and_then (λ s. s.value) c.first

-- the values of the one initial state, where there is no initial condition and all are defined
abbrev pub first_values : Scene → Option Values
first_values k = if k.has_condition then None else all_defined (map first_value k.columns)

-- ---- the process of a model, from what it is under each valuation, and its initial condition, marks and choices at each state
abbrev pub model_of : (Valuation → Scene) → (Valuation → Values → Seen) → (Valuation → Values → List Mark) →
    (Valuation → Values → List (Choice Name Fraction Values)) → Model Valuation Fault Name Fraction Mark Values
model_of scene condition marks choices = record {
  faults = λ v. instance_faults (scene v);
  is_state = λ v s. is_state (scene v).columns s;
  is_initial = λ v s. is_initial (scene v).columns (condition v s) s;
  marks = marks;
  choices = choices;
}

-- where these are the same, the processes are
pub models_alike : (k l : Valuation → Scene) (m n : Valuation → Values → Seen) (a b : Valuation → Values → List Mark)
    (c d : Valuation → Values → List (Choice Name Fraction Values)) →
    ((v : Valuation) → k v ≡ l v) → ((v : Valuation) (s : Values) → m v s ≡ n v s) → ((v : Valuation) (s : Values) → a v s ≡ b v s) →
    ((v : Valuation) (s : Values) → c v s ≡ d v s) → model_of k m a c ≡ model_of l n b d
models_alike k l m n a b c d scenes conditions marks choices =
    ap₂ (λ x y. model_of x y a c) (fun_ext scenes) (fun_ext (λ v. fun_ext (conditions v)))
    ∙ ap₂ (model_of l n) (fun_ext (λ v. fun_ext (marks v))) (fun_ext (λ v. fun_ext (choices v)))

-- whether a fault is of a constant
abbrev pub is_of_constant : FaultKind → Bool
is_of_constant ConstUndef = true
is_of_constant BoundUndef = false
is_of_constant EmptyRange = false
is_of_constant InitUndef = false
is_of_constant InitOutside = false
