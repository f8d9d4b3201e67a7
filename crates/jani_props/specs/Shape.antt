-- The faults of the shape of the properties of a JANI file (jani-model specification, version 1, "Properties"): the list of all of
-- them, each with its offset. The reasons, their places, and which forms are left out are this project's own rule.
use Rattle.std.specs.Prelude.{ℕ, List, [], ◌∷◌, ◌++◌, Bool, true, false, not, ◌&&◌, ◌||◌, Option, Some, None, codes, is_some}
use Rattle.bridge_io.specs.declared.reason.Reason.TheVariants.{MissingMember, UnknownMember, PropertyLeftOut}
use Rattle.bridge_io.specs.declared.reason.Fault.{Fault}
use Rattle.jani_table.specs.declared.key.Key.TheVariants as Key
use Rattle.jani_table.specs.declared.table.Kind.TheVariants as Kind
use Rattle.jani_table.specs.Node.{Node, null, truth, number, text, array, object, Nodes, no_nodes, more_nodes, Fields, no_fields, field}
use Rattle.jani_table.specs.Table.{is_required}
use Rattle.jani_table.specs.Faults.{fault, fault_if, fault_unless, member, member_text, members_in, op_kind, is_word}
use Rattle.jani_props.specs.declared.words.PropOp.TheVariants as P
use Rattle.jani_props.specs.declared.words.OpWord.{OpWord}
use Rattle.jani_props.specs.declared.words.OpWord.TheVariants.{Property, Operator, Other}
use Rattle.jani_props.specs.declared.words.Fun.{Fun}
use Rattle.jani_props.specs.declared.words.Side.{Side}
use Rattle.jani_props.specs.declared.words.Side.TheVariants.{Least, Greatest}
use Rattle.jani_props.specs.declared.table.PropKey.{PropKey}
use Rattle.jani_props.specs.declared.table.PropKey.TheVariants as K
use Rattle.jani_props.specs.declared.table.PropForm.{PropForm}
use Rattle.jani_props.specs.declared.table.PropForm.TheVariants as F
use Rattle.jani_props.specs.declared.table.PropKind.{PropKind}
use Rattle.jani_props.specs.declared.table.PropKind.TheVariants as O
use Rattle.jani_props.specs.declared.shape.Reading.{Reading}
use Rattle.jani_props.specs.declared.shape.Reading.TheVariants.{As, Another, Told, Wrong}
use Rattle.jani_props.specs.Words.{op_word_of, fun_of, bound_side, goes_with, kind_fault, plain_fault, word_fault}
use Rattle.jani_props.specs.Table.{Row, spelled_key, rows_of, known_form, item_form}

-- ---- members

-- the value of the member with this key
abbrev pub prop_member : PropKey → Fields → Option Node
prop_member k ms = member_text (spelled_key k) ms

abbrev pub part : PropKey → Node → Option Node
part k v = prop_member k (members_in v)

abbrev pub has : PropKey → Fields → Bool
has k ms = is_some (prop_member k ms)

abbrev pub op_word_in : Option Node → OpWord
op_word_in (Some (text at s)) = op_word_of s
op_word_in (Some (null _)) = Other
op_word_in (Some (truth _ _)) = Other
op_word_in (Some (number _ _)) = Other
op_word_in (Some (array _ _)) = Other
op_word_in (Some (object _ _ _)) = Other
op_word_in None = Other

-- what the op of an object is
abbrev pub op_word : Fields → OpWord
op_word ms = op_word_in (member Key.Op ms)

-- what the op of this value is
abbrev pub op_word_at : Option Node → OpWord
op_word_at (Some (object at ms close)) = op_word ms
op_word_at (Some (null _)) = Other
op_word_at (Some (truth _ _)) = Other
op_word_at (Some (number _ _)) = Other
op_word_at (Some (text _ _)) = Other
op_word_at (Some (array _ _)) = Other
op_word_at None = Other

-- ---- what an object is read as, by its form and its op

-- Where its op has no meaning, it is judged as an expression with that op; else it is another form.
abbrev pub or_another : OpWord → Reading
or_another Other = As (O.Operation Kind.Unclear)
or_another (Property _) = Another
or_another (Operator _) = Another

-- of the left side of a comparison the comparison tells that it is another form
abbrev pub or_told : OpWord → Reading
or_told Other = As (O.Operation Kind.Unclear)
or_told (Property _) = Told
or_told (Operator _) = Told

abbrev pub comparison_by : Option Side → Reading
comparison_by (Some side) = As (O.Comparison side)
comparison_by None = Another

abbrev pub filter_reading : OpWord → Reading
filter_reading (Property P.Filter) = As O.Filter
filter_reading (Property p) = or_another (Property p)
filter_reading (Operator o) = or_another (Operator o)
filter_reading Other = or_another Other

abbrev pub values_reading : OpWord → Reading
values_reading (Property P.PMax) = As O.Probability
values_reading (Property P.PMin) = As O.Probability
values_reading (Property P.EMax) = As O.Reward
values_reading (Property P.EMin) = As O.Reward
values_reading (Operator o) = comparison_by (bound_side o)
values_reading (Property p) = or_another (Property p)
values_reading Other = or_another Other

abbrev pub side_reading : Side → OpWord → Reading
side_reading Least (Property P.PMin) = As O.Probability
side_reading Greatest (Property P.PMax) = As O.Probability
side_reading Least (Property p) = or_told (Property p)
side_reading Least (Operator o) = or_told (Operator o)
side_reading Least Other = or_told Other
side_reading Greatest (Property p) = or_told (Property p)
side_reading Greatest (Operator o) = or_told (Operator o)
side_reading Greatest Other = or_told Other

abbrev pub path_reading : OpWord → Reading
path_reading (Property P.Finally) = As O.OnePath
path_reading (Property P.Globally) = As O.OnePath
path_reading (Property P.Until) = As O.TwoPaths
path_reading (Property P.WeakUntil) = As O.TwoPaths
path_reading (Property p) = or_another (Property p)
path_reading (Operator o) = or_another (Operator o)
path_reading Other = or_another Other

abbrev pub states_reading : OpWord → Reading
states_reading (Property P.Initial) = As O.Label
states_reading (Property p) = or_another (Property p)
states_reading (Operator o) = or_another (Operator o)
states_reading Other = or_another Other

abbrev pub expression_reading : OpWord → Reading
expression_reading (Property P.Initial) = As O.Label
expression_reading (Property P.Deadlock) = As O.Label
expression_reading (Operator o) = As (O.Operation (op_kind o))
expression_reading (Property p) = or_another (Property p)
expression_reading Other = or_another Other

abbrev pub reading : PropForm → OpWord → Reading
reading F.Property w = As O.Property
reading F.Filter w = filter_reading w
reading F.Values w = values_reading w
reading (F.Compared side) w = side_reading side w
reading F.Path w = path_reading w
reading F.Steps w = As O.StepBound
reading F.States w = states_reading w
reading F.Expression w = expression_reading w
reading f w = Wrong

-- ---- what an object owes beside what its members do

-- a required member that is missing, at the closing brace
unfoldable pub row_faults : Fields → ℕ → Row → List Fault
row_faults ms close r = fault_unless (not (is_required r.1) || has r.0 ms) close MissingMember

abbrev pub missing_faults : Fields → ℕ → List Row → List Fault
missing_faults ms close [] = []
missing_faults ms close (r ∷ rows) = row_faults ms close r ++ missing_faults ms close rows

abbrev pub fun_goes_with : OpWord → Option Fun → Bool
fun_goes_with w None = false
fun_goes_with w (Some f) = goes_with w f

-- the "fun" of a filter goes with its "values"
abbrev pub is_fitting : Option Node → Option Node → Bool
is_fitting (Some (text at s)) values = fun_goes_with (op_word_at values) (fun_of s)
is_fitting (Some (null _)) values = true
is_fitting (Some (truth _ _)) values = true
is_fitting (Some (number _ _)) values = true
is_fitting (Some (array _ _)) values = true
is_fitting (Some (object _ _ _)) values = true
is_fitting None values = true

abbrev pub are_texts : Nodes → Bool
are_texts no_nodes = true
are_texts (more_nodes (text at s) vs) = are_texts vs
are_texts (more_nodes (null _) vs) = false
are_texts (more_nodes (truth _ _) vs) = false
are_texts (more_nodes (number _ _) vs) = false
are_texts (more_nodes (array _ _) vs) = false
are_texts (more_nodes (object _ _ _) vs) = false

abbrev pub is_steps : Nodes → Bool
is_steps (more_nodes v no_nodes) = is_word (codes "steps") (Some v)
is_steps no_nodes = false
is_steps (more_nodes _ (more_nodes _ _)) = false

-- steps and exit, in any order
abbrev pub is_steps_and_exit : Nodes → Bool
is_steps_and_exit (more_nodes v (more_nodes w no_nodes)) =
    is_word (codes "steps") (Some v) && is_word (codes "exit") (Some w) || is_word (codes "exit") (Some v) && is_word (codes "steps") (Some w)
is_steps_and_exit no_nodes = false
is_steps_and_exit (more_nodes _ no_nodes) = false
is_steps_and_exit (more_nodes _ (more_nodes _ (more_nodes _ _))) = false

-- an op is that of this probability, or has no meaning, which is a fault of its own
abbrev pub is_side : Side → OpWord → Bool
is_side Least (Property P.PMin) = true
is_side Greatest (Property P.PMax) = true
is_side Least Other = true
is_side Greatest Other = true
is_side Least (Property _) = false
is_side Least (Operator _) = false
is_side Greatest (Property _) = false
is_side Greatest (Operator _) = false

-- the left side of a comparison is this probability, or has a fault of its own
abbrev pub is_compared : Side → Option Node → Bool
is_compared side (Some (object at ms close)) = is_side side (op_word ms)
is_compared side (Some (text at s)) = false
is_compared side (Some (number at d)) = false
is_compared side (Some (truth at b)) = false
is_compared side (Some (null _)) = true
is_compared side (Some (array _ _)) = true
is_compared side None = true

-- F and U may have a bound of steps
abbrev pub takes_steps : OpWord → Bool
takes_steps (Property P.Finally) = true
takes_steps (Property P.Until) = true
takes_steps (Property _) = false
takes_steps (Operator _) = false
takes_steps Other = false

abbrev pub by_form : Option PropForm → List Fault → (PropForm → List Fault) → List Fault
by_form None wrong inner = wrong
by_form (Some f) wrong inner = inner f

abbrev pub by_reading : PropForm → Reading → ℕ → (PropKind → List Fault) → List Fault
by_reading f (As k) at inner = inner k
by_reading f Another at inner = fault at PropertyLeftOut
by_reading f Told at inner = []
by_reading f Wrong at inner = fault_if at (kind_fault f)

-- ---- all faults of a value

-- given: the transient variables to which some location gives a value
module _ (given : List ℕ → Bool) where
  abbrev pub is_given : Option Node → Bool
  is_given (Some (text at s)) = given s
  is_given (Some (null _)) = false
  is_given (Some (truth _ _)) = false
  is_given (Some (number _ _)) = false
  is_given (Some (array _ _)) = false
  is_given (Some (object _ _ _)) = false
  is_given None = false

  -- Rewards of steps and of exits are added up, or of steps alone where no location gives the transient a value. What has its own fault
  -- is passed over.
  abbrev pub is_summed : Option Node → Option Node → Bool
  is_summed r (Some (array at vs)) = not (are_texts vs) || (is_steps_and_exit vs || is_steps vs && not (is_given r))
  is_summed r (Some (null _)) = true
  is_summed r (Some (truth _ _)) = true
  is_summed r (Some (number _ _)) = true
  is_summed r (Some (text _ _)) = true
  is_summed r (Some (object _ _ _)) = true
  is_summed r None = true

  -- an object is none of the forms that are left out, beside what its members have to be
  abbrev pub is_in : PropKind → Fields → Bool
  is_in O.Filter ms = is_fitting (prop_member K.Fun ms) (prop_member K.Values ms)
  is_in O.Reward ms = is_summed (prop_member (K.Of Key.Exp) ms) (prop_member K.Accumulate ms)
  is_in (O.Comparison side) ms = is_compared side (prop_member (K.Of Key.Left) ms)
  is_in O.OnePath ms = not (has K.StepBounds ms) || takes_steps (op_word ms)
  is_in O.TwoPaths ms = not (has K.StepBounds ms) || takes_steps (op_word ms)
  is_in O.Property ms = true
  is_in O.Probability ms = true
  is_in O.StepBound ms = true
  is_in O.Label ms = true
  is_in (O.Operation _) ms = true

  abbrev pub own_faults : PropKind → Fields → ℕ → ℕ → List Fault
  own_faults kind ms at close = missing_faults ms close (rows_of kind) ++ fault_unless (is_in kind ms) at PropertyLeftOut

  abbrev mutual
    -- of a value that has to be of this form
    pub faults : PropForm → Node → List Fault
    faults f (null at) = fault_if at (kind_fault f)
    faults f (truth at b) = fault_if at (plain_fault f)
    faults f (number at d) = fault_if at (plain_fault f)
    faults f (text at s) = fault_if at (word_fault f s)
    faults f (array at vs) = by_form (item_form f) (fault_if at (kind_fault f)) (λ g. items_faults g vs)
    faults f (object at ms close) = by_reading f (reading f (op_word ms)) at (λ k. members_faults k ms ++ own_faults k ms at close)

    -- of items, each of which has to be of this form
    pub items_faults : PropForm → Nodes → List Fault
    items_faults f no_nodes = []
    items_faults f (more_nodes v vs) = faults f v ++ items_faults f vs

    -- of the members of an object: an unknown one has its fault at its key
    pub members_faults : PropKind → Fields → List Fault
    members_faults kind no_fields = []
    members_faults kind (field n v rest) = by_form (known_form kind n.name) (fault n.at UnknownMember) (λ g. faults g v) ++ members_faults kind rest
