-- The words of the properties of a JANI file (jani-model specification, version 1, "Properties"), and what each form makes of a value
-- that is no object. Which words are left out is this project's own rule.
use Rattle.std.specs.Prelude.{ℕ, List, [], ◌∷◌, Bool, true, false, ◌||◌, Option, Some, None, codes, bytes_eq, find, is_some, not}
use Rattle.std.specs.Option.{option_map}
use Rattle.bridge_io.specs.declared.reason.Reason.{Reason}
use Rattle.bridge_io.specs.declared.reason.Reason.TheVariants.{LeftOut, WrongShape, PropertyLeftOut}
use Rattle.jani_table.specs.declared.table.Form.TheVariants as Table
use Rattle.jani_table.specs.declared.operator.JaniOp.{JaniOp}
use Rattle.jani_table.specs.declared.operator.JaniOp.TheVariants as J
use Rattle.jani_table.specs.Operators.{op_of}
use Rattle.jani_table.specs.Words as table
use Rattle.prop_grammar.specs.declared.syntax.Compare.{Compare}
use Rattle.prop_grammar.specs.declared.syntax.Compare.TheVariants as C
use Rattle.prop_trees.specs.Names.{initial_name, deadlock_name}
use Rattle.jani_props.specs.declared.words.PropOp.{PropOp}
use Rattle.jani_props.specs.declared.words.PropOp.TheVariants as P
use Rattle.jani_props.specs.declared.words.OpWord.{OpWord}
use Rattle.jani_props.specs.declared.words.OpWord.TheVariants.{Property, Operator, Other}
use Rattle.jani_props.specs.declared.words.Fun.{Fun}
use Rattle.jani_props.specs.declared.words.Fun.TheVariants as N
use Rattle.jani_props.specs.declared.words.Side.{Side}
use Rattle.jani_props.specs.declared.words.Side.TheVariants.{Least, Greatest}
use Rattle.jani_props.specs.declared.table.PropForm.{PropForm}
use Rattle.jani_props.specs.declared.table.PropForm.TheVariants as F

-- ---- the op of an object

-- for all, and there is
abbrev pub for_all : List ℕ
for_all = 0xe2 ∷ 0x88 ∷ 0x80 ∷ []

abbrev pub exists : List ℕ
exists = 0xe2 ∷ 0x88 ∷ 0x83 ∷ []

abbrev pub prop_text : PropOp → List ℕ
prop_text P.Filter = codes "filter"
prop_text P.PMin = codes "Pmin"
prop_text P.PMax = codes "Pmax"
prop_text P.SMin = codes "Smin"
prop_text P.SMax = codes "Smax"
prop_text P.EMin = codes "Emin"
prop_text P.EMax = codes "Emax"
prop_text P.ForAll = for_all
prop_text P.Exists = exists
prop_text P.Until = codes "U"
prop_text P.WeakUntil = codes "W"
prop_text P.Finally = codes "F"
prop_text P.Globally = codes "G"
prop_text P.Release = codes "R"
prop_text P.Initial = codes "initial"
prop_text P.Deadlock = codes "deadlock"
prop_text P.Timelock = codes "timelock"

abbrev pub prop_ops : List PropOp
prop_ops =
    P.Filter ∷ P.PMin ∷ P.PMax ∷ P.SMin ∷ P.SMax ∷ P.EMin ∷ P.EMax ∷ P.ForAll ∷ P.Exists ∷ P.Until ∷ P.WeakUntil ∷ P.Finally ∷ P.Globally ∷ P.Release ∷ P.Initial ∷ P.Deadlock
    ∷ P.Timelock ∷ []

-- the word of properties that is written so
unfoldable pub prop_op_of : List ℕ → Option PropOp
prop_op_of s = find (λ o. bytes_eq (prop_text o) s) prop_ops

-- a word of properties, or else an operator
abbrev pub or_operator : Option PropOp → Option JaniOp → OpWord
or_operator (Some p) o = Property p
or_operator None (Some o) = Operator o
or_operator None None = Other

abbrev pub op_word_of : List ℕ → OpWord
op_word_of s = or_operator (prop_op_of s) (op_of s)

-- ---- how a filter makes one value of many

abbrev pub fun_text : Fun → List ℕ
fun_text N.Max = codes "max"
fun_text N.Min = codes "min"
fun_text N.Values = codes "values"
fun_text N.ForAll = for_all

unfoldable pub fun_of : List ℕ → Option Fun
fun_of s = find (λ w. bytes_eq (fun_text w) s) (N.Max ∷ N.Min ∷ N.Values ∷ N.ForAll ∷ [])

-- ---- comparisons

abbrev pub compare_of : JaniOp → Option Compare
compare_of J.Less = Some C.Less
compare_of J.AtMost = Some C.AtMost
compare_of J.AtLeast = Some C.AtLeast
compare_of J.Greater = Some C.Greater
compare_of o = None

-- a bound from below is one of the least probability, a bound from above one of the greatest
abbrev pub side_of : Compare → Side
side_of C.Less = Greatest
side_of C.AtMost = Greatest
side_of C.AtLeast = Least
side_of C.Greater = Least

abbrev pub bound_side : JaniOp → Option Side
bound_side o = option_map side_of (compare_of o)

abbrev pub side_op : Side → PropOp
side_op Least = P.PMin
side_op Greatest = P.PMax

-- the names of the labels that every model has
abbrev pub label_name : PropOp → Option (List ℕ)
label_name P.Initial = Some initial_name
label_name P.Deadlock = Some deadlock_name
label_name o = None

-- Pmax, Pmin, Emax and Emin
abbrev pub is_extreme : PropOp → Bool
is_extreme P.PMax = true
is_extreme P.PMin = true
is_extreme P.EMax = true
is_extreme P.EMin = true
is_extreme o = false

abbrev pub is_for_all : Fun → Bool
is_for_all N.ForAll = true
is_for_all N.Max = false
is_for_all N.Min = false
is_for_all N.Values = false

-- a filter of one value takes the greatest, the least or the only one, a filter of a comparison takes all of them
abbrev pub goes_with : OpWord → Fun → Bool
goes_with (Property o) w = not (is_extreme o) || not (is_for_all w)
goes_with (Operator o) w = not (is_some (bound_side o)) || is_for_all w
goes_with Other w = true

-- ---- the reason against a value that is no object, if any

-- against a value of another kind than the form has
abbrev pub kind_fault : PropForm → Option Reason
kind_fault F.Chosen = None
kind_fault F.LeftOut = Some PropertyLeftOut
kind_fault f = Some WrongShape

-- Against true, false and numbers. The comparison tells what its left side is if it is no probability.
abbrev pub plain_fault : PropForm → Option Reason
plain_fault F.Expression = None
plain_fault (F.Compared s) = None
plain_fault f = kind_fault f

-- what is left out in a model is left out in its properties, and told so
abbrev pub property_left_out : Option Reason → Option Reason
property_left_out (Some LeftOut) = Some PropertyLeftOut
property_left_out r = r

-- against a string
abbrev pub word_fault : PropForm → List ℕ → Option Reason
word_fault F.Expression s = table.word_fault Table.Expression s
word_fault F.Name s = table.word_fault Table.Name s
word_fault F.Operator s = property_left_out (table.word_fault Table.Operator s)
word_fault F.Note s = None
word_fault F.Fun s = None
word_fault F.Sum s = None
word_fault (F.Compared side) s = None
word_fault f s = kind_fault f
