-- What each form makes of a value that is no object: the words, numbers and truth values that may stand there, and the
-- reason against others (jani-model specification, version 1; the reasons and the limit of a name are this project's).
use Rattle.std.specs.Prelude.{ℕ, List, [], ◌∷◌, Bool, true, false, Option, Some, None, codes, bytes_eq, find, if◌then◌else◌, nat_lt, length, is_some}
use Rattle.bridge_io.specs.declared.reason.Reason.{Reason}
use Rattle.bridge_io.specs.declared.reason.Reason.TheVariants.{TooLong, OtherKind, LeftOut, WrongShape, OtherFeature}
use Rattle.frac_core.specs.declared.decimal.Decimal.{Decimal}
use Rattle.frac_core.specs.Decimal.{decimal_value}
use Rattle.frac_core.specs.Fraction.{Fraction, same_number, nought, unit}
use Rattle.op_trees.specs.declared.tree.Ty.{Ty}
use Rattle.op_trees.specs.declared.tree.Ty.TheVariants as T
use Rattle.jani_table.specs.declared.table.Form.{Form}
use Rattle.jani_table.specs.declared.table.Form.TheVariants as F
use Rattle.jani_table.specs.declared.words.Feature.{Feature}
use Rattle.jani_table.specs.declared.words.Feature.TheVariants.{DerivedOperators, StateExitRewards}
use Rattle.jani_table.specs.declared.words.RefusedOp.{RefusedOp}
use Rattle.jani_table.specs.declared.words.RefusedOp.TheVariants as R
use Rattle.jani_table.specs.Operators.{op_of}

-- ---- types

abbrev pub ty_text : Ty → List ℕ
ty_text T.Bool = codes "bool"
ty_text T.Int = codes "int"
ty_text T.Real = codes "real"

-- the type that is written so
unfoldable pub ty_of : List ℕ → Option Ty
ty_of s = find (λ t. bytes_eq (ty_text t) s) (T.Bool ∷ T.Int ∷ T.Real ∷ [])

-- a bounded type stands on int or real
abbrev pub is_base : Option Ty → Bool
is_base (Some T.Int) = true
is_base (Some T.Real) = true
is_base (Some T.Bool) = false
is_base None = false

-- ---- features that may be asked for

abbrev pub feature_text : Feature → List ℕ
feature_text DerivedOperators = codes "derived-operators"
feature_text StateExitRewards = codes "state-exit-rewards"

unfoldable pub feature_of : List ℕ → Option Feature
feature_of s = find (λ w. bytes_eq (feature_text w) s) (DerivedOperators ∷ StateExitRewards ∷ [])

-- ---- operators of the standard that are left out

abbrev pub refused_text : RefusedOp → List ℕ
refused_text R.Pow = codes "pow"
refused_text R.Log = codes "log"
refused_text R.Abs = codes "abs"
refused_text R.Sgn = codes "sgn"
refused_text R.Trc = codes "trc"
refused_text R.Sin = codes "sin"
refused_text R.Cos = codes "cos"
refused_text R.Tan = codes "tan"

unfoldable pub refused_of : List ℕ → Option RefusedOp
refused_of s = find (λ o. bytes_eq (refused_text o) s) (R.Pow ∷ R.Log ∷ R.Abs ∷ R.Sgn ∷ R.Trc ∷ R.Sin ∷ R.Cos ∷ R.Tan ∷ [])

-- ---- the reason against a value, if any

abbrev pub unless : Bool → Reason → Option Reason
unless b reason = if b then None else Some reason

-- against a value of another kind than the form has
abbrev pub kind_fault : Form → Option Reason
kind_fault F.Anything = None
kind_fault F.ModelType = Some OtherKind
kind_fault F.LeftOut = Some LeftOut
kind_fault F.Index = Some LeftOut
kind_fault F.AutomatonInitial = Some LeftOut
kind_fault _ = Some WrongShape

-- against null
abbrev pub null_fault : Form → Option Reason
null_fault F.NameOrNull = None
null_fault f = kind_fault f

-- against true and false
abbrev pub truth_fault : Form → Option Reason
truth_fault F.Truth = None
truth_fault F.Expression = None
truth_fault f = kind_fault f

-- the literal has this value
abbrev pub has_value : Decimal → Fraction → Bool
has_value d x = same_number (decimal_value d) x

-- against a number
abbrev pub number_fault : Form → Decimal → Option Reason
number_fault F.Expression d = None
number_fault F.Version d = unless (has_value d unit) WrongShape
number_fault F.Index d = unless (has_value d nought) LeftOut
number_fault f d = kind_fault f

-- a name is not empty, and has at most 255 bytes
abbrev pub name_fault : List ℕ → Option Reason
name_fault [] = Some WrongShape
name_fault (b ∷ bs) = unless (nat_lt (length (b ∷ bs)) 256) TooLong

abbrev pub operator_fault : List ℕ → Option Reason
operator_fault s = if is_some (op_of s) then None else Some (if is_some (refused_of s) then LeftOut else WrongShape)

-- against a string
abbrev pub word_fault : Form → List ℕ → Option Reason
word_fault F.Text s = None
word_fault F.Name s = name_fault s
word_fault F.NameOrNull s = name_fault s
word_fault F.Expression s = name_fault s
word_fault F.ModelType s = unless (bytes_eq (codes "mdp") s) OtherKind
word_fault F.Feature s = unless (is_some (feature_of s)) OtherFeature
word_fault F.ConstantType s = unless (is_some (ty_of s)) WrongShape
word_fault F.VariableType s = unless (is_some (ty_of s)) WrongShape
word_fault F.BoundedWord s = unless (bytes_eq (codes "bounded") s) WrongShape
word_fault F.BaseWord s = unless (is_base (ty_of s)) WrongShape
word_fault F.Operator s = operator_fault s
word_fault f s = kind_fault f
