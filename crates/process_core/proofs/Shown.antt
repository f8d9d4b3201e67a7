-- What is seen of a model, written in short: for worked examples, whose equations hold by computing both sides.
use Rattle.std.specs.Prelude.{ℕ, ℤ, pos, List, map, Bool, Option, Some, None, bytes_eq, if◌then◌else◌}
use Rattle.std.specs.Option.{option_map}
use Rattle.frac_core.specs.Fraction.{Fraction, whole}
use Rattle.op_trees.specs.declared.tree.Value.{Value}
use Rattle.op_trees.specs.declared.tree.Value.TheVariants as V
use Rattle.process_core.specs.Process.{Branch, Outcome, Good, Bad, Choice}
use Rattle.process_core.specs.Ready.{Values, Name}
use Rattle.process_core.specs.Instance.{Valuation}
use Rattle.process_core.specs.declared.data.Mark.{Mark}
use Rattle.process_core.specs.declared.data.Mark.TheVariants as M

-- ---- values
pub record Ratio : Type 0 where
  pub num : ℤ
  pub den : ℕ

abbrev pub ratio : ℕ → ℕ → Ratio
ratio n d = record { num = pos n; den = d }

abbrev pub count : ℕ → Ratio
count n = ratio n 1

-- truth values, told from numbers by their denominator
abbrev pub shown_truth : Bool → Ratio
shown_truth b = ratio (if b then 1 else 0) 0

abbrev pub ratio_of : Fraction → Ratio
ratio_of q = record { num = q.num; den = q.den }

abbrev pub shown_value : Value → Ratio
shown_value (V.Truth b) = shown_truth b
shown_value (V.Number q) = ratio_of q

-- ---- choices and marks
pub record Way : Type 0 where
  pub probability : Ratio
  pub target : List Ratio
  pub rewards : List Ratio

-- with this probability to the state of these whole numbers, with these rewards
abbrev pub to : Ratio → List ℕ → List Ratio → Way
to p s rs = record { probability = p; target = map count s; rewards = rs }

-- a distribution; or the kinds of faults: undefined, outside a range, no distribution
pub data Shown : Type 0 where
  good : Option Name → List Way → Shown
  bad : Option Name → Bool → Bool → Bool → Shown

abbrev pub shown_branch : Branch Fraction Values → Way
shown_branch b = record { probability = ratio_of b.probability; target = map shown_value b.target; rewards = map ratio_of b.rewards }

abbrev pub shown_outcome : Option Name → Outcome Fraction Values → Shown
shown_outcome l (Good bs) = good l (map shown_branch bs)
shown_outcome l (Bad k) = bad l k.undef k.range k.weight

abbrev pub shown : List (Choice Name Fraction Values) → List Shown
shown cs = map (λ c. shown_outcome c.label c.outcome) cs

abbrev pub shown_mark : Mark → Option Ratio
shown_mark (M.Truth b) = option_map shown_truth b
shown_mark (M.Number q) = option_map ratio_of q

-- ---- values that are given for constants, and states of whole numbers
abbrev pub none : Valuation
none x = None

abbrev pub with : Name → Value → Valuation → Valuation
with x v others y = if bytes_eq y x then Some v else others y

abbrev pub state : List ℕ → Values
state ns = map (λ n. V.Number (whole (pos n))) ns
