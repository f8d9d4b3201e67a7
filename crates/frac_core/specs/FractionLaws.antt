-- The laws of fractions, as statements: what the contract of `fraction_laws` promises.
use Rattle.std.specs.Prelude.{◌≡◌, ◌≢◌, ◌↔◌, ◌⊎◌, ℤ, pos, ◌+ℤ◌, ◌*ℤ◌, ◌≤ℤ◌, ◌<ℤ◌, IsTrue, IsSomeAnd, None, List, ◌++◌, map}
use Rattle.std.specs.Ordering.{MatchOrdering}
use Rattle.std.specs.declared.cmp.Ordering.{Ordering}
use Rattle.frac_core.specs.Fraction.{Fraction, quotient, whole, nought, unit, plus, negated, difference, times, over, compare, is_whole, floor_of, ceil_of, remainder}
use Rattle.frac_core.specs.Order.{AtMost, Below}
use Rattle.frac_core.specs.Rounding.{IsRemainder}
use Rattle.frac_core.specs.Sums.{total, product}

-- sum and product are those of a field, and on whole numbers those of the integers
pub record FieldLaws : Type 0 where
  pub plus_comm : (x y : Fraction) → plus x y ≡ plus y x
  pub plus_assoc : (x y z : Fraction) → plus (plus x y) z ≡ plus x (plus y z)
  pub plus_nought : (x : Fraction) → plus x nought ≡ x
  pub plus_negated : (x : Fraction) → plus x (negated x) ≡ nought
  pub difference-plus : (x y : Fraction) → difference x y ≡ plus x (negated y)
  pub times_comm : (x y : Fraction) → times x y ≡ times y x
  pub times_assoc : (x y z : Fraction) → times (times x y) z ≡ times x (times y z)
  pub times_unit : (x : Fraction) → times x unit ≡ x
  pub unit_not-nought : unit ≢ nought
  pub times-plus : (x y z : Fraction) → times x (plus y z) ≡ plus (times x y) (times x z)
  pub times-over : (x y : Fraction) → y ≢ nought → times (over x y) y ≡ x
  pub plus-whole : (n m : ℤ) → plus (whole n) (whole m) ≡ whole (n +ℤ m)
  pub times-whole : (n m : ℤ) → times (whole n) (whole m) ≡ whole (n *ℤ m)
  pub times-quotient : (n m : ℤ) → m ≢ pos 0 → times (quotient n m) (whole m) ≡ whole n
  pub times_den : (x : Fraction) → times x (whole (pos x.den)) ≡ whole x.num

-- the order is linear, sums and products keep it, and on whole numbers it is that of the integers
pub record OrderLaws : Type 0 where
  pub AtMost_refl : (x : Fraction) → AtMost x x
  pub AtMost_antisym : (x y : Fraction) → AtMost x y → AtMost y x → x ≡ y
  pub AtMost_trans : (x y z : Fraction) → AtMost x y → AtMost y z → AtMost x z
  pub AtMost_total : (x y : Fraction) → AtMost x y ⊎ AtMost y x
  pub Below_iff : (x y : Fraction) → Below x y ↔ ¬ (AtMost y x)
  pub plus_AtMost : (x y z : Fraction) → AtMost x y → AtMost (plus x z) (plus y z)
  pub times_AtMost : (x y z : Fraction) → AtMost nought z → AtMost x y → AtMost (times x z) (times y z)
  pub AtMost-whole : (n m : ℤ) → n ≤ℤ m → AtMost (whole n) (whole m)
  pub Below-whole : (n m : ℤ) → n <ℤ m → Below (whole n) (whole m)
  pub compare_ranks : (x y : Fraction) → MatchOrdering (compare x y) (Below x y) (x ≡ y) (Below y x)
  pub compare_is : (x y : Fraction) (r : Ordering) → MatchOrdering r (Below x y) (x ≡ y) (Below y x) → r ≡ compare x y

-- floor and ceiling are the whole numbers next to a fraction, and a remainder lies below its divisor
pub record RoundingLaws : Type 0 where
  pub floor_AtMost : (x : Fraction) → AtMost (whole (floor_of x)) x
  pub Below_floor : (x : Fraction) → Below x (plus (whole (floor_of x)) unit)
  pub AtMost_ceil : (x : Fraction) → AtMost x (whole (ceil_of x))
  pub ceil_Below : (x : Fraction) → Below (difference (whole (ceil_of x)) unit) x
  pub whole_floor : (x : Fraction) → IsTrue (is_whole x) ↔ (x ≡ whole (floor_of x))
  pub is_whole-plus : (x y : Fraction) → IsTrue (is_whole x) → IsTrue (is_whole y) → IsTrue (is_whole (plus x y))
  pub is_whole-difference : (x y : Fraction) → IsTrue (is_whole x) → IsTrue (is_whole y) → IsTrue (is_whole (difference x y))
  pub is_whole-times : (x y : Fraction) → IsTrue (is_whole x) → IsTrue (is_whole y) → IsTrue (is_whole (times x y))
  pub remainder_some : (x y : Fraction) → IsTrue (is_whole x) → IsTrue (is_whole y) → Below nought y → IsSomeAnd (remainder x y) (IsRemainder x y)
  pub remainder_none : (x y : Fraction) → AtMost y nought → remainder x y ≡ None

-- sums and products of lists
pub record ListLaws : Type 0 where
  pub total-append : (xs ys : List Fraction) → total (xs ++ ys) ≡ plus (total xs) (total ys)
  pub product-append : (xs ys : List Fraction) → product (xs ++ ys) ≡ times (product xs) (product ys)
  pub total-times : (x : Fraction) (ys : List Fraction) → total (map (times x) ys) ≡ times x (total ys)
