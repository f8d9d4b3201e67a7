-- The operators that languages have in common keep the laws of a set of operators, and so do those that are read as them.
use Rattle.std.specs.Prelude.{◌≡◌, ◌↔◌, ◌≤◌, pos, int_lt, ◌&&◌, Bool, true, false, not, Option, Some, None, IsTrue, if◌then◌else◌}
use Rattle.std.specs.Option.{option_map}
use Rattle.std.specs.Ordering.{int_eq}
use Rattle.std.specs.Int.{int_rem_euclid}
use Rattle.std.proofs.Common.{refl, subst, arith, ◌∙◌}
use Rattle.frac_core.specs.Fraction.{Fraction, plus, negated, difference, times, over, same_number, whole, is_whole, floor_of, ceil_of, nought}
use Rattle.frac_core.specs.Laws.{difference-plus, nought_plus}
use Rattle.frac_core.specs.Rounding.{is_whole-plus, is_whole-difference, is_whole-times}
use Rattle.op_trees.specs.declared.tree.Ty.{Ty}
use Rattle.op_trees.specs.declared.tree.Ty.TheVariants as T
use Rattle.op_trees.specs.declared.tree.Value.{Value}
use Rattle.op_trees.specs.declared.tree.Value.TheVariants.{Truth, Number}
use Rattle.op_trees.specs.declared.tree.Next.{Next}
use Rattle.op_trees.specs.declared.tree.Next.TheVariants.{Done, Second, Third, All}
use Rattle.op_trees.specs.Types.{fits, has_type}
use Rattle.op_trees.specs.Meaning.{Meaning, along}
use Rattle.op_trees.specs.Operators.{IsLawful, given_count, fits_some, has_second_type}
use Rattle.op_trees.specs.declared.standard.StandardOp.{StandardOp}
use Rattle.op_trees.specs.declared.standard.StandardOp.TheVariants.{Neg, Mul, Div, Add, Sub, Less, AtMost, AtLeast, Greater, Equal, Unequal, Not, And, Or, Iff, Implies, Ite, Min, Max, Floor, Ceil, Mod}
use Rattle.op_trees.specs.Standard.{standard_meaning, arity, sort, sort_one, sort_two, sort_three, strict, first, value, of_one, of_two, of_numbers, of_truths, joined, alike, both_bool, both_int, with_type, is_number, is_less, same_truth}

few : (o : StandardOp) → (1 ≤ arity o) × (arity o ≤ 3)
few Ite = (omega arith, omega arith)
few o = (omega arith, omega arith)

counted_one : (o : StandardOp) (a t : Ty) → sort_one o a ≡ Some t → 1 ≡ arity o
counted_one Neg a t h = refl
counted_one Not a t h = refl
counted_one Floor a t h = refl
counted_one Ceil a t h = refl
counted_one o a t h = cc

counted_two : (o : StandardOp) (a b t : Ty) → sort_two o a b ≡ Some t → 2 ≡ arity o
counted_two Neg a b t h = cc
counted_two Not a b t h = cc
counted_two Floor a b t h = cc
counted_two Ceil a b t h = cc
counted_two Ite a b t h = cc
counted_two o a b t h = refl

counted_three : (o : StandardOp) (a b c t : Ty) → sort_three o a b c ≡ Some t → 3 ≡ arity o
counted_three Ite a b c t h = refl
counted_three o a b c t h = cc

counted : (o : StandardOp) (a : Ty) (b c : Option Ty) (t : Ty) → sort o a b c ≡ Some t → given_count b c ≡ arity o
counted o a None None t h = counted_one o a t h
counted o a (Some b) None t h = counted_two o a b t h
counted o a (Some b) (Some c) t h = counted_three o a b c t h
counted o a None (Some c) t h = cc

three_lazy : (o : StandardOp) → arity o ≡ 3 → strict o ≡ false
three_lazy Ite h = refl
three_lazy o h = absurd (omega arith)

all_strict : (o : StandardOp) (x : Value) → (first o x ≡ All) ↔ (strict o ≡ true)
all_strict And (Truth true) = (λ e. cc, λ e. cc)
all_strict And (Truth false) = (λ e. cc, λ e. cc)
all_strict And (Number q) = (λ e. cc, λ e. cc)
all_strict Or (Truth true) = (λ e. cc, λ e. cc)
all_strict Or (Truth false) = (λ e. cc, λ e. cc)
all_strict Or (Number q) = (λ e. cc, λ e. cc)
all_strict Implies (Truth true) = (λ e. cc, λ e. cc)
all_strict Implies (Truth false) = (λ e. cc, λ e. cc)
all_strict Implies (Number q) = (λ e. cc, λ e. cc)
all_strict Ite (Truth true) = (λ e. cc, λ e. cc)
all_strict Ite (Truth false) = (λ e. cc, λ e. cc)
all_strict Ite (Number q) = (λ e. cc, λ e. cc)
all_strict o x = (λ e. refl, λ e. refl)

-- what is asked for is there: two bools, or what is chosen between
second_two : (a b t : Ty) → both_bool a b ≡ Some t → IsTrue (fits b t)
second_two T.Bool T.Bool t h = subst (λ u. IsTrue (fits T.Bool u)) (let e : T.Bool ≡ t = cc in e) refl
second_two a b t h = cc

chosen_fits : (b c t : Ty) → alike b c ≡ Some t → IsTrue (fits b t) × IsTrue (fits c t)
chosen_fits T.Bool T.Bool t h = let e : T.Bool ≡ t = cc in (subst (λ u. IsTrue (fits T.Bool u)) e refl, subst (λ u. IsTrue (fits T.Bool u)) e refl)
chosen_fits T.Int T.Int t h = let e : T.Int ≡ t = cc in (subst (λ u. IsTrue (fits T.Int u)) e refl, subst (λ u. IsTrue (fits T.Int u)) e refl)
chosen_fits T.Int T.Real t h = let e : T.Real ≡ t = cc in (subst (λ u. IsTrue (fits T.Int u)) e refl, subst (λ u. IsTrue (fits T.Real u)) e refl)
chosen_fits T.Real T.Int t h = let e : T.Real ≡ t = cc in (subst (λ u. IsTrue (fits T.Real u)) e refl, subst (λ u. IsTrue (fits T.Int u)) e refl)
chosen_fits T.Real T.Real t h = let e : T.Real ≡ t = cc in (subst (λ u. IsTrue (fits T.Real u)) e refl, subst (λ u. IsTrue (fits T.Real u)) e refl)
chosen_fits b c t h = cc

ite_fits : (a b c t : Ty) → sort_three Ite a b c ≡ Some t → IsTrue (fits b t) × IsTrue (fits c t)
ite_fits T.Bool b c t h = chosen_fits b c t h
ite_fits a b c t h = cc

one_asks_none : (o : StandardOp) (x : Value) (a t : Ty) → first o x ≡ Second → sort_one o a ≡ Some t → ⊥
one_asks_none And x a t e h = cc
one_asks_none Or x a t e h = cc
one_asks_none Implies x a t e h = cc
one_asks_none Ite x a t e h = cc
one_asks_none o x a t e h = cc

second_of_two : (o : StandardOp) (x : Value) (a b t : Ty) → first o x ≡ Second → sort_two o a b ≡ Some t → IsTrue (fits b t)
second_of_two And x a b t e h = second_two a b t h
second_of_two Or x a b t e h = second_two a b t h
second_of_two Implies x a b t e h = second_two a b t h
second_of_two Ite x a b t e h = cc
second_of_two o x a b t e h = cc

second_of_three : (o : StandardOp) (x : Value) (a b c t : Ty) → first o x ≡ Second → sort_three o a b c ≡ Some t → IsTrue (fits b t)
second_of_three Ite x a b c t e h = (ite_fits a b c t h).0
second_of_three o x a b c t e h = cc

second : (o : StandardOp) (x : Value) (a : Ty) (b c : Option Ty) (t : Ty) → first o x ≡ Second → sort o a b c ≡ Some t → IsTrue (fits_some b t)
second o x a None None t e h = absurd (one_asks_none o x a t e h)
second o x a (Some b) None t e h = second_of_two o x a b t e h
second o x a (Some b) (Some c) t e h = second_of_three o x a b c t e h
second o x a None (Some c) t e h = cc

third_three : (o : StandardOp) (x : Value) → first o x ≡ Third → arity o ≡ 3
third_three And (Truth true) e = cc
third_three And (Truth false) e = cc
third_three And (Number q) e = cc
third_three Or (Truth true) e = cc
third_three Or (Truth false) e = cc
third_three Or (Number q) e = cc
third_three Implies (Truth true) e = cc
third_three Implies (Truth false) e = cc
third_three Implies (Number q) e = cc
third_three Ite x e = refl
third_three o x e = cc

third_of_three : (o : StandardOp) (a b c t : Ty) → sort_three o a b c ≡ Some t → IsTrue (fits c t)
third_of_three Ite a b c t h = (ite_fits a b c t h).1
third_of_three o a b c t h = cc

third_fits : (o : StandardOp) (a : Ty) (b c : Option Ty) (t : Ty) → arity o ≡ 3 → sort o a b c ≡ Some t → IsTrue (fits_some c t)
third_fits o a None None t s h = absurd (let n = counted_one o a t h in omega arith)
third_fits o a (Some b) None t s h = absurd (let n = counted_two o a b t h in omega arith)
third_fits o a (Some b) (Some c) t s h = third_of_three o a b c t h
third_fits o a None (Some c) t s h = cc

-- ---- values have their types

truth_typed : (t : Ty) (v : Value) (p : Bool) → T.Bool ≡ t → Truth p ≡ v → IsTrue (has_type t v)
truth_typed t v p e f = subst (λ u. IsTrue (has_type u v)) e (subst (λ w. IsTrue (has_type T.Bool w)) f refl)

int_typed : (t : Ty) (v : Value) (x : Fraction) → T.Int ≡ t → Number x ≡ v → IsTrue (is_whole x) → IsTrue (has_type t v)
int_typed t v x e f w = subst (λ u. IsTrue (has_type u v)) e (subst (λ w. IsTrue (has_type T.Int w)) f w)

real_typed : (t : Ty) (v : Value) (x : Fraction) → T.Real ≡ t → Number x ≡ v → IsTrue (has_type t v)
real_typed t v x e f = subst (λ u. IsTrue (has_type u v)) e (subst (λ w. IsTrue (has_type T.Real w)) f refl)

typed_by : (s t : Ty) (o : Option Ty) → with_type s o ≡ Some t → s ≡ t
typed_by s t None h = cc
typed_by s t (Some a) h = cc

both_bool_is : (a b t : Ty) → both_bool a b ≡ Some t → T.Bool ≡ t
both_bool_is T.Bool T.Bool t h = cc
both_bool_is a b t h = cc

both_int_is : (a b t : Ty) → both_int a b ≡ Some t → (T.Int ≡ t) × (a ≡ T.Int) × (b ≡ T.Int)
both_int_is T.Int T.Int t h = (cc, refl, refl)
both_int_is a b t h = cc

-- a number made of two numbers, whole where both are
joined_typed : (a b t : Ty) (x y z : Fraction) (v : Value) → joined a b ≡ Some t → IsTrue (has_type a (Number x)) → IsTrue (has_type b (Number y)) →
    (IsTrue (is_whole x) → IsTrue (is_whole y) → IsTrue (is_whole z)) → Number z ≡ v → IsTrue (has_type t v)
joined_typed T.Int T.Int t x y z v h p q w f = int_typed t v z (cc) f (w p q)
joined_typed T.Int T.Real t x y z v h p q w f = real_typed t v z (cc) f
joined_typed T.Real T.Int t x y z v h p q w f = real_typed t v z (cc) f
joined_typed T.Real T.Real t x y z v h p q w f = real_typed t v z (cc) f
joined_typed a b t x y z v h p q w f = cc

pub difference_nought : (x : Fraction) → difference nought x ≡ negated x
difference_nought x = difference-plus nought x ∙ nought_plus (negated x)

whole_negated : (x : Fraction) → IsTrue (is_whole x) → IsTrue (is_whole (negated x))
whole_negated x w = subst (λ y. IsTrue (is_whole y)) (difference_nought x) (is_whole-difference nought x refl w)

negated_typed : (a t : Ty) (x : Fraction) (v : Value) → is_number a ≡ Some t → IsTrue (has_type a (Number x)) → Number (negated x) ≡ v → IsTrue (has_type t v)
negated_typed T.Int t x v h p f = int_typed t v (negated x) (cc) f (whole_negated x p)
negated_typed T.Real t x v h p f = real_typed t v (negated x) (cc) f
negated_typed T.Bool t x v h p f = cc

chosen_whole : (b : Bool) (x y : Fraction) → IsTrue (is_whole x) → IsTrue (is_whole y) → IsTrue (is_whole (if b then y else x))
chosen_whole true x y p q = q
chosen_whole false x y p q = p

over_typed : (b : Bool) (x : Fraction) (t : Ty) (v : Value) → T.Real ≡ t → ◌≡◌ {A = Option Value} (if b then None else Some (Number x)) (Some v) → IsTrue (has_type t v)
over_typed true x t v e h = cc
over_typed false x t v e h = real_typed t v x e (let f : Number x ≡ v = cc in f)

-- what remains of a division of whole numbers is a whole number
some_whole : (b : Bool) (z : Fraction) (v : Value) → IsTrue (is_whole z) → ◌≡◌ {A = Option Value} (option_map Number (if b then Some z else None)) (Some v) → IsTrue (has_type T.Int v)
some_whole true z v w h = subst (λ u. IsTrue (has_type T.Int u)) (let f : Number z ≡ v = cc in f) w
some_whole false z v w h = cc

mod_typed : (b w : Bool) (z : Fraction) (t : Ty) (v : Value) → T.Int ≡ t → IsTrue (is_whole z) → ◌≡◌ {A = Option Value} (if w then option_map Number (if b then Some z else None) else None) (Some v) → IsTrue (has_type t v)
mod_typed b true z t v e w h = subst (λ u. IsTrue (has_type u v)) e (some_whole b z v w h)
mod_typed b false z t v e w h = cc

-- two numbers
numbers : (o : StandardOp) (a b t : Ty) (x y : Fraction) (v : Value) → sort_two o a b ≡ Some t → IsTrue (has_type a (Number x)) → IsTrue (has_type b (Number y)) →
    of_numbers o x y ≡ Some v → IsTrue (has_type t v)
numbers Mul a b t x y v h p q e = joined_typed a b t x y (times x y) v h p q (is_whole-times x y) (let f : Number (times x y) ≡ v = cc in f)
numbers Add a b t x y v h p q e = joined_typed a b t x y (plus x y) v h p q (is_whole-plus x y) (let f : Number (plus x y) ≡ v = cc in f)
numbers Sub a b t x y v h p q e = joined_typed a b t x y (difference x y) v h p q (is_whole-difference x y) (let f : Number (difference x y) ≡ v = cc in f)
numbers Min a b t x y v h p q e = joined_typed a b t x y (if is_less y x then y else x) v h p q (chosen_whole (is_less y x) x y) (let f : Number (if is_less y x then y else x) ≡ v = cc in f)
numbers Max a b t x y v h p q e = joined_typed a b t x y (if is_less x y then y else x) v h p q (chosen_whole (is_less x y) x y) (let f : Number (if is_less x y then y else x) ≡ v = cc in f)
numbers Div a b t x y v h p q e = over_typed (int_eq y.num (pos 0)) (over x y) t v (typed_by T.Real t (joined a b) h) e
numbers Less a b t x y v h p q e = truth_typed t v (is_less x y) (typed_by T.Bool t (joined a b) h) (let f : Truth (is_less x y) ≡ v = cc in f)
numbers AtMost a b t x y v h p q e = truth_typed t v (not (is_less y x)) (typed_by T.Bool t (joined a b) h) (let f : Truth (not (is_less y x)) ≡ v = cc in f)
numbers AtLeast a b t x y v h p q e = truth_typed t v (not (is_less x y)) (typed_by T.Bool t (joined a b) h) (let f : Truth (not (is_less x y)) ≡ v = cc in f)
numbers Greater a b t x y v h p q e = truth_typed t v (is_less y x) (typed_by T.Bool t (joined a b) h) (let f : Truth (is_less y x) ≡ v = cc in f)
numbers Equal a b t x y v h p q e = truth_typed t v (same_number x y) (typed_by T.Bool t (alike a b) h) (let f : Truth (same_number x y) ≡ v = cc in f)
numbers Unequal a b t x y v h p q e = truth_typed t v (not (same_number x y)) (typed_by T.Bool t (alike a b) h) (let f : Truth (not (same_number x y)) ≡ v = cc in f)
numbers Mod a b t x y v h p q e = mod_typed (int_lt (pos 0) y.num) (is_whole x && is_whole y) (whole (int_rem_euclid x.num y.num)) t v (both_int_is a b t h).0 refl e
numbers o a b t x y v h p q e = cc

-- two truth values
truths : (o : StandardOp) (a b t : Ty) (p q : Bool) (v : Value) → sort_two o a b ≡ Some t → of_truths o p q ≡ Some v → IsTrue (has_type t v)
truths Equal a b t p q v h e = truth_typed t v (same_truth p q) (typed_by T.Bool t (alike a b) h) (let f : Truth (same_truth p q) ≡ v = cc in f)
truths Unequal a b t p q v h e = truth_typed t v (not (same_truth p q)) (typed_by T.Bool t (alike a b) h) (let f : Truth (not (same_truth p q)) ≡ v = cc in f)
truths Iff a b t p q v h e = truth_typed t v (same_truth p q) (both_bool_is a b t h) (let f : Truth (same_truth p q) ≡ v = cc in f)
truths o a b t p q v h e = cc

two_typed : (o : StandardOp) (a b t : Ty) (x y v : Value) → sort_two o a b ≡ Some t → IsTrue (has_type a x) → IsTrue (has_type b y) → of_two o x y ≡ Some v → IsTrue (has_type t v)
two_typed o a b t (Number x) (Number y) v h p q e = numbers o a b t x y v h p q e
two_typed o a b t (Truth x) (Truth y) v h p q e = truths o a b t x y v h e
two_typed o a b t x y v h p q e = cc

one_typed : (o : StandardOp) (a t : Ty) (x v : Value) → sort_one o a ≡ Some t → IsTrue (has_type a x) → of_one o x ≡ Some v → IsTrue (has_type t v)
one_typed Neg a t (Number x) v h p e = negated_typed a t x v h p (let f : Number (negated x) ≡ v = cc in f)
one_typed Floor a t (Number x) v h p e = int_typed t v (whole (floor_of x)) (typed_by T.Int t (is_number a) h) (let f : Number (whole (floor_of x)) ≡ v = cc in f) refl
one_typed Ceil a t (Number x) v h p e = int_typed t v (whole (ceil_of x)) (typed_by T.Int t (is_number a) h) (let f : Number (whole (ceil_of x)) ≡ v = cc in f) refl
one_typed Not T.Bool t (Truth p) v h q e = truth_typed t v (not p) (let f : T.Bool ≡ t = cc in f) (let f : Truth (not p) ≡ v = cc in f)
one_typed o a t x v h p e = cc

applied : (o : StandardOp) (x v : Value) (y : Option Value) (a : Ty) (b : Option Ty) (t : Ty) → sort o a b None ≡ Some t → IsTrue (has_type a x) → IsTrue (has_second_type b y) →
    value o x y ≡ Some v → IsTrue (has_type t v)
applied o x v None a None t h p q e = one_typed o a t x v h p e
applied o x v (Some y) a (Some b) t h p q e = two_typed o a b t x y v h p q e
applied o x v (Some y) a None t h p q e = cc
applied o x v None a (Some b) t h p q e = cc

-- what the first operand settles is a truth value
settled_bool : (t : Ty) (a b : Ty) (v : Value) (p : Bool) → both_bool a b ≡ Some t → ◌≡◌ {A = Next} (Done (Truth p)) (Done v) → IsTrue (has_type t v)
settled_bool t a b v p h e = truth_typed t v p (both_bool_is a b t h) (let f : Truth p ≡ v = cc in f)

done_of_one : (o : StandardOp) (x v : Value) (a t : Ty) → sort_one o a ≡ Some t → first o x ≡ Done v → ⊥
done_of_one And x v a t h e = cc
done_of_one Or x v a t h e = cc
done_of_one Implies x v a t h e = cc
done_of_one Ite x v a t h e = cc
done_of_one o x v a t h e = cc

done_of_two : (o : StandardOp) (x v : Value) (a b t : Ty) → sort_two o a b ≡ Some t → first o x ≡ Done v → IsTrue (has_type t v)
done_of_two And (Truth false) v a b t h e = settled_bool t a b v false h e
done_of_two And (Truth true) v a b t h e = cc
done_of_two And (Number q) v a b t h e = cc
done_of_two Or (Truth true) v a b t h e = settled_bool t a b v true h e
done_of_two Or (Truth false) v a b t h e = cc
done_of_two Or (Number q) v a b t h e = cc
done_of_two Implies (Truth false) v a b t h e = settled_bool t a b v true h e
done_of_two Implies (Truth true) v a b t h e = cc
done_of_two Implies (Number q) v a b t h e = cc
done_of_two Ite x v a b t h e = cc
done_of_two o x v a b t h e = cc

done_of_three : (o : StandardOp) (x v : Value) (a b c t : Ty) → sort_three o a b c ≡ Some t → first o x ≡ Done v → ⊥
done_of_three Ite (Truth false) v a b c t h e = cc
done_of_three Ite (Truth true) v a b c t h e = cc
done_of_three Ite (Number q) v a b c t h e = cc
done_of_three And x v a b c t h e = cc
done_of_three Or x v a b c t h e = cc
done_of_three Implies x v a b c t h e = cc
done_of_three o x v a b c t h e = cc

done : (o : StandardOp) (x v : Value) (a : Ty) (b c : Option Ty) (t : Ty) → sort o a b c ≡ Some t → first o x ≡ Done v → IsTrue (has_type t v)
done o x v a None None t h e = absurd (done_of_one o x v a t h e)
done o x v a (Some b) None t h e = done_of_two o x v a b t h e
done o x v a (Some b) (Some c) t h e = absurd (done_of_three o x v a b c t h e)
done o x v a None (Some c) t h e = cc

pub standard_lawful : IsLawful standard_meaning
standard_lawful = record {
  few = few;
  counted = counted;
  three_lazy = three_lazy;
  all_strict = λ o x a b c t h. all_strict o x;
  second = λ o x a b c t h e. second o x a b c t e h.taken;
  third = λ o x a b c t h e. third_fits o a b c t (third_three o x e) h.taken;
  done = λ o x v a b c t h e. done o x v a b c t h.taken e;
  applied = λ o x v y a b t s h k e. applied o x v y a b t h.taken h.typed k e;
}

-- operators that are read as others keep the laws where those do
pub lawful_along : {P O : Type 0} (meant : P → O) (m : Meaning O) → IsLawful m → IsLawful (along meant m)
lawful_along meant m l = record {
  few = λ o. l.few (meant o);
  counted = λ o. l.counted (meant o);
  three_lazy = λ o. l.three_lazy (meant o);
  all_strict = λ o x a b c t h. l.all_strict (meant o) x a b c t (record { taken = h.taken; typed = h.typed });
  second = λ o x a b c t h. l.second (meant o) x a b c t (record { taken = h.taken; typed = h.typed });
  third = λ o x a b c t h. l.third (meant o) x a b c t (record { taken = h.taken; typed = h.typed });
  done = λ o x v a b c t h. l.done (meant o) x v a b c t (record { taken = h.taken; typed = h.typed });
  applied = λ o x v y a b t s h. l.applied (meant o) x v y a b t s (record { taken = h.taken; typed = h.typed });
}
