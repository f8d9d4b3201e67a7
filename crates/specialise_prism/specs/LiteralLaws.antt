-- The numerals of PRISM are worth their numbers, have their types and name nothing.
use Rattle.std.specs.Prelude.{◌≡◌, ℕ, suc, ◌<ℤ◌, ◌≤ℤ◌, ℤ, pos, negsuc, unsigned_abs, Bool, true, false, ◌||◌, Some, None, List, IsTrue, if◌then◌else◌}
use Rattle.std.proofs.Common.{refl, ap, ap₂, ◌∙◌, arith}
use Rattle.std.proofs.lemmas.Int.{ints}
use Rattle.frac_core.specs.Fraction.{whole, whole_lowest, negated, is_wide}
use Rattle.frac_core.specs.Laws.{fraction_lowest}
use Rattle.frac_core.specs.Decimal.{is_normal}
use Rattle.op_trees.specs.declared.tree.Ty.TheVariants as T
use Rattle.op_trees.specs.declared.tree.Value.TheVariants as V
use Rattle.op_trees.specs.Tree.{Number, One, AllNames, AllNumbers, bare}
use Rattle.op_trees.specs.Standard.{standard_meaning}
use Rattle.op_trees.specs.Types.{Types, type_in}
use Rattle.op_trees.specs.Seen.{Seen, known, node, seen}
use Rattle.prism_tree.specs.declared.operator.PrismOp.TheVariants.{Neg, Div}
use Rattle.prism_tree.specs.Operators.{prism_meaning, standard}
use Rattle.prism_tree.specs.Syntax.{Expression}
use Rattle.constant_folding.specs.Literals.{AreLiterals}
use Rattle.constant_folding.specs.Monotone.{IsMonotone}
use Rattle.constant_folding.specs.Numbers.{whole_literal}
use Rattle.constant_folding.specs.ValueLiteralLaws.{AreNumerals, IsQuotient, number_as, plain_number, seen_number, value_literals}
use Rattle.constant_folding.proofs.Monotone.{standard_monotone, monotone_along}
use Rattle.constant_folding.proofs.WholeNumbers.{whole_value, whole_normal, whole_real}
use Rattle.specialise_prism.specs.Literal.{whole_tree, prism_literal}

negated-whole : (n : ℕ) → negated (whole (pos (suc n))) ≡ whole (negsuc n)
unfolding negated
negated-whole n = fraction_lowest (negsuc n) 1 (whole_lowest (negsuc n))

whole_seen : (real : Bool) (z : ℤ) (env : List ℕ → Seen) → is_wide (whole z) ≡ false → seen prism_meaning (whole_tree real z) env ≡ plain_number (whole z)
whole_seen real (pos n) env h = ap (λ q. known (Some (V.Number q))) (whole_value real false n) ∙ seen_number (whole (pos n)) h
whole_seen real (negsuc n) env h =
    ap (λ q. node (Some (V.Number (negated q))) (is_wide q)) (whole_value real false (suc n))
    ∙ ap (λ q. node (Some (V.Number q)) (is_wide (whole (pos (suc n))))) (negated-whole n)
    ∙ ap (λ w. record { value = Some (V.Number (whole (negsuc n))); wide = w }) (ap₂ (λ a b. a || b) h h)

whole_typed : (real : Bool) (z : ℤ) (types : Types) → type_in prism_meaning types (whole_tree real z) ≡ Some (number_as real)
whole_typed real (pos n) types = ap (λ b. Some (if b then T.Real else T.Int)) (whole_real real false n)
whole_typed real (negsuc n) types = by real (whole_real real false (suc n))
  where
    by : (r : Bool) → (whole_literal real false (suc n)).real ≡ r →
        type_in prism_meaning types (One 0 Neg (Number 0 (whole_literal real false (suc n)))) ≡ Some (number_as r)
    by true e = ap (λ b. prism_meaning.sort Neg (if b then T.Real else T.Int) None None) e
    by false e = ap (λ b. prism_meaning.sort Neg (if b then T.Real else T.Int) None None) e

-- ---- what holds of each of its parts
module _ (P : Expression → Type 0) (numeral : (real : Bool) (n : ℕ) → P (Number 0 (whole_literal real false n))) (minus : (a : Expression) → P a → P (One 0 Neg a)) where
  pub whole_holds : (real : Bool) (z : ℤ) → P (whole_tree real z)
  whole_holds real (pos n) = numeral real n
  whole_holds real (negsuc n) = minus _ (numeral real (suc n))

pub prism_numerals : AreNumerals prism_meaning whole_tree
prism_numerals = record {
  seen_as = whole_seen;
  typed = whole_typed;
  nameless = whole_holds (AllNames (λ x. ⊥)) (λ r n. tt) (λ a h. h);
  normal = whole_holds (AllNumbers (λ d. IsTrue (is_normal d))) (λ r n. whole_normal r false n) (λ a h. h);
  placed = whole_holds (λ e. bare e ≡ e) (λ r n. refl) (λ a h. ap (One 0 Neg) h);
}

pub prism_divides : IsQuotient prism_meaning Div
prism_divides = record { divides = λ a b. refl; typed = refl }

pub prism_literals : AreLiterals prism_meaning prism_literal
prism_literals = value_literals prism_meaning whole_tree Div prism_numerals prism_divides

pub prism_monotone : IsMonotone prism_meaning
prism_monotone = monotone_along standard standard_meaning standard_monotone

-- by the sign of the number
pub low_tree : (real : Bool) (z : ℤ) → z <ℤ pos 0 → One 0 Neg (Number 0 (whole_literal real false (unsigned_abs z))) ≡ whole_tree real z
low_tree real (pos n) h = absurd (omega (arith, ints, h))
low_tree real (negsuc n) h = refl

pub high_tree : (real : Bool) (z : ℤ) → pos 0 ≤ℤ z → Number 0 (whole_literal real false (unsigned_abs z)) ≡ whole_tree real z
high_tree real (pos n) h = refl
high_tree real (negsuc n) h = absurd (omega (arith, ints, h))
