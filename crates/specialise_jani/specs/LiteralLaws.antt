-- The numerals of JANI are worth their numbers, have their types and name nothing.
use Rattle.std.specs.Prelude.{◌≡◌, ℕ, suc, ◌<ℤ◌, ◌≤ℤ◌, ℤ, pos, negsuc, unsigned_abs, Bool, true, false, Some, List, IsTrue, if◌then◌else◌}
use Rattle.std.proofs.Common.{refl, ap, ◌∙◌, arith}
use Rattle.std.proofs.lemmas.Int.{ints}
use Rattle.frac_core.specs.Fraction.{whole, is_wide}
use Rattle.frac_core.specs.Decimal.{is_normal}
use Rattle.op_trees.specs.declared.tree.Ty.TheVariants as T
use Rattle.op_trees.specs.declared.tree.Value.TheVariants as V
use Rattle.op_trees.specs.Tree.{Number, AllNames, AllNumbers, bare}
use Rattle.op_trees.specs.Standard.{standard_meaning}
use Rattle.op_trees.specs.Types.{Types, type_in}
use Rattle.op_trees.specs.Seen.{Seen, known, seen}
use Rattle.jani_table.specs.declared.operator.JaniOp.TheVariants.{Div}
use Rattle.jani_table.specs.Operators.{jani_meaning, standard}
use Rattle.jani_tree.specs.Syntax.{Expression}
use Rattle.constant_folding.specs.Literals.{AreLiterals}
use Rattle.constant_folding.specs.Monotone.{IsMonotone}
use Rattle.constant_folding.specs.Numbers.{whole_literal}
use Rattle.constant_folding.specs.ValueLiteralLaws.{AreNumerals, IsQuotient, number_as, plain_number, seen_number, value_literals}
use Rattle.constant_folding.proofs.Monotone.{standard_monotone, monotone_along}
use Rattle.constant_folding.proofs.WholeNumbers.{whole_value, whole_normal, whole_real}
use Rattle.specialise_jani.specs.Literal.{whole_tree, jani_literal}

whole_seen : (real : Bool) (z : ℤ) (env : List ℕ → Seen) → is_wide (whole z) ≡ false → seen jani_meaning (whole_tree real z) env ≡ plain_number (whole z)
whole_seen real (pos n) env h = ap (λ q. known (Some (V.Number q))) (whole_value real false n) ∙ seen_number (whole (pos n)) h
whole_seen real (negsuc n) env h = ap (λ q. known (Some (V.Number q))) (whole_value real true (suc n)) ∙ seen_number (whole (negsuc n)) h

whole_typed : (real : Bool) (z : ℤ) (types : Types) → type_in jani_meaning types (whole_tree real z) ≡ Some (number_as real)
whole_typed real (pos n) types = ap (λ b. Some (if b then T.Real else T.Int)) (whole_real real false n)
whole_typed real (negsuc n) types = ap (λ b. Some (if b then T.Real else T.Int)) (whole_real real true (suc n))

-- ---- what holds of each literal
module _ (P : Expression → Type 0) (numeral : (real negative : Bool) (n : ℕ) → P (Number 0 (whole_literal real negative n))) where
  pub whole_holds : (real : Bool) (z : ℤ) → P (whole_tree real z)
  whole_holds real (pos n) = numeral real false n
  whole_holds real (negsuc n) = numeral real true (suc n)

pub jani_numerals : AreNumerals jani_meaning whole_tree
jani_numerals = record {
  seen_as = whole_seen;
  typed = whole_typed;
  nameless = whole_holds (AllNames (λ x. ⊥)) (λ r g n. tt);
  normal = whole_holds (AllNumbers (λ d. IsTrue (is_normal d))) (λ r g n. whole_normal r g n);
  placed = whole_holds (λ e. bare e ≡ e) (λ r g n. refl);
}

pub jani_divides : IsQuotient jani_meaning Div
jani_divides = record { divides = λ a b. refl; typed = refl }

pub jani_literals : AreLiterals jani_meaning jani_literal
jani_literals = value_literals jani_meaning whole_tree Div jani_numerals jani_divides

pub jani_monotone : IsMonotone jani_meaning
jani_monotone = monotone_along standard standard_meaning standard_monotone

-- by the sign of the number
pub low_tree : (real : Bool) (z : ℤ) → z <ℤ pos 0 → Number 0 (whole_literal real true (unsigned_abs z)) ≡ whole_tree real z
low_tree real (pos n) h = absurd (omega (arith, ints, h))
low_tree real (negsuc n) h = refl

pub high_tree : (real : Bool) (z : ℤ) → pos 0 ≤ℤ z → Number 0 (whole_literal real false (unsigned_abs z)) ≡ whole_tree real z
high_tree real (pos n) h = refl
high_tree real (negsuc n) h = absurd (omega (arith, ints, h))
