-- What a text without a minus is worth isn't negative.
use Rattle.std.proofs.Common.{◌≡◌, ℕ, zero, suc, ◌*◌, ◌^◌, ℤ, pos, negsuc, List, ◌++◌, false, true, codes, refl, sym, subst, arith}
use Rattle.std.proofs.lemmas.Int.{ints}
use Rattle.frac_core.specs.Fraction.{Fraction, nought, whole, fraction, times, signed}
use Rattle.frac_core.specs.Laws.{StandsFor_self, StandsFor-fraction}
use Rattle.frac_core.specs.Order.{AtMost, AtMost_refl, AtMost-ratio, AtMost-whole}
use Rattle.frac_core.specs.Decimal.{decimal_value, ten_to, times-ten_to, times-ten_to_minus}
use Rattle.frac_core.specs.declared.decimal.Decimal.{Decimal}
use Rattle.frac_core.specs.Numeral.{worth}
use Rattle.std.specs.Str.Parse.{digits_value}
use Rattle.op_trees.specs.declared.tree.Value.TheVariants.{Number}
use Rattle.process_texts.specs.Given.{IsValue, truth, literal, ratio}
use Rattle.row_check.specs.Texts.{IsProbability}

fraction_not_negative : (n d : ℕ) → AtMost nought (fraction (pos n) d)
unfolding fraction
fraction_not_negative n zero = AtMost_refl nought
fraction_not_negative n (suc d) =
    AtMost-ratio nought (fraction (pos n) (suc d)) (pos 0) (pos n) 1 (suc d) (StandsFor_self nought) (StandsFor-fraction (pos n) (suc d) (omega arith)) (omega (arith, ints))

digits_not_negative : (n : ℕ) (e : ℤ) → AtMost nought (times (whole (pos n)) (ten_to e))
digits_not_negative n (pos k) = subst (AtMost nought) (sym (times-ten_to (pos n) k)) (AtMost-whole (pos 0) (pos (n * 10 ^ k)) (omega (arith, ints)))
digits_not_negative n (negsuc k) = subst (AtMost nought) (sym (times-ten_to_minus (pos n) k)) (fraction_not_negative n (10 ^ suc k))

decimal_not_negative : (d : Decimal) → d.negative ≡ false → AtMost nought (decimal_value d)
unfolding decimal_value
decimal_not_negative d h = subst (λ b. AtMost nought (times (whole (signed b d.digits)) (ten_to d.exponent))) (sym h) (digits_not_negative d.digits d.exponent)

pub probability_not_negative : (text : List ℕ) (w : Fraction) → IsProbability text w → AtMost nought w
probability_not_negative text w h = by_value h.spells
  where
    by_value : IsValue text (Number w) false → AtMost nought w
    by_value (truth b e v p) = cc
    by_value (literal true u e l) = absurd (h.bare u e)
    by_value (literal false u e l) = let f : w ≡ decimal_value (record (worth u) { negative = false }) = (let v = l.value in cc) in subst (AtMost nought) (sym f) (decimal_not_negative (record (worth u) { negative = false }) refl)
    by_value (ratio true n m e r) = absurd (h.bare (n ++ (codes "/" ++ m)) e)
    by_value (ratio false n m e r) = let f : w ≡ fraction (pos (digits_value 10 n)) (digits_value 10 m) = (let v = r.value in cc) in subst (AtMost nought) (sym f) (fraction_not_negative (digits_value 10 n) (digits_value 10 m))
