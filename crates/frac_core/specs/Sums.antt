-- Sums and products of lists of fractions.
use Rattle.std.specs.Prelude.{◌≡◌, List, [], ◌∷◌, ◌++◌, map}
use Rattle.std.proofs.Common.{sym, ap, ◌∙◌}
use Rattle.frac_core.specs.Fraction.{Fraction, nought, unit, plus, times}
use Rattle.frac_core.specs.Laws.{nought_plus, plus_assoc, unit_times, times_assoc, times_nought, times-plus}

abbrev pub total : List Fraction → Fraction
total [] = nought
total (x ∷ xs) = plus x (total xs)

abbrev pub product : List Fraction → Fraction
product [] = unit
product (x ∷ xs) = times x (product xs)

pub total-append : (xs ys : List Fraction) → total (xs ++ ys) ≡ plus (total xs) (total ys)
total-append [] ys = sym (nought_plus (total ys))
total-append (x ∷ xs) ys = ap (plus x) (total-append xs ys) ∙ sym (plus_assoc x (total xs) (total ys))

pub product-append : (xs ys : List Fraction) → product (xs ++ ys) ≡ times (product xs) (product ys)
product-append [] ys = sym (unit_times (product ys))
product-append (x ∷ xs) ys = ap (times x) (product-append xs ys) ∙ sym (times_assoc x (product xs) (product ys))

-- a common factor comes out of a sum
pub total-times : (x : Fraction) (ys : List Fraction) → total (map (times x) ys) ≡ times x (total ys)
total-times x [] = sym (times_nought x)
total-times x (y ∷ ys) = ap (plus (times x y)) (total-times x ys) ∙ sym (times-plus x y (total ys))
