-- The value of a number.
use Rattle.std.proofs.Common.{◌≡◌, ◌^◌, ◌<◌, ◌≤◌, ℕ, true, false, List, refl, sym, ap, subst, ◌∙◌}
use Rattle.std.specs.Prelude.{nat_abs}
use Rattle.frac_core.specs.declared.decimal.Decimal.{Decimal}
use Rattle.frac_core.specs.Decimal.{is_normal}
use Rattle.frac_core.specs.Numeral.{reading_of, numeral_reading, worth}
use Rattle.frac_core.specs.declared.numeral.Reading.{Reading}
use Rattle.frac_core.proofs.Worth as literals
use Rattle.prism_lex.proofs.NumeralLemmas.{numeral_number, number_numeral}
use Rattle.prism_lex.specs.Numbers.{is_number, IsWorth}
use Rattle.prism_lex.specs.Laws.{NumberIsNormal, NumberIsWithin, NumberHasNoSign}

-- A text is worth one value at most.
pub worth_one : (w : List ℕ) (a b : Decimal) → IsWorth w a → IsWorth w b → a ≡ b
worth_one w a b p q = sym p.value ∙ q.value

-- Each number is worth a value.
pub worth_some : (w : List ℕ) → is_number w ≡ true → (d : Decimal) × IsWorth w d
worth_some w h = (worth w, record { number = h; value = refl })

pub worth_normal : NumberIsNormal
worth_normal w d h = let F : Decimal → Type 0 = λ x. is_normal x ≡ true in subst F h.value (literals.worth_normal w)

pub worth_within : NumberIsWithin
worth_within w d h p = let F : Decimal → Type 0 = λ x. (x.digits < 10 ^ 38) × (nat_abs x.exponent ≤ 400) in subst F h.value (literals.worth_within w p)

pub worth_unsigned : NumberHasNoSign
unfolding worth
worth_unsigned w d h =
    let n = number_numeral w h.number in
    let q : reading_of w ≡ numeral_reading false n.0 = ap reading_of n.2 ∙ (numeral_number n.0 n.1).1 in
    ap (λ (x : Decimal). x.negative) (sym h.value) ∙ literals.value_unsigned (reading_of w) (ap (λ (r : Reading). r.negative) q)
