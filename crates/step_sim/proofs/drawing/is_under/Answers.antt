use Rattle.std.proofs.Common.{◌≡◌, ℕ, ◌<◌, ◌^◌, ℤ, pos, ◌*ℤ◌, false, nat_lt, ltb-true, sym, ap, ap₂, subst, ◌∙◌, arith}
use Rattle.std.specs.Prelude.{FitsSigned, int_lt, nat_abs}
use Rattle.std.proofs.lemmas.Int.{fits_signed_mul, to_z-of_z}
use mir.Syntax.{w64, w128}
use mir.Val.{SFits, to_z, of_z}
use Rattle.basics.specs.Booleans.{both_true}
use Rattle.frac_core.specs.Fraction.{Fraction, is_wide}
use Rattle.step_sim.proofs.drawing.is_under.Goals as goal

-- the parts of a fraction that isn't wide, times numbers of 64 bits, fit into 128
small_parts : (r : Fraction) → is_wide r ≡ false → (nat_abs r.num < 2 ^ 62) × (r.den < 2 ^ 62)
small_parts r e =
    let h = both_true (nat_lt (nat_abs r.num) (2 ^ 62)) (nat_lt r.den (2 ^ 62)) e in
    (ltb-true (nat_abs r.num) (2 ^ 62) h.0, ltb-true r.den (2 ^ 62) h.1)

with_word : (x y : ℤ) (w : ℕ) (r : Fraction) → x ≡ pos w → y ≡ pos r.den → w < 2 ^ 64 → is_wide r ≡ false → FitsSigned w128 (x *ℤ y)
with_word x y w r e f h s =
    subst (FitsSigned w128) (sym (ap₂ ◌*ℤ◌ e f)) (fits_signed_mul w128 (pos w) (pos r.den) (2 ^ 64) (2 ^ 62) (omega arith) (omega (arith, (small_parts r s).1)) (omega arith))

shifted : (x : ℤ) (r : Fraction) → x ≡ r.num → is_wide r ≡ false → FitsSigned w128 (x *ℤ pos (2 ^ 64))
shifted x r e s =
    subst (λ y. FitsSigned w128 (y *ℤ pos (2 ^ 64))) (sym e) (fits_signed_mul w128 r.num (pos (2 ^ 64)) (2 ^ 62) (2 ^ 64) (omega (arith, (small_parts r s).0)) (omega arith) (omega arith))

-- a number that was made wider
widened : (x y : ℤ) → SFits w64 y → SFits w128 x → x ≡ to_z w64 (of_z w64 y) → to_z w128 (of_z w128 x) ≡ y
widened x y s f e = to_z-of_z w128 x f ∙ e ∙ to_z-of_z w64 y s

pub overflow_mul-result : goal.overflow_mul-result
overflow_mul-result c =
    let w = to_z-of_z w128 c.from.result (record { sfits = c.from.type_inv }) ∙ c.from.ensures in
    let d = widened c.from-2.result c.den.result (record { sfits = c.den.type_inv }) (record { sfits = c.from-2.type_inv }) c.from-2.ensures ∙ c.den.ensures.value in
    with_word _ _ c.args.word c.args.bound w d c.ranges.word.fits c.den.ensures.small

pub overflow_mul-result-2 : goal.overflow_mul-result-2
overflow_mul-result-2 c =
    let n = widened c.from-3.result c.num.result (record { sfits = c.num.type_inv }) (record { sfits = c.from-3.type_inv }) c.from-3.ensures ∙ c.num.ensures.value in
    shifted _ c.args.bound n c.num.ensures.small

pub returns : goal.returns
returns c =
    let w = to_z-of_z w128 c.from.result (record { sfits = c.from.type_inv }) ∙ c.from.ensures in
    let d = widened c.from-2.result c.den.result (record { sfits = c.den.type_inv }) (record { sfits = c.from-2.type_inv }) c.from-2.ensures ∙ c.den.ensures.value in
    let n = widened c.from-3.result c.num.result (record { sfits = c.num.type_inv }) (record { sfits = c.from-3.type_inv }) c.from-3.ensures ∙ c.num.ensures.value in
    ap₂ int_lt
    (to_z-of_z w128 _ (with_word _ _ c.args.word c.args.bound w d c.ranges.word.fits c.den.ensures.small) ∙ ap₂ ◌*ℤ◌ w d)
    (to_z-of_z w128 _ (shifted _ c.args.bound n c.num.ensures.small) ∙ ap (λ z. z *ℤ pos (2 ^ 64)) n)
