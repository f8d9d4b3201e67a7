use Rattle.std.proofs.Common.{arith}
use Rattle.std.specs.Prelude.{◌≤◌, ◌<◌, ◌^◌, ◌≢◌, ℕ, ℤ, FitsSigned, nat_abs}
use Rattle.std.specs.Int.{w32}
use Rattle.std.proofs.lemmas.Int.{ints, to_z-of_z}
use Rattle.std.specs.Prelude.{Bool, not, true, false, ◌≡◌}
use Rattle.std.proofs.Common.{ap, ◌∙◌}
use Rattle.frac_core.proofs.Readings.{held}
use Rattle.frac_core.proofs.Worth.{long_value, zero_value, int_value, real_value, far_value}
use Rattle.frac_core.proofs.numeral.NumeralRead.decimal.Goals as goal

same : (n : ℕ) → 10 ^ 38 ≤ n → n ≤ 10 ^ 38 → n ≡ 10 ^ 38
same n l h = omega arith

short : (n : ℕ) → n < 10 ^ 38 → n ≢ 10 ^ 38
short n l e = omega (arith, l, e)

pub returns-then-read-ge-TOO_MANY : goal.returns-then-read-ge-TOO_MANY
returns-then-read-ge-TOO_MANY c text h = long_value text _ h.reading (same _ c.if-read-ge-TOO_MANY.true (held text _ h.reading).digits)

pub returns-then-read-gt-TOO_MANY : goal.returns-then-read-gt-TOO_MANY
returns-then-read-gt-TOO_MANY c text h = let p = (held text _ h.reading).power in let q = c.if-read-gt-TOO_MANY.true in absurd (omega (arith, p, q))

pub returns-then-read-eq0 : goal.returns-then-read-eq0
returns-then-read-eq0 c text h = zero_value text _ h.reading (short _ c.if-read-ge-TOO_MANY.false) c.if-read-eq0.true

unless : (b c : Bool) → not b ≡ c → b ≡ not c
unless true c e = ap not e
unless false c e = ap not e

pub returns-then-not-read : goal.returns-then-not-read
returns-then-not-read c text h = int_value text _ h.reading (short _ c.if-read-ge-TOO_MANY.false) c.if-read-eq0.false (unless _ true c.if-not-read.true)

pub returns-in_err-exponent : goal.returns-in_err-exponent
returns-in_err-exponent c text h =
    let s = c.stripped-digits.ensures in
    c.from_residual.ensures ∙ far_value text _ h.reading _ _ (short _ c.if-read-ge-TOO_MANY.false) (unless _ false c.if-not-read.false) s.product s.last s.few (omega arith) c.in_err-exponent.ensures.none

pub returns : goal.returns
returns c text h =
    let s = c.stripped-digits.ensures in
    let e = c.in_ok-exponent.ensures.some in
    let fits : FitsSigned w32 c.in_ok-exponent.exponent = near _ e.1 in
    rw (to_z-of_z w32 c.in_ok-exponent.exponent fits) (real_value text _ h.reading _ _ (short _ c.if-read-ge-TOO_MANY.false) (unless _ false c.if-not-read.false) s.product s.last s.few (omega arith) _ e.0 e.1)
  where
    near : (z : ℤ) → nat_abs z ≤ 400 → FitsSigned w32 z
    near z h = omega (arith, ints)
