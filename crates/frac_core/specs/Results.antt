-- What the calls answer where they cannot give a fraction of any size.
use Rattle.std.specs.Prelude.{◌≡◌, Bool, true, false, ◌<◌, ◌^◌, nat_abs, not, ◌&&◌, nat_lt, Result, Ok, Err, if◌then◌else◌}
use Rattle.std.proofs.Common.{refl, ap, ap₂, sym, ◌∙◌, lt-ltb, le-ltb, ◌≤◌}
use Rattle.frac_core.specs.Fraction.{Fraction, is_wide}
use Rattle.frac_core.specs.declared.fraction.FracFail.{FracFail}
use Rattle.frac_core.specs.declared.fraction.FracFail.TheVariants.{Wide}

-- the fraction, or Wide where it passes the bound
abbrev pub narrow : Fraction → Result Fraction FracFail
narrow x = if is_wide x then Err Wide else Ok x

pub narrow_small : (x : Fraction) → nat_abs x.num < 2 ^ 62 → x.den < 2 ^ 62 → narrow x ≡ Ok x
narrow_small x p q = ap₂ (λ a b. if not (a && b) then Err Wide else Ok x) (lt-ltb _ _ p) (lt-ltb _ _ q)

both_but_one_false : (a b : Bool) → b ≡ false → not (a && b) ≡ true
both_but_one_false true b h = ap not h
both_but_one_false false b h = refl

pub narrow_wide_den : (x : Fraction) → 2 ^ 62 ≤ x.den → narrow x ≡ Err Wide
narrow_wide_den x p = ap (λ a. if a then Err Wide else Ok x) (both_but_one_false (nat_lt (nat_abs x.num) (2 ^ 62)) _ (le-ltb _ _ p))

pub narrow_wide_num : (x : Fraction) → 2 ^ 62 ≤ nat_abs x.num → narrow x ≡ Err Wide
narrow_wide_num x p = ap (λ a. if not (a && nat_lt x.den (2 ^ 62)) then Err Wide else Ok x) (le-ltb _ _ p)

-- an answer that is given is the fraction, and is not wide
pub from_narrow : (x r : Fraction) → narrow x ≡ Ok r → (r ≡ x) × (is_wide r ≡ false)
from_narrow x r h = by_test (is_wide x) refl h
  where
    by_test : (b : Bool) → b ≡ is_wide x → ◌≡◌ {A = Result Fraction FracFail} (if b then Err Wide else Ok x) (Ok r) → (r ≡ x) × (is_wide r ≡ false)
    by_test true w e = absurd cc
    by_test false w e = let same : r ≡ x = cc in (same, ap is_wide same ∙ sym w)

-- none is given where it is wide
pub wide_where : (x : Fraction) (f : FracFail) → narrow x ≡ Err f → is_wide x ≡ true
wide_where x f h = by_test (is_wide x) refl h
  where
    by_test : (b : Bool) → b ≡ is_wide x → ◌≡◌ {A = Result Fraction FracFail} (if b then Err Wide else Ok x) (Err f) → is_wide x ≡ true
    by_test true e k = sym e
    by_test false e k = absurd cc
