-- Floor, ceiling and remainder, as in plain mathematics: the whole numbers next to a fraction, and what a division of
-- whole numbers leaves.
use Rattle.std.specs.Prelude.{◌≡◌, ◌↔◌, ℕ, ◌/◌, ◌%◌, ◌<◌, ℤ, pos, negsuc, ◌+ℤ◌, ◌-ℤ◌, ◌*ℤ◌, neg_ℤ, ◌≤ℤ◌, ◌<ℤ◌, int_lt, IsTrue, IsSomeAnd, Some, None, if◌then◌else◌}
use Rattle.std.specs.Int.{int_div_euclid, int_rem_euclid}
use Rattle.std.proofs.Common.{arith, refl, sym, ap, ap₂, subst, subst₂, ◌∙◌, eqb-true, eq-eqb, lt-ltb, le-ltb}
use Rattle.std.proofs.lemmas.Int.{ints}
use Rattle.std.proofs.Math.Nat.{div-add-mod, mod-lt}
use Rattle.frac_core.specs.Ints.{minus_same, as_minus, by_parts2, neg_ℤ-*ℤ}
use Rattle.frac_core.specs.Fraction.{Fraction, whole, nought, unit, plus, difference, times, is_whole, floor_of, ceil_of, remainder}
use Rattle.frac_core.specs.Laws.{den_pos, zero_times, plus-whole, difference-whole, times-whole, same_parts}
use Rattle.frac_core.specs.Order.{AtMost, Below, one_times, AtMost-whole, Below-whole}

-- the integers' division whose remainder is not negative
floor_low : (n : ℤ) (d : ℕ) → 0 < d → (int_div_euclid n (pos d) *ℤ pos d) ≤ℤ n
floor_low (pos n) d p = let e = div-add-mod n d in omega (arith, ints)
floor_low (negsuc n) d p =
    let e = div-add-mod n d in
    let less : n % d < d = mod-lt n p in
    omega (arith, ints)

floor_high : (n : ℤ) (d : ℕ) → 0 < d → n <ℤ ((int_div_euclid n (pos d) +ℤ pos 1) *ℤ pos d)
floor_high (pos n) d p =
    let e = div-add-mod n d in
    let less : n % d < d = mod-lt n p in
    omega (arith, ints)
floor_high (negsuc n) d p =
    let e = div-add-mod n d in
    let up : negsuc (n / d) +ℤ pos 1 ≡ neg_ℤ (pos (n / d)) = omega (arith, ints) in
    subst (λ z. negsuc n <ℤ z) (sym (ap (λ z. z *ℤ pos d) up ∙ neg_ℤ-*ℤ (pos (n / d)) (pos d))) (omega (arith, ints))

rebuilt : (n : ℤ) (d : ℕ) → 0 < d → int_div_euclid n (pos d) *ℤ pos d +ℤ int_rem_euclid n (pos d) ≡ n
rebuilt (pos n) d p = let e = div-add-mod n d in ap pos (omega arith)
rebuilt (negsuc n) d p =
    let e = div-add-mod n d in
    let less : n % d < d = mod-lt n p in
    omega (arith, ints)

remainder_low : (n : ℤ) (d : ℕ) → pos 0 ≤ℤ int_rem_euclid n (pos d)
remainder_low (pos n) d = omega (arith, ints)
remainder_low (negsuc n) d = omega (arith, ints)

remainder_high : (n : ℤ) (d : ℕ) → 0 < d → int_rem_euclid n (pos d) <ℤ pos d
remainder_high (pos n) d p = let less : n % d < d = mod-lt n p in omega (arith, ints)
remainder_high (negsuc n) d p = omega (arith, ints)

pub floor_AtMost : (x : Fraction) → AtMost (whole (floor_of x)) x
floor_AtMost x = record { across = subst (λ z. (floor_of x *ℤ pos x.den) ≤ℤ z) (sym (one_times x.num)) (floor_low x.num x.den (den_pos x)) }

pub Below_floor : (x : Fraction) → Below x (plus (whole (floor_of x)) unit)
Below_floor x =
    let next : Below x (whole (floor_of x +ℤ pos 1)) = record { across = subst (λ z. z <ℤ ((floor_of x +ℤ pos 1) *ℤ pos x.den)) (sym (one_times x.num)) (floor_high x.num x.den (den_pos x)) } in
    subst (Below x) (sym (plus-whole (floor_of x) (pos 1))) next

pub AtMost_ceil : (x : Fraction) → AtMost x (whole (ceil_of x))
AtMost_ceil x = record {
  across =
      let g = int_div_euclid (neg_ℤ x.num) (pos x.den) in
      let low : (g *ℤ pos x.den) ≤ℤ neg_ℤ x.num = floor_low (neg_ℤ x.num) x.den (den_pos x) in
      let turned = neg_ℤ-*ℤ g (pos x.den) in
      let same = one_times x.num in
      omega (arith, ints);
}

pub ceil_Below : (x : Fraction) → Below (difference (whole (ceil_of x)) unit) x
ceil_Below x =
    let g = int_div_euclid (neg_ℤ x.num) (pos x.den) in
    let high : neg_ℤ x.num <ℤ ((g +ℤ pos 1) *ℤ pos x.den) = floor_high (neg_ℤ x.num) x.den (den_pos x) in
    let turned : (ceil_of x -ℤ pos 1) *ℤ pos x.den ≡ neg_ℤ ((g +ℤ pos 1) *ℤ pos x.den) = by_parts2 (λ g k. (neg_ℤ g -ℤ k) *ℤ pos x.den ≡ neg_ℤ ((g +ℤ k) *ℤ pos x.den)) (λ a b c d. simp as_minus (minus_same _ _ _ _ (omega arith))) g (pos 1) in
    let same = one_times x.num in
    let less : Below (whole (ceil_of x -ℤ pos 1)) x = record { across = omega (arith, ints) } in
    subst (λ y. Below y x) (sym (difference-whole (ceil_of x) (pos 1))) less

-- a fraction with denominator 1 is its numerator
pub whole_from_den : (x : Fraction) → IsTrue (is_whole x) → x ≡ whole x.num
whole_from_den x h = same_parts x (whole x.num) refl (eqb-true x.den 1 h)

-- sums, differences and products of whole numbers are whole
pub is_whole-plus : (x y : Fraction) → IsTrue (is_whole x) → IsTrue (is_whole y) → IsTrue (is_whole (plus x y))
is_whole-plus x y h k =
    let e : plus x y ≡ whole (x.num +ℤ y.num) = ap₂ plus (whole_from_den x h) (whole_from_den y k) ∙ plus-whole x.num y.num in
    eq-eqb _ 1 (ap (λ (z : Fraction). z.den) e)

pub is_whole-difference : (x y : Fraction) → IsTrue (is_whole x) → IsTrue (is_whole y) → IsTrue (is_whole (difference x y))
is_whole-difference x y h k =
    let e : difference x y ≡ whole (x.num -ℤ y.num) = ap₂ difference (whole_from_den x h) (whole_from_den y k) ∙ difference-whole x.num y.num in
    eq-eqb _ 1 (ap (λ (z : Fraction). z.den) e)

pub is_whole-times : (x y : Fraction) → IsTrue (is_whole x) → IsTrue (is_whole y) → IsTrue (is_whole (times x y))
is_whole-times x y h k =
    let e : times x y ≡ whole (x.num *ℤ y.num) = ap₂ times (whole_from_den x h) (whole_from_den y k) ∙ times-whole x.num y.num in
    eq-eqb _ 1 (ap (λ (z : Fraction). z.den) e)

floor_one : (n : ℤ) → int_div_euclid n (pos 1) ≡ n
floor_one (pos n) = ap pos (omega arith)
floor_one (negsuc n) = ap negsuc (omega arith)

-- the whole numbers are the fractions that are their own floor
pub whole_floor : (x : Fraction) → IsTrue (is_whole x) ↔ (x ≡ whole (floor_of x))
whole_floor x = (
  λ h. whole_from_den x h ∙ ap whole (sym (ap (λ d. int_div_euclid x.num (pos d)) (eqb-true x.den 1 h) ∙ floor_one x.num)),
  λ e. eq-eqb x.den 1 (ap (λ (y : Fraction). y.den) e),
)

-- r is what is left of x after y is taken a whole number of times
pub record IsRemainder (x y r : Fraction) : Type 0 where
  pub not_negative : AtMost nought r
  pub less : Below r y
  pub times_taken : ℤ
  pub adds_up : plus (times (whole times_taken) y) r ≡ x

remainder_whole : (n : ℤ) (d : ℕ) → 0 < d → IsRemainder (whole n) (whole (pos d)) (whole (int_rem_euclid n (pos d)))
remainder_whole n d p = record {
  not_negative = AtMost-whole (pos 0) (int_rem_euclid n (pos d)) (remainder_low n d);
  less = Below-whole (int_rem_euclid n (pos d)) (pos d) (remainder_high n d p);
  times_taken = int_div_euclid n (pos d);
  adds_up =
      ap (λ t. plus t (whole (int_rem_euclid n (pos d)))) (times-whole (int_div_euclid n (pos d)) (pos d))
      ∙ plus-whole (int_div_euclid n (pos d) *ℤ pos d) (int_rem_euclid n (pos d))
      ∙ ap whole (rebuilt n d p);
}

some_remainder : (n m : ℤ) → pos 0 <ℤ m → IsSomeAnd (remainder (whole n) (whole m)) (IsRemainder (whole n) (whole m))
some_remainder n (pos d) h =
    let p : 0 < d = omega (arith, ints) in
    subst (λ b. IsSomeAnd (if b then Some (whole (int_rem_euclid n (pos d))) else None) (IsRemainder (whole n) (whole (pos d)))) (sym (lt-ltb 0 d p)) (remainder_whole n d p)
some_remainder n (negsuc d) h = absurd (omega (arith, ints))

no_remainder : (r : Fraction) (m : ℤ) → m ≤ℤ pos 0 → (if int_lt (pos 0) m then Some r else None) ≡ None
no_remainder r (pos d) h = ap (λ b. if b then Some r else None) (le-ltb 0 d (omega (arith, ints)))
no_remainder r (negsuc d) h = refl

-- whole numbers have a remainder where the divisor is positive, and none elsewhere
pub remainder_some : (x y : Fraction) → IsTrue (is_whole x) → IsTrue (is_whole y) → Below nought y → IsSomeAnd (remainder x y) (IsRemainder x y)
remainder_some x y h k p =
    subst₂ (λ a b. IsSomeAnd (remainder a b) (IsRemainder a b)) (sym (whole_from_den x h)) (sym (whole_from_den y k))
    (some_remainder x.num y.num (subst₂ (λ a b. a <ℤ b) (zero_times y.den) (one_times y.num) p.across))

pub remainder_none : (x y : Fraction) → AtMost y nought → remainder x y ≡ None
remainder_none x y p = no_remainder (whole (int_rem_euclid x.num y.num)) y.num (subst₂ (λ a b. a ≤ℤ b) (one_times y.num) (zero_times y.den) p.across)
