-- Laws of the sum and the product of fractions, and when two of them are equal.
use Rattle.std.proofs.Common.{◌≡◌, ℕ, zero, suc, ◌*◌, ◌/◌, ◌<◌, ℤ, pos, negsuc, ◌+ℤ◌, ◌-ℤ◌, ◌*ℤ◌, neg_ℤ, nat_abs, IsTrue, arith, refl, sym, ap, ap₂, subst, ◌∙◌, ltb-true, eqb-true, mul-pos, nat_lt, ◌≢◌, ◌↔◌, pos_of_ne-zero, int_eq}
use Rattle.std.proofs.lemmas.Int.{unsigned_abs-mul}
use Rattle.std.proofs.Math.Nat.{mul-div_cancel', div-mul_cancel}
use Rattle.frac_core.specs.Gcd.{gcd, gcd_lem, gcd_comm, same_from_cross}
use Rattle.frac_core.specs.Ints.{minus_same, as_minus, by_parts, by_parts2, by_parts3, swap4, neg_ℤ-*ℤ, *ℤ-neg_ℤ, *ℤ_cancel, *ℤ_assoc}
use Rattle.frac_core.specs.Fraction.{Fraction, fraction, is_lowest, IsKept, shrunk, whole, quotient, plus, negated, difference, times, over, nought, unit, same_number}
use mathlib.Core.Bool.{Bool-set}
use Rattle.std.specs.Cmp.{IsEquivalence}
use Rattle.std.proofs.lemmas.Bool.Decides.{Decides-int_eq}
use Rattle.std.proofs.lemmas.Cmp.{and_equiv, on_equiv, int_eq_equiv, nat_eq_equiv}
use Rattle.basics.specs.Booleans.{first_true, second_true}

pub den_pos : (x : Fraction) → 0 < x.den
den_pos x = ltb-true 0 x.den (first_true _ _ x.lowest)

pub parts_apart : (x : Fraction) → gcd (nat_abs x.num) x.den ≡ 1
parts_apart x = eqb-true _ 1 (second_true (nat_lt 0 x.den) _ x.lowest)

-- x is n / d
pub record StandsFor (x : Fraction) (n : ℤ) (d : ℕ) : Type 0 where
  pub positive : 0 < d
  pub across : x.num *ℤ pos d ≡ n *ℤ pos x.den

shrunk_back : (n : ℤ) (g : ℕ) → nat_abs n / g * g ≡ nat_abs n → shrunk n g *ℤ pos g ≡ n
shrunk_back (pos n) g e = ap pos e
shrunk_back (negsuc n) g e = neg_ℤ-*ℤ (pos (suc n / g)) (pos g) ∙ ap (λ k. neg_ℤ (pos k)) e

pub StandsFor-fraction : (n : ℤ) (d : ℕ) → 0 < d → StandsFor (fraction n d) n d
unfolding fraction
StandsFor-fraction n zero p = absurd (omega arith)
StandsFor-fraction n (suc d) p =
    let g = gcd (nat_abs n) (suc d) in
    let back : shrunk n g *ℤ pos g ≡ n = shrunk_back n g (div-mul_cancel g (gcd_lem (nat_abs n) (suc d)).0) in
    let whole : g * (suc d / g) ≡ suc d = mul-div_cancel' g (gcd_lem (nat_abs n) (suc d)).1 in
    record {
      positive = p;
      across = ap (λ k. shrunk n g *ℤ pos k) (sym whole) ∙ sym (*ℤ_assoc (shrunk n g) (pos g) (pos (suc d / g))) ∙ ap (λ z. z *ℤ pos (suc d / g)) back;
    }

pub StandsFor_self : (x : Fraction) → StandsFor x x.num x.den
StandsFor_self x = record { positive = den_pos x; across = refl }

same_fields : (n m : ℤ) (d e : ℕ) (p : IsTrue (is_lowest n d)) (q : IsTrue (is_lowest m e)) → n ≡ m → d ≡ e → ◌≡◌ {A = Fraction} (record { num = n; den = d; lowest = p }) (record { num = m; den = e; lowest = q })
same_fields n m d e p q h k =
    let P : (m : ℤ) → Type 0 = λ m. (e : ℕ) (q : IsTrue (is_lowest m e)) → d ≡ e → ◌≡◌ {A = Fraction} (record { num = n; den = d; lowest = p }) (record { num = m; den = e; lowest = q }) in
    let Q : (e : ℕ) → Type 0 = λ e. (q : IsTrue (is_lowest n e)) → ◌≡◌ {A = Fraction} (record { num = n; den = d; lowest = p }) (record { num = n; den = e; lowest = q }) in
    subst P h (λ e q k. subst Q k (λ q. ap (λ (l : IsTrue (is_lowest n d)). let r : Fraction = record { num = n; den = d; lowest = l } in r) (Bool-set _ _ p q)) q) e q k

-- fractions with equal products across are equal
pub same_fraction : (x y : Fraction) → x.num *ℤ pos y.den ≡ y.num *ℤ pos x.den → x ≡ y
same_fraction x y e =
    let sizes : nat_abs x.num * y.den ≡ nat_abs y.num * x.den =
    sym (unsigned_abs-mul x.num (pos y.den)) ∙ ap nat_abs e ∙ unsigned_abs-mul y.num (pos x.den) in
    let dens : x.den ≡ y.den =
    same_from_cross x.den (nat_abs x.num) y.den (nat_abs y.num)
    (gcd_comm x.den (nat_abs x.num) ∙ parts_apart x) (gcd_comm y.den (nat_abs y.num) ∙ parts_apart y) (omega arith) in
    let nums : x.num ≡ y.num =
    *ℤ_cancel y.den (den_pos y) x.num y.num (e ∙ ap (λ k. y.num *ℤ pos k) dens) in
    same_fields _ _ _ _ x.lowest y.lowest nums dens

-- x is also any fraction with equal products across
restate : (x : Fraction) (n m : ℤ) (d e : ℕ) → StandsFor x n d → 0 < e → n *ℤ pos e ≡ m *ℤ pos d → StandsFor x m e
restate x n m d e s p h = record {
  positive = p;
  across =
      *ℤ_cancel d s.positive (x.num *ℤ pos e) (m *ℤ pos x.den)
      (by_parts3 (λ a b c. (a *ℤ pos e) *ℤ pos d ≡ (a *ℤ pos d) *ℤ pos e) (λ a b c d e f. simp as_minus (minus_same _ _ _ _ (omega arith))) x.num n m
      ∙ ap (λ z. z *ℤ pos e) s.across
      ∙ by_parts (λ a. (a *ℤ pos x.den) *ℤ pos e ≡ (a *ℤ pos e) *ℤ pos x.den) (λ a b. simp as_minus (minus_same _ _ _ _ (omega arith))) n
      ∙ ap (λ z. z *ℤ pos x.den) h
      ∙ by_parts (λ a. (a *ℤ pos d) *ℤ pos x.den ≡ (a *ℤ pos x.den) *ℤ pos d) (λ a b. simp as_minus (minus_same _ _ _ _ (omega arith))) m);
}

-- two fractions that are equal ratios are equal
pub same_ratio : (x y : Fraction) (n m : ℤ) (d e : ℕ) → StandsFor x n d → StandsFor y m e → n *ℤ pos e ≡ m *ℤ pos d → x ≡ y
same_ratio x y n m d e s t h =
    let u : StandsFor x y.num y.den =
    restate x m y.num e y.den (restate x n m d e s t.positive h) (den_pos y) (sym t.across) in
    same_fraction x y u.across

pub StandsFor-plus : (x y : Fraction) (n m : ℤ) (d e : ℕ) → StandsFor x n d → StandsFor y m e → StandsFor (plus x y) (n *ℤ pos e +ℤ m *ℤ pos d) (d * e)
unfolding plus
StandsFor-plus x y n m d e s t =
    let u = StandsFor-fraction (x.num *ℤ pos y.den +ℤ y.num *ℤ pos x.den) (x.den * y.den) (mul-pos (den_pos x) (den_pos y)) in
    restate _ _ _ _ _ u (mul-pos s.positive t.positive)
    (by_parts2 (λ a b. (a *ℤ pos y.den +ℤ b *ℤ pos x.den) *ℤ pos (d * e) ≡ (a *ℤ pos d) *ℤ pos (y.den * e) +ℤ (b *ℤ pos e) *ℤ pos (x.den * d)) (λ a b f g. simp as_minus (minus_same _ _ _ _ (omega arith))) x.num y.num
    ∙ ap₂ (λ a b. a *ℤ pos (y.den * e) +ℤ b *ℤ pos (x.den * d)) s.across t.across
    ∙ by_parts2 (λ a b. (a *ℤ pos x.den) *ℤ pos (y.den * e) +ℤ (b *ℤ pos y.den) *ℤ pos (x.den * d) ≡ (a *ℤ pos e +ℤ b *ℤ pos d) *ℤ pos (x.den * y.den)) (λ a b f g. simp as_minus (minus_same _ _ _ _ (omega arith))) n m)

pub StandsFor-times : (x y : Fraction) (n m : ℤ) (d e : ℕ) → StandsFor x n d → StandsFor y m e → StandsFor (times x y) (n *ℤ m) (d * e)
unfolding times
StandsFor-times x y n m d e s t =
    let u = StandsFor-fraction (x.num *ℤ y.num) (x.den * y.den) (mul-pos (den_pos x) (den_pos y)) in
    restate _ _ _ _ _ u (mul-pos s.positive t.positive)
    (swap4 x.num y.num (pos d) (pos e) ∙ ap₂ (λ a b. a *ℤ b) s.across t.across ∙ swap4 n (pos x.den) m (pos y.den))

pub plus_comm : (x y : Fraction) → plus x y ≡ plus y x
plus_comm x y =
    same_ratio _ _ _ _ _ _ (StandsFor-plus x y _ _ _ _ (StandsFor_self x) (StandsFor_self y)) (StandsFor-plus y x _ _ _ _ (StandsFor_self y) (StandsFor_self x))
    (by_parts2 (λ a b. (a *ℤ pos y.den +ℤ b *ℤ pos x.den) *ℤ pos (y.den * x.den) ≡ (b *ℤ pos x.den +ℤ a *ℤ pos y.den) *ℤ pos (x.den * y.den)) (λ a b c d. simp as_minus (minus_same _ _ _ _ (omega arith))) x.num y.num)

pub plus_assoc : (x y z : Fraction) → plus (plus x y) z ≡ plus x (plus y z)
plus_assoc x y z =
    let a = StandsFor_self x in
    let b = StandsFor_self y in
    let c = StandsFor_self z in
    same_ratio _ _ _ _ _ _
    (StandsFor-plus (plus x y) z _ _ _ _ (StandsFor-plus x y _ _ _ _ a b) c)
    (StandsFor-plus x (plus y z) _ _ _ _ a (StandsFor-plus y z _ _ _ _ b c))
    (by_parts3 (λ p q r. ((p *ℤ pos y.den +ℤ q *ℤ pos x.den) *ℤ pos z.den +ℤ r *ℤ pos (x.den * y.den)) *ℤ pos (x.den * (y.den * z.den)) ≡ (p *ℤ pos (y.den * z.den) +ℤ (q *ℤ pos z.den +ℤ r *ℤ pos y.den) *ℤ pos x.den) *ℤ pos (x.den * y.den * z.den)) (λ a b c d e f. simp as_minus (minus_same _ _ _ _ (omega arith))) x.num y.num z.num)

pub plus_nought : (x : Fraction) → plus x nought ≡ x
plus_nought x =
    same_ratio _ _ _ _ _ _ (StandsFor-plus x nought _ _ _ _ (StandsFor_self x) (StandsFor_self nought)) (StandsFor_self x)
    (by_parts (λ a. (a *ℤ pos 1 +ℤ pos 0 *ℤ pos x.den) *ℤ pos x.den ≡ a *ℤ pos (x.den * 1)) (λ a b. simp as_minus (minus_same _ _ _ _ (omega arith))) x.num)

pub times_comm : (x y : Fraction) → times x y ≡ times y x
times_comm x y =
    same_ratio _ _ _ _ _ _ (StandsFor-times x y _ _ _ _ (StandsFor_self x) (StandsFor_self y)) (StandsFor-times y x _ _ _ _ (StandsFor_self y) (StandsFor_self x))
    (by_parts2 (λ a b. (a *ℤ b) *ℤ pos (y.den * x.den) ≡ (b *ℤ a) *ℤ pos (x.den * y.den)) (λ a b c d. simp as_minus (minus_same _ _ _ _ (omega arith))) x.num y.num)

pub times_assoc : (x y z : Fraction) → times (times x y) z ≡ times x (times y z)
times_assoc x y z =
    let a = StandsFor_self x in
    let b = StandsFor_self y in
    let c = StandsFor_self z in
    same_ratio _ _ _ _ _ _
    (StandsFor-times (times x y) z _ _ _ _ (StandsFor-times x y _ _ _ _ a b) c)
    (StandsFor-times x (times y z) _ _ _ _ a (StandsFor-times y z _ _ _ _ b c))
    (by_parts3 (λ p q r. ((p *ℤ q) *ℤ r) *ℤ pos (x.den * (y.den * z.den)) ≡ (p *ℤ (q *ℤ r)) *ℤ pos (x.den * y.den * z.den)) (λ a b c d e f. simp as_minus (minus_same _ _ _ _ (omega arith))) x.num y.num z.num)

pub times_unit : (x : Fraction) → times x unit ≡ x
times_unit x =
    same_ratio _ _ _ _ _ _ (StandsFor-times x unit _ _ _ _ (StandsFor_self x) (StandsFor_self unit)) (StandsFor_self x)
    (by_parts (λ a. (a *ℤ pos 1) *ℤ pos x.den ≡ a *ℤ pos (x.den * 1)) (λ a b. simp as_minus (minus_same _ _ _ _ (omega arith))) x.num)

pub times_nought : (x : Fraction) → times x nought ≡ nought
times_nought x =
    same_ratio _ _ _ _ _ _ (StandsFor-times x nought _ _ _ _ (StandsFor_self x) (StandsFor_self nought)) (StandsFor_self nought)
    (by_parts (λ a. (a *ℤ pos 0) *ℤ pos 1 ≡ pos 0 *ℤ pos (x.den * 1)) (λ a b. simp as_minus (minus_same _ _ _ _ (omega arith))) x.num)

pub times-plus : (x y z : Fraction) → times x (plus y z) ≡ plus (times x y) (times x z)
times-plus x y z =
    let a = StandsFor_self x in
    let b = StandsFor_self y in
    let c = StandsFor_self z in
    same_ratio _ _ _ _ _ _
    (StandsFor-times x (plus y z) _ _ _ _ a (StandsFor-plus y z _ _ _ _ b c))
    (StandsFor-plus (times x y) (times x z) _ _ _ _ (StandsFor-times x y _ _ _ _ a b) (StandsFor-times x z _ _ _ _ a c))
    (by_parts3 (λ p q r. (p *ℤ (q *ℤ pos z.den +ℤ r *ℤ pos y.den)) *ℤ pos (x.den * y.den * (x.den * z.den)) ≡ ((p *ℤ q) *ℤ pos (x.den * z.den) +ℤ (p *ℤ r) *ℤ pos (x.den * y.den)) *ℤ pos (x.den * (y.den * z.den))) (λ a b c d e f. simp as_minus (minus_same _ _ _ _ (omega arith))) x.num y.num z.num)

pub nought_plus : (x : Fraction) → plus nought x ≡ x
nought_plus x = plus_comm nought x ∙ plus_nought x

pub unit_times : (x : Fraction) → times unit x ≡ x
unit_times x = times_comm unit x ∙ times_unit x

pub plus_negated : (x : Fraction) → plus x (negated x) ≡ nought
unfolding negated
plus_negated x =
    same_ratio _ _ _ _ _ _ (StandsFor-plus x (negated x) _ _ _ _ (StandsFor_self x) (StandsFor-fraction (neg_ℤ x.num) x.den (den_pos x))) (StandsFor_self nought)
    (by_parts (λ a. (a *ℤ pos x.den +ℤ neg_ℤ a *ℤ pos x.den) *ℤ pos 1 ≡ pos 0 *ℤ pos (x.den * x.den)) (λ a b. simp as_minus (minus_same _ _ _ _ (omega arith))) x.num)

pub StandsFor-difference : (x y : Fraction) → StandsFor (difference x y) (x.num *ℤ pos y.den -ℤ y.num *ℤ pos x.den) (x.den * y.den)
unfolding difference
StandsFor-difference x y = StandsFor-fraction (x.num *ℤ pos y.den -ℤ y.num *ℤ pos x.den) (x.den * y.den) (mul-pos (den_pos x) (den_pos y))

pub difference-plus : (x y : Fraction) → difference x y ≡ plus x (negated y)
unfolding negated
difference-plus x y =
    same_ratio _ _ _ _ _ _ (StandsFor-difference x y) (StandsFor-plus x (negated y) _ _ _ _ (StandsFor_self x) (StandsFor-fraction (neg_ℤ y.num) y.den (den_pos y)))
    (by_parts2 (λ a b. (a *ℤ pos y.den -ℤ b *ℤ pos x.den) *ℤ pos (x.den * y.den) ≡ (a *ℤ pos y.den +ℤ neg_ℤ b *ℤ pos x.den) *ℤ pos (x.den * y.den)) (λ a b c d. simp as_minus (minus_same _ _ _ _ (omega arith))) x.num y.num)

pub zero_times : (d : ℕ) → pos 0 *ℤ pos d ≡ pos 0
zero_times d = let e : 0 * d ≡ 0 = omega arith in ap pos e

-- a numerator of 0 is that of the number 0
pub nought_from_num : (x : Fraction) → x.num ≡ pos 0 → x ≡ nought
nought_from_num x h = same_fraction x nought (ap (λ n. n *ℤ pos 1) h ∙ sym (zero_times x.den))

quotient_across : (n m : ℤ) → m ≢ pos 0 → (quotient n m).num *ℤ m ≡ n *ℤ pos (quotient n m).den
quotient_across n (pos d) ne = (StandsFor-fraction n d (pos_of_ne-zero (λ e. ne (ap pos e)))).across
quotient_across n (negsuc d) ne =
    let q = fraction (neg_ℤ n) (suc d) in
    let e : q.num *ℤ pos (suc d) ≡ neg_ℤ n *ℤ pos q.den = (StandsFor-fraction (neg_ℤ n) (suc d) (omega arith)).across in
    *ℤ-neg_ℤ q.num (pos (suc d))
    ∙ ap neg_ℤ e
    ∙ by_parts (λ a. neg_ℤ (neg_ℤ a *ℤ pos q.den) ≡ a *ℤ pos q.den) (λ a b. simp as_minus (minus_same _ _ _ _ (omega arith))) n

-- what a division by anything but 0 gives, times the divisor, is what was divided
pub times-over : (x y : Fraction) → y ≢ nought → times (over x y) y ≡ x
unfolding over
times-over x y ne =
    let q = over x y in
    let some : y.num *ℤ pos x.den ≢ pos 0 = λ e. ne (nought_from_num y (*ℤ_cancel x.den (den_pos x) y.num (pos 0) (e ∙ sym (zero_times x.den)))) in
    let across : q.num *ℤ (y.num *ℤ pos x.den) ≡ (x.num *ℤ pos y.den) *ℤ pos q.den = quotient_across (x.num *ℤ pos y.den) (y.num *ℤ pos x.den) some in
    same_ratio _ _ _ _ _ _ (StandsFor-times q y _ _ _ _ (StandsFor_self q) (StandsFor_self y)) (StandsFor_self x)
    (*ℤ_assoc q.num y.num (pos x.den) ∙ across ∙ by_parts (λ a. (a *ℤ pos y.den) *ℤ pos q.den ≡ a *ℤ pos (q.den * y.den)) (λ a b. simp as_minus (minus_same _ _ _ _ (omega arith))) x.num)

-- integers and their arithmetic are within the fractions
pub plus-whole : (n m : ℤ) → plus (whole n) (whole m) ≡ whole (n +ℤ m)
plus-whole n m =
    same_ratio _ _ _ _ _ _ (StandsFor-plus (whole n) (whole m) _ _ _ _ (StandsFor_self (whole n)) (StandsFor_self (whole m))) (StandsFor_self (whole (n +ℤ m)))
    (by_parts2 (λ a b. (a *ℤ pos 1 +ℤ b *ℤ pos 1) *ℤ pos 1 ≡ (a +ℤ b) *ℤ pos 1) (λ a b c d. simp as_minus (minus_same _ _ _ _ (omega arith))) n m)

pub difference-whole : (n m : ℤ) → difference (whole n) (whole m) ≡ whole (n -ℤ m)
difference-whole n m =
    same_ratio _ _ _ _ _ _ (StandsFor-difference (whole n) (whole m)) (StandsFor_self (whole (n -ℤ m)))
    (by_parts2 (λ a b. (a *ℤ pos 1 -ℤ b *ℤ pos 1) *ℤ pos 1 ≡ (a -ℤ b) *ℤ pos 1) (λ a b c d. simp as_minus (minus_same _ _ _ _ (omega arith))) n m)

pub times-whole : (n m : ℤ) → times (whole n) (whole m) ≡ whole (n *ℤ m)
times-whole n m =
    same_ratio _ _ _ _ _ _ (StandsFor-times (whole n) (whole m) _ _ _ _ (StandsFor_self (whole n)) (StandsFor_self (whole m))) (StandsFor_self (whole (n *ℤ m))) refl

pub unit_not-nought : unit ≢ nought
unit_not-nought e = let h = ap (λ (x : Fraction). x.num) e in cc

-- n / d times d is n
pub times-fraction : (n : ℤ) (d : ℕ) → 0 < d → times (fraction n d) (whole (pos d)) ≡ whole n
times-fraction n d p =
    same_ratio _ _ _ _ _ _ (StandsFor-times (fraction n d) (whole (pos d)) _ _ _ _ (StandsFor-fraction n d p) (StandsFor_self (whole (pos d)))) (StandsFor_self (whole n))
    (by_parts (λ a. (a *ℤ pos d) *ℤ pos 1 ≡ a *ℤ pos (d * 1)) (λ a b. simp as_minus (minus_same _ _ _ _ (omega arith))) n)

-- n / m times m is n
pub times-quotient : (n m : ℤ) → m ≢ pos 0 → times (quotient n m) (whole m) ≡ whole n
times-quotient n m ne =
    let q = quotient n m in
    same_ratio _ _ _ _ _ _ (StandsFor-times q (whole m) _ _ _ _ (StandsFor_self q) (StandsFor_self (whole m))) (StandsFor_self (whole n))
    (ap (λ z. z *ℤ pos 1) (quotient_across n m ne) ∙ by_parts (λ a. (a *ℤ pos q.den) *ℤ pos 1 ≡ a *ℤ pos (q.den * 1)) (λ a b. simp as_minus (minus_same _ _ _ _ (omega arith))) n)

-- a fraction that is in lowest terms stays as it is
pub fraction_lowest : (n : ℤ) (d : ℕ) (p : IsTrue (is_lowest n d)) → fraction n d ≡ record { num = n; den = d; lowest = p }
fraction_lowest n d p =
    let x : Fraction = record { num = n; den = d; lowest = p } in
    same_ratio (fraction n d) x n n d d (StandsFor-fraction n d (den_pos x)) (StandsFor_self x) refl

pub fraction_parts : (n : ℤ) (d : ℕ) → IsTrue (is_lowest n d) → ((fraction n d).num ≡ n) × ((fraction n d).den ≡ d)
fraction_parts n d p = let e = fraction_lowest n d p in (ap (λ x. x.num) e, ap (λ x. x.den) e)

-- the parts that code keeps are those of the fraction that contracts see
pub num_kept : {n d : ℤ} → IsKept n d → (fraction n (nat_abs d)).num ≡ n
num_kept {n} {d} h = (fraction_parts n (nat_abs d) h.lowest).0

pub den_kept : {n d : ℤ} → IsKept n d → pos (fraction n (nat_abs d)).den ≡ d
den_kept {n} {d} h = ap pos (fraction_parts n (nat_abs d) h.lowest).1 ∙ sym h.positive

pub fraction_self : (x : Fraction) → fraction x.num x.den ≡ x
fraction_self x = fraction_lowest x.num x.den x.lowest

-- a fraction is its numerator over its denominator
pub times_den : (x : Fraction) → times x (whole (pos x.den)) ≡ whole x.num
times_den x = ap (λ y. times y (whole (pos x.den))) (sym (fraction_self x)) ∙ times-fraction x.num x.den (den_pos x)

-- fractions with the same parts are the same
pub same_parts : (x y : Fraction) → x.num ≡ y.num → x.den ≡ y.den → x ≡ y
same_parts x y h k = same_fields x.num y.num x.den y.den x.lowest y.lowest h k

-- the equality of code obeys the laws of one
pub same_number_equiv : IsEquivalence same_number
same_number_equiv = and_equiv (on_equiv (λ (x : Fraction). x.num) int_eq_equiv) (on_equiv (λ (x : Fraction). x.den) nat_eq_equiv)

-- what `==` answers at code's fractions: it is equality, and so obeys the laws of one
pub same_number_is : (x y : Fraction) → IsTrue (same_number x y) ↔ (x ≡ y)
same_number_is x y = (
  λ h. same_parts x y ((Decides-int_eq x.num y.num).0 (first_true _ _ h)) (eqb-true x.den y.den (second_true (int_eq x.num y.num) _ h)),
  λ e. subst (λ z. IsTrue (same_number x z)) e (same_number_equiv.refl x),
)
