-- The order of fractions, as in plain mathematics.
use Rattle.std.specs.Prelude.{◌≡◌, ℕ, ◌+◌, ◌*◌, ◌<◌, ◌≤◌, ℤ, pos, ◌+ℤ◌, ◌*ℤ◌, ◌≤ℤ◌, ◌<ℤ◌, ◌⊎◌, negsuc}
use Rattle.std.proofs.Common.{arith, refl, sym, ap, subst, inl, inr, subst₂, ◌∙◌, mul-pos, mul_comm, le_of_mul-le-mul_right, mul-le-mul_right}
use Rattle.std.proofs.lemmas.Int.{ints, by_lt_z}
use Rattle.std.specs.Ordering.{MatchOrdering}
use Rattle.std.proofs.Common.{Less, Equal, Greater}
use Rattle.std.specs.Cmp.{int_ranks, int_cmp_is}
use Rattle.std.specs.declared.cmp.Ordering.{Ordering}
use Rattle.frac_core.specs.Ints.{minus, minus_same, minus-mul, pos_minus, as_minus, by_parts, by_parts2}
use Rattle.frac_core.specs.Fraction.{Fraction, whole, plus, times, nought, compare}
use Rattle.frac_core.specs.Laws.{StandsFor, StandsFor_self, StandsFor-plus, StandsFor-times, den_pos, same_fraction}

-- x is at most y
pub record AtMost (x y : Fraction) : Type 0 where
  pub across : (x.num *ℤ pos y.den) ≤ℤ (y.num *ℤ pos x.den)

-- x is less than y
pub record Below (x y : Fraction) : Type 0 where
  pub across : (x.num *ℤ pos y.den) <ℤ (y.num *ℤ pos x.den)

minus_le : (a b c d : ℕ) → a + d ≤ c + b → minus a b ≤ℤ minus c d
unfolding minus
minus_le a b c d e = omega (arith, ints)

le_minus : (a b c d : ℕ) → minus a b ≤ℤ minus c d → a + d ≤ c + b
unfolding minus
le_minus a b c d e = omega (arith, ints)

-- a factor keeps an order, and a positive one can be taken away
≤ℤ-scale : (k : ℕ) (x y : ℤ) → x ≤ℤ y → (x *ℤ pos k) ≤ℤ (y *ℤ pos k)
≤ℤ-scale k =
    by_parts2 (λ x y. x ≤ℤ y → (x *ℤ pos k) ≤ℤ (y *ℤ pos k)) λ a b c d h.
    let e = mul-le-mul_right k (le_minus a b c d h) in
    simp as_minus (minus_le _ _ _ _ (omega arith))

cancel_parts : (a b c d k : ℕ) → 0 < k → (minus a b *ℤ minus k 0) ≤ℤ (minus c d *ℤ minus k 0) → minus a b ≤ℤ minus c d
cancel_parts a b c d k p e =
    let h = le_minus _ _ _ _ (simp minus-mul at e) in
    let f : (a + d) * k ≤ (c + b) * k = omega arith in
    minus_le a b c d (le_of_mul-le-mul_right f p)

≤ℤ_cancel : (k : ℕ) → 0 < k → (x y : ℤ) → (x *ℤ pos k) ≤ℤ (y *ℤ pos k) → x ≤ℤ y
≤ℤ_cancel k p =
    by_parts2 (λ x y. (x *ℤ pos k) ≤ℤ (y *ℤ pos k) → x ≤ℤ y) λ a b c d e.
    cancel_parts a b c d k p (rw pos_minus at e)

cross_eq : (x : Fraction) (n : ℤ) (d Y e : ℕ) → StandsFor x n d → (x.num *ℤ pos Y) *ℤ pos (d * e) ≡ (n *ℤ pos e) *ℤ pos (x.den * Y)
cross_eq x n d Y e s =
    by_parts (λ a. (a *ℤ pos Y) *ℤ pos (d * e) ≡ (a *ℤ pos d) *ℤ pos (Y * e)) (λ a b. simp as_minus (minus_same _ _ _ _ (omega arith))) x.num
    ∙ ap (λ z. z *ℤ pos (Y * e)) s.across
    ∙ by_parts (λ a. (a *ℤ pos x.den) *ℤ pos (Y * e) ≡ (a *ℤ pos e) *ℤ pos (x.den * Y)) (λ a b. simp as_minus (minus_same _ _ _ _ (omega arith))) n

-- the order of two ratios
pub AtMost-ratio : (x y : Fraction) (n m : ℤ) (d e : ℕ) → StandsFor x n d → StandsFor y m e → (n *ℤ pos e) ≤ℤ (m *ℤ pos d) → AtMost x y
AtMost-ratio x y n m d e s t h =
    let left = cross_eq x n d y.den e s in
    let right = cross_eq y m e x.den d t in
    record {
      across =
          ≤ℤ_cancel (d * e) (mul-pos s.positive t.positive) (x.num *ℤ pos y.den) (y.num *ℤ pos x.den)
          (subst₂ (λ a b. a ≤ℤ b) (sym left) (ap (λ k. (m *ℤ pos d) *ℤ pos k) (mul_comm x.den y.den) ∙ sym right ∙ ap (λ k. (y.num *ℤ pos x.den) *ℤ pos k) (mul_comm e d))
          (≤ℤ-scale (x.den * y.den) (n *ℤ pos e) (m *ℤ pos d) h));
    }

pub AtMost_refl : (x : Fraction) → AtMost x x
AtMost_refl x = record { across = omega (arith, ints) }

pub AtMost_antisym : (x y : Fraction) → AtMost x y → AtMost y x → x ≡ y
AtMost_antisym x y h k = same_fraction x y (let a = h.across in let b = k.across in omega (arith, ints))

pub AtMost_trans : (x y z : Fraction) → AtMost x y → AtMost y z → AtMost x z
AtMost_trans x y z h k = record {
  across =
      ≤ℤ_cancel y.den (den_pos y) (x.num *ℤ pos z.den) (z.num *ℤ pos x.den)
      (let a = ≤ℤ-scale z.den (x.num *ℤ pos y.den) (y.num *ℤ pos x.den) h.across in
      let b = ≤ℤ-scale x.den (y.num *ℤ pos z.den) (z.num *ℤ pos y.den) k.across in
      let turn : (n : ℤ) (d e : ℕ) → (n *ℤ pos d) *ℤ pos e ≡ (n *ℤ pos e) *ℤ pos d = λ n d e. by_parts (λ n. (n *ℤ pos d) *ℤ pos e ≡ (n *ℤ pos e) *ℤ pos d) (λ a b. simp as_minus (minus_same _ _ _ _ (omega arith))) n in
      let p = turn x.num y.den z.den in
      let q = turn y.num x.den z.den in
      let r = turn z.num y.den x.den in
      omega (arith, ints));
}

pub plus_AtMost : (x y z : Fraction) → AtMost x y → AtMost (plus x z) (plus y z)
plus_AtMost x y z h =
    AtMost-ratio (plus x z) (plus y z) _ _ _ _ (StandsFor-plus x z _ _ _ _ (StandsFor_self x) (StandsFor_self z)) (StandsFor-plus y z _ _ _ _ (StandsFor_self y) (StandsFor_self z))
    (let a = ≤ℤ-scale (z.den * z.den) (x.num *ℤ pos y.den) (y.num *ℤ pos x.den) h.across in
    let left = by_parts2 (λ n r. (n *ℤ pos z.den +ℤ r *ℤ pos x.den) *ℤ pos (y.den * z.den) ≡ (n *ℤ pos y.den) *ℤ pos (z.den * z.den) +ℤ r *ℤ pos (x.den * y.den * z.den)) (λ a b c d. simp as_minus (minus_same _ _ _ _ (omega arith))) x.num z.num in
    let right = by_parts2 (λ n r. (n *ℤ pos z.den +ℤ r *ℤ pos y.den) *ℤ pos (x.den * z.den) ≡ (n *ℤ pos x.den) *ℤ pos (z.den * z.den) +ℤ r *ℤ pos (x.den * y.den * z.den)) (λ a b c d. simp as_minus (minus_same _ _ _ _ (omega arith))) y.num z.num in
    omega (arith, ints))

pub AtMost_total : (x y : Fraction) → AtMost x y ⊎ AtMost y x
AtMost_total x y = by_lt_z (x.num *ℤ pos y.den) (y.num *ℤ pos x.den) (λ h. inl (record { across = omega (arith, ints) })) (λ h. inr (record { across = h }))

-- the one order is the other turned round
pub Below_from_not-AtMost : (x y : Fraction) → ¬ (AtMost y x) → Below x y
Below_from_not-AtMost x y h = by_lt_z (x.num *ℤ pos y.den) (y.num *ℤ pos x.den) (λ b. record { across = b }) (λ b. absurd (h (record { across = b })))

pub Below_not-AtMost : (x y : Fraction) → Below x y → ¬ (AtMost y x)
Below_not-AtMost x y h k = let a = h.across in let b = k.across in omega (arith, ints)

-- a product with a factor that is not negative keeps the order
pub times_AtMost : (x y z : Fraction) → AtMost nought z → AtMost x y → AtMost (times x z) (times y z)
times_AtMost x y z p h = by_sign z.num refl
  where
    by_sign : (n : ℤ) → n ≡ z.num → AtMost (times x z) (times y z)
    by_sign (negsuc n) e = absurd (let a = p.across in let b : (pos 0 *ℤ pos z.den) ≤ℤ (negsuc n *ℤ pos 1) = subst (λ k. (pos 0 *ℤ pos z.den) ≤ℤ (k *ℤ pos 1)) (sym e) a in omega (arith, ints))
    by_sign (pos n) e =
        AtMost-ratio (times x z) (times y z) _ _ _ _ (StandsFor-times x z _ _ _ _ (StandsFor_self x) (StandsFor_self z)) (StandsFor-times y z _ _ _ _ (StandsFor_self y) (StandsFor_self z))
        (subst (λ k. ((x.num *ℤ k) *ℤ pos (y.den * z.den)) ≤ℤ ((y.num *ℤ k) *ℤ pos (x.den * z.den))) e
        (subst₂ (λ a b. a ≤ℤ b)
        (by_parts (λ a. (a *ℤ pos y.den) *ℤ pos (n * z.den) ≡ (a *ℤ pos n) *ℤ pos (y.den * z.den)) (λ a b. simp as_minus (minus_same _ _ _ _ (omega arith))) x.num)
        (by_parts (λ a. (a *ℤ pos x.den) *ℤ pos (n * z.den) ≡ (a *ℤ pos n) *ℤ pos (x.den * z.den)) (λ a b. simp as_minus (minus_same _ _ _ _ (omega arith))) y.num)
        (≤ℤ-scale (n * z.den) (x.num *ℤ pos y.den) (y.num *ℤ pos x.den) h.across)))

ranks_map : (r : Ordering) (P Q R P' Q' R' : Type 0) → (P → P') → (Q → Q') → (R → R') → MatchOrdering r P Q R → MatchOrdering r P' Q' R'
ranks_map Less P Q R P' Q' R' f g h p = f p
ranks_map Equal P Q R P' Q' R' f g h q = g q
ranks_map Greater P Q R P' Q' R' f g h r = h r

-- what `compare` answers is how the fractions stand, and no other answer is
pub compare_ranks : (x y : Fraction) → MatchOrdering (compare x y) (Below x y) (x ≡ y) (Below y x)
compare_ranks x y =
    ranks_map (compare x y) _ _ _ _ _ _ (λ h. record { across = h }) (same_fraction x y) (λ h. record { across = h })
    (int_ranks (x.num *ℤ pos y.den) (y.num *ℤ pos x.den))

pub compare_is : (x y : Fraction) (r : Ordering) → MatchOrdering r (Below x y) (x ≡ y) (Below y x) → r ≡ compare x y
compare_is x y r h =
    int_cmp_is (x.num *ℤ pos y.den) (y.num *ℤ pos x.den) r
    (ranks_map r _ _ _ _ _ _ (λ (b : Below x y). b.across) (λ e. subst (λ z. x.num *ℤ pos z.den ≡ z.num *ℤ pos x.den) e refl) (λ (b : Below y x). b.across) h)

pub one_times : (z : ℤ) → z *ℤ pos 1 ≡ z
one_times = by_parts (λ z. z *ℤ pos 1 ≡ z) λ a b. simp as_minus (minus_same _ _ _ _ (omega arith))

-- the order of whole numbers is that of the integers
pub AtMost-whole : (n m : ℤ) → n ≤ℤ m → AtMost (whole n) (whole m)
AtMost-whole n m h = record { across = subst₂ (λ a b. a ≤ℤ b) (sym (one_times n)) (sym (one_times m)) h }

pub Below-whole : (n m : ℤ) → n <ℤ m → Below (whole n) (whole m)
Below-whole n m h = record { across = subst₂ (λ a b. a <ℤ b) (sym (one_times n)) (sym (one_times m)) h }
