-- Laws of the integers' product and sum that the library lacks, by reading an integer as a difference of two naturals.
use Rattle.std.specs.Prelude.{◌≡◌, ℕ, suc, ◌+◌, ◌*◌, ◌<◌, ℤ, pos, negsuc, ◌+ℤ◌, ◌-ℤ◌, ◌*ℤ◌, neg_ℤ}
use Rattle.std.proofs.Common.{arith, ap, subst}
use Rattle.std.proofs.lemmas.Int.{ints}
use borrow.Author.Differences.{up, down}
use Rattle.frac_core.specs.Gcd.{mul_cancel}

-- a − b
unfoldable pub minus : ℕ → ℕ → ℤ
minus a b = pos a -ℤ pos b

pub by_parts : (P : ℤ → Type 0) → ((a b : ℕ) → P (minus a b)) → (z : ℤ) → P z
unfolding minus
by_parts P h (pos n) = let e : pos n -ℤ pos 0 ≡ pos n = omega (arith, ints) in subst P e (h n 0)
by_parts P h (negsuc n) = let e : pos 0 -ℤ pos (suc n) ≡ negsuc n = omega (arith, ints) in subst P e (h 0 (suc n))

pub minus_same : (a b c d : ℕ) → a + d ≡ c + b → minus a b ≡ minus c d
unfolding minus
minus_same a b c d e = omega (arith, ints)

pub same_minus : (a b c d : ℕ) → minus a b ≡ minus c d → a + d ≡ c + b
unfolding minus
same_minus a b c d e = omega (arith, ints)

pub minus-add : (a b c d : ℕ) → minus a b +ℤ minus c d ≡ minus (a + c) (b + d)
unfolding minus
minus-add a b c d = omega (arith, ints)

pub minus-neg : (a b : ℕ) → neg_ℤ (minus a b) ≡ minus b a
unfolding minus
minus-neg a b = omega (arith, ints)

pub pos_minus : (a : ℕ) → pos a ≡ minus a 0
unfolding minus
pos_minus a = omega (arith, ints)

product_parts : (x y : ℤ) → up (x *ℤ y) + (up x * down y + down x * up y) ≡ down (x *ℤ y) + (up x * up y + down x * down y)
product_parts (pos a) (pos b) = omega (arith, ints)
product_parts (pos a) (negsuc b) = omega (arith, ints)
product_parts (negsuc a) (pos b) = omega (arith, ints)
product_parts (negsuc a) (negsuc b) = omega (arith, ints)

minus_parts : (a b : ℕ) → up (minus a b) + b ≡ down (minus a b) + a
unfolding minus
minus_parts a b = omega (arith, ints)

cross : (u v w z a b c d : ℕ) → u + b ≡ v + a → w + d ≡ z + c → (u * w + v * z) + (a * d + b * c) ≡ (u * z + v * w) + (a * c + b * d)
cross u v w z a b c d p q =
    let p1 = ap (λ t. t * w) p in
    let p2 = ap (λ t. t * z) p in
    let q1 = ap (λ t. a * t) q in
    let q2 = ap (λ t. b * t) q in
    omega arith

pub minus-mul : (a b c d : ℕ) → minus a b *ℤ minus c d ≡ minus (a * c + b * d) (a * d + b * c)
minus-mul a b c d =
    let x = minus a b in
    let y = minus c d in
    let e = cross (up x) (down x) (up y) (down y) a b c d (minus_parts a b) (minus_parts c d) in
    let f = product_parts x y in
    let g = minus_parts (a * c + b * d) (a * d + b * c) in
    omega (arith, ints)

pub ruleset as_minus = (minus-add, minus-neg, minus-mul, pos_minus)

pub by_parts2 : (P : ℤ → ℤ → Type 0) → ((a b c d : ℕ) → P (minus a b) (minus c d)) → (x y : ℤ) → P x y
by_parts2 P h = by_parts (λ x. (y : ℤ) → P x y) λ a b. by_parts (λ y. P (minus a b) y) λ c d. h a b c d

pub by_parts3 : (P : ℤ → ℤ → ℤ → Type 0) → ((a b c d e f : ℕ) → P (minus a b) (minus c d) (minus e f)) → (x y z : ℤ) → P x y z
by_parts3 P h = by_parts (λ x. (y z : ℤ) → P x y z) λ a b. by_parts2 (λ y z. P (minus a b) y z) λ c d e f. h a b c d e f

pub by_parts4 : (P : ℤ → ℤ → ℤ → ℤ → Type 0) → ((a b c d e f g h : ℕ) → P (minus a b) (minus c d) (minus e f) (minus g h)) → (x y z w : ℤ) → P x y z w
by_parts4 P k = by_parts (λ x. (y z w : ℤ) → P x y z w) λ a b. by_parts3 (λ y z w. P (minus a b) y z w) λ c d e f g h. k a b c d e f g h

pub *ℤ_assoc : (x y z : ℤ) → (x *ℤ y) *ℤ z ≡ x *ℤ (y *ℤ z)
*ℤ_assoc =
    by_parts3 (λ x y z. (x *ℤ y) *ℤ z ≡ x *ℤ (y *ℤ z)) λ a b c d e f.
    simp as_minus (minus_same _ _ _ _ (omega arith))

pub swap4 : (x y z w : ℤ) → (x *ℤ y) *ℤ (z *ℤ w) ≡ (x *ℤ z) *ℤ (y *ℤ w)
swap4 =
    by_parts4 (λ x y z w. (x *ℤ y) *ℤ (z *ℤ w) ≡ (x *ℤ z) *ℤ (y *ℤ w)) λ a b c d e f g h.
    simp as_minus (minus_same _ _ _ _ (omega arith))

pub neg_ℤ-*ℤ : (x y : ℤ) → neg_ℤ x *ℤ y ≡ neg_ℤ (x *ℤ y)
neg_ℤ-*ℤ = by_parts2 (λ x y. neg_ℤ x *ℤ y ≡ neg_ℤ (x *ℤ y)) λ a b c d. simp as_minus (minus_same _ _ _ _ (omega arith))

pub *ℤ-neg_ℤ : (x y : ℤ) → x *ℤ neg_ℤ y ≡ neg_ℤ (x *ℤ y)
*ℤ-neg_ℤ = by_parts2 (λ x y. x *ℤ neg_ℤ y ≡ neg_ℤ (x *ℤ y)) λ a b c d. simp as_minus (minus_same _ _ _ _ (omega arith))

cancel_parts : (a b c d k : ℕ) → 0 < k → minus a b *ℤ minus k 0 ≡ minus c d *ℤ minus k 0 → minus a b ≡ minus c d
cancel_parts a b c d k p e =
    let h = same_minus _ _ _ _ (simp minus-mul at e) in
    minus_same a b c d (mul_cancel k (a + d) (c + b) p (omega arith))

-- a positive factor can be taken away
pub *ℤ_cancel : (k : ℕ) → 0 < k → (x y : ℤ) → x *ℤ pos k ≡ y *ℤ pos k → x ≡ y
*ℤ_cancel k p =
    by_parts (λ x. (y : ℤ) → x *ℤ pos k ≡ y *ℤ pos k → x ≡ y) λ a b.
    by_parts (λ y. minus a b *ℤ pos k ≡ y *ℤ pos k → minus a b ≡ y) λ c d e.
    cancel_parts a b c d k p (rw pos_minus at e)
