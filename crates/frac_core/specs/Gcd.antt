-- The greatest common divisor, by Euclid's algorithm, and its laws.
use Rattle.std.specs.Prelude.{◌≡◌, ℕ, zero, suc, ◌+◌, ◌*◌, ◌/◌, ◌%◌, ◌<◌, ◌≤◌}
use Rattle.std.specs.Int.{IsGcd, ◌∣◌}
use Rattle.std.proofs.Common.{arith, refl, sym, subst, ap, ap₂, ◌∙◌}
use Rattle.std.proofs.lemmas.Nat.Gcd.{IsGcd-from_zero, IsGcd-from_mod, IsGcd-swap, same_from_IsGcd, dvd_antisymm}
use Rattle.std.proofs.Math.Nat.{dvd-mul_left, dvd-mul_right, le_refl, div-add-mod, mul-div-mul_left, dvd-zero, mul-div_cancel', pos_of_dvd_of_pos, mul-one, mul-zero, mul-div_cancel_left, eq-one_of_dvd-one}

-- Euclid's algorithm, in at most so many steps
unfoldable pub gcd_within : ℕ → ℕ → ℕ → ℕ
gcd_within zero a b = a
gcd_within (suc n) a zero = a
gcd_within (suc n) a (suc b) = gcd_within n (suc b) (a % suc b)

-- the greatest common divisor
unfoldable pub gcd : ℕ → ℕ → ℕ
gcd a b = gcd_within b a b

is_gcd_within : (n a b : ℕ) → b ≤ n → IsGcd a b (gcd_within n a b)
unfolding gcd_within
is_gcd_within zero a b h = IsGcd-from_zero a b (omega arith)
is_gcd_within (suc n) a zero h = IsGcd-from_zero a zero refl
is_gcd_within (suc n) a (suc b) h =
    IsGcd-from_mod a (suc b) _ (is_gcd_within n (suc b) (a % suc b) (omega arith))

pub gcd_lem : (a b : ℕ) → IsGcd a b (gcd a b)
unfolding gcd
gcd_lem a b = is_gcd_within b a b (le_refl b)

-- what is the greatest common divisor in the sense of the relation is this number
pub gcd_is : (a b g : ℕ) → IsGcd a b g → gcd a b ≡ g
gcd_is a b g h = same_from_IsGcd a b _ g (gcd_lem a b) h

-- a common factor comes out of a remainder
mod-mul : (k a b : ℕ) → 0 < k → (k * a) % (k * b) ≡ k * (a % b)
mod-mul k a b p =
    let whole = ap (λ x. k * x) (div-add-mod a b) in
    let other : k * b * (a / b) + (k * a) % (k * b) ≡ k * a =
    subst (λ q. k * b * q + (k * a) % (k * b) ≡ k * a) (mul-div-mul_left a b p) (div-add-mod (k * a) (k * b)) in
    omega arith

scaled_within : (k n a b : ℕ) → 0 < k → b ≤ n → IsGcd (k * a) (k * b) (k * gcd_within n a b)
unfolding gcd_within
scaled_within k zero a b p h = let e : b ≡ 0 = omega arith in IsGcd-from_zero (k * a) (k * b) (rw e (mul-zero k))
scaled_within k (suc n) a zero p h = IsGcd-from_zero (k * a) (k * zero) (omega arith)
scaled_within k (suc n) a (suc b) p h =
    IsGcd-from_mod (k * a) (k * suc b) _
    (rw (mod-mul k a (suc b) p) (scaled_within k n (suc b) (a % suc b) p (omega arith)))

-- a common factor comes out
pub gcd-mul : (k a b : ℕ) → 0 < k → gcd (k * a) (k * b) ≡ k * gcd a b
unfolding gcd
gcd-mul k a b p = gcd_is (k * a) (k * b) (k * gcd_within b a b) (scaled_within k b a b p (le_refl b))

-- what divides a product and has no factor in common with one of its parts divides the other
pub dvd_from_gcd-one : (a b c : ℕ) → gcd a b ≡ 1 → a ∣ c * b → a ∣ c
dvd_from_gcd-one a b zero g d = dvd-zero a
dvd_from_gcd-one a b (suc c) g d =
    let t : a ∣ gcd (suc c * a) (suc c * b) = (gcd_lem (suc c * a) (suc c * b)).2 a (dvd-mul_left a (suc c)) d in
    let e : gcd (suc c * a) (suc c * b) ≡ suc c * 1 = gcd-mul (suc c) a b (omega arith) ∙ ap (λ x. suc c * x) g in
    let one : suc c * 1 ≡ suc c = omega arith in
    subst (λ x. a ∣ x) (e ∙ one) t

pub mul_cancel : (k a b : ℕ) → 0 < k → k * a ≡ k * b → a ≡ b
mul_cancel k a b p e = sym (mul-div_cancel_left a p) ∙ ap (λ x. x / k) e ∙ mul-div_cancel_left b p

-- parts with no common factor are determined by their products across
pub same_from_cross : (a b c d : ℕ) → gcd a b ≡ 1 → gcd c d ≡ 1 → a * d ≡ c * b → a ≡ c
same_from_cross a b c d g h e =
    dvd_antisymm
    (dvd_from_gcd-one a b c g (subst (λ x. a ∣ x) e (dvd-mul_right a d)))
    (dvd_from_gcd-one c d a h (subst (λ x. c ∣ x) (sym e) (dvd-mul_right c b)))

-- what is left of two numbers when their greatest common divisor is taken out has no common factor
pub gcd-div : (a b : ℕ) → 0 < gcd a b → gcd (a / gcd a b) (b / gcd a b) ≡ 1
gcd-div a b p =
    let g = gcd a b in
    let first : g * (a / g) ≡ a = mul-div_cancel' g (gcd_lem a b).0 in
    let second : g * (b / g) ≡ b = mul-div_cancel' g (gcd_lem a b).1 in
    let whole : gcd (g * (a / g)) (g * (b / g)) ≡ g * gcd (a / g) (b / g) = gcd-mul g (a / g) (b / g) p in
    let same : g ≡ g * gcd (a / g) (b / g) = sym (ap₂ gcd first second) ∙ whole in
    mul_cancel g _ 1 p (sym same ∙ sym (mul-one g))

pub gcd_pos : (a b : ℕ) → 0 < b → 0 < gcd a b
gcd_pos a b p = pos_of_dvd_of_pos (gcd_lem a b).1 p

pub gcd_comm : (a b : ℕ) → gcd a b ≡ gcd b a
gcd_comm a b = gcd_is a b (gcd b a) (IsGcd-swap b a _ (gcd_lem b a))

-- Euclid's step, and his end
pub gcd_step : (a b : ℕ) → gcd b (a % b) ≡ gcd a b
gcd_step a b = sym (gcd_is a b (gcd b (a % b)) (IsGcd-from_mod a b _ (gcd_lem b (a % b))))

pub gcd_end : (a b : ℕ) → b ≡ 0 → gcd a b ≡ a
gcd_end a b e = gcd_is a b a (IsGcd-from_zero a b e)

pub gcd-one : (a : ℕ) → gcd a 1 ≡ 1
gcd-one a = eq-one_of_dvd-one (gcd_lem a 1).1
