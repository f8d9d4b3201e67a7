-- What a literal is worth, in normal form.
use Rattle.std.proofs.Common.{◌≡◌, ◌≢◌, ℕ, zero, suc, ◌+◌, ◌*◌, ◌^◌, ◌/◌, ◌%◌, ◌≤◌, ◌<◌, Bool, true, false, List, refl, sym, ap, subst, ◌∙◌, arith, min, mul_assoc, mul-suc}
use Rattle.std.specs.Prelude.{nat_eq, ℤ, pos, ◌+ℤ◌, ◌-ℤ◌, nat_abs, nat_lt, nat_le, ◌||◌, Some, None, if◌then◌else◌}
use Rattle.std.proofs.lemmas.Bool.Decides.{nat_tests}
use Rattle.std.proofs.lemmas.Int.{ints}
use Rattle.std.proofs.Math.Nat.{pow-suc, pow-le-pow_right, mul_comm}
use Rattle.std.proofs.lemmas.Grind.{pow_more}
use Rattle.std.proofs.lemmas.Bool.{or_parts, or_from}
use Rattle.frac_core.specs.Fraction.{signed}
use Rattle.frac_core.specs.declared.decimal.Decimal.{Decimal}
use Rattle.frac_core.specs.Decimal.{is_normal}
use Rattle.frac_core.specs.declared.numeral.Reading.{Reading}
use Rattle.frac_core.specs.Numeral.{reading_of, capped, exponent_of, literal, stripped, value_of, worth, is_beyond, decimal_of}
use Rattle.frac_core.specs.Text.{WorthIsNormal, WorthIsWithin}
use Rattle.frac_core.proofs.Digits.{above_power}

mul_one_le : (a x : ℕ) → 0 < x → a ≤ a * x
mul_one_le a zero l = absurd (omega arith)
mul_one_le a (suc x) l = let e : a * suc x ≡ a * x + a = mul-suc a x in omega arith

-- ---- zeros are stripped

pub strip_product : (left zeros n : ℕ) → left % 10 ≡ 0 → left * 10 ^ zeros ≡ n → left / 10 * 10 ^ (zeros + 1) ≡ n
strip_product left zeros n h e =
    let p : 10 ^ (zeros + 1) ≡ 10 ^ zeros * 10 = pow_more 10 zeros in
    let q : left / 10 * 10 ≡ left = omega arith in
    let r : left / 10 * (10 ^ zeros * 10) ≡ left / 10 * 10 * 10 ^ zeros = ap (λ (u : ℕ). left / 10 * u) (mul_comm (10 ^ zeros) 10) ∙ sym (mul_assoc (left / 10) 10 (10 ^ zeros)) in
    ap (λ (u : ℕ). left / 10 * u) p ∙ r ∙ ap (λ (u : ℕ). u * 10 ^ zeros) q ∙ e

pub at_most : (left zeros n : ℕ) → 0 < left → left * 10 ^ zeros ≡ n → 10 ^ zeros ≤ n
at_most left zeros n l e = let a = mul_one_le (10 ^ zeros) left l in let b : 10 ^ zeros * left ≡ left * 10 ^ zeros = mul_comm (10 ^ zeros) left in omega arith

pub few_zeros : (left zeros n : ℕ) → 0 < left → left * 10 ^ zeros ≡ n → n < 10 ^ 38 → zeros ≤ 38
few_zeros left zeros n l e h = few (nat_le 38 zeros) refl
  where
    few : (t : Bool) → nat_le 38 zeros ≡ t → zeros ≤ 38
    few true f = let a : 38 ≤ zeros = grind (arith, nat_tests) in let b : 10 ^ 38 ≤ 10 ^ zeros = pow-le-pow_right (omega arith) a in absurd (let c = at_most left zeros n l e in omega arith)
    few false f = grind (arith, nat_tests)

pub strip_stop : (k n : ℕ) (m : Bool) (e : ℤ) → n % 10 ≢ 0 → stripped k m n e ≡ literal true m n e
strip_stop zero n m e h = refl
strip_stop (suc k) n m e h = let f : nat_eq (n % 10) 0 ≡ false = grind (arith, nat_tests) in ap (λ (b : Bool). if b then stripped k m (n / 10) (e +ℤ pos 1) else literal true m n e) f

-- so many zeros at the end of the digits
pub strip_zeros : (k d j : ℕ) (m : Bool) (e : ℤ) → j ≤ k → d % 10 ≢ 0 → stripped k m (d * 10 ^ j) e ≡ literal true m d (e +ℤ pos j)
strip_zeros k d zero m e l h =
    let a : d * 10 ^ 0 ≡ d = omega arith in
    let b : e ≡ e +ℤ pos 0 = omega (arith, ints) in
    ap (λ (n : ℕ). stripped k m n e) a ∙ strip_stop k d m e h ∙ ap (literal true m d) b
strip_zeros zero d (suc j) m e l h = absurd (omega arith)
strip_zeros (suc k) d (suc j) m e l h =
    let p : d * 10 ^ suc j ≡ d * 10 ^ j * 10 = ap (λ (u : ℕ). d * u) (pow-suc 10 j) ∙ sym (mul_assoc d (10 ^ j) 10) in
    let a : e +ℤ pos 1 +ℤ pos j ≡ e +ℤ pos (suc j) = omega (arith, ints) in
    ap (λ (n : ℕ). stripped (suc k) m n e) p ∙ once (d * 10 ^ j) ∙ strip_zeros k d j m (e +ℤ pos 1) (omega arith) h ∙ ap (literal true m d) a
  where
    once : (n : ℕ) → stripped (suc k) m (n * 10) e ≡ stripped k m n (e +ℤ pos 1)
    once n =
        let f : nat_eq (n * 10 % 10) 0 ≡ true = grind (arith, nat_tests) in
        let q : n * 10 / 10 ≡ n = omega arith in
        ap (λ (b : Bool). if b then stripped k m (n * 10 / 10) (e +ℤ pos 1) else literal true m (n * 10) e) f ∙ ap (λ (i : ℕ). stripped k m i (e +ℤ pos 1)) q

-- ---- the value of a reading

abbrev by_tests : (z real : Bool) → Reading → Decimal
by_tests z real r = if z then literal r.real false 0 (pos 0) else if real then stripped r.digits r.negative r.digits (exponent_of r) else literal false r.negative r.digits (pos 0)

pub value_zero : (r : Reading) → r.digits ≡ 0 → value_of r ≡ literal r.real false 0 (pos 0)
unfolding value_of
value_zero r e = let f : nat_eq r.digits 0 ≡ true = grind (arith, nat_tests) in ap (λ (z : Bool). by_tests z r.real r) f

pub value_int : (r : Reading) → r.digits ≢ 0 → r.real ≡ false → value_of r ≡ literal false r.negative r.digits (pos 0)
unfolding value_of
value_int r n e = let f : nat_eq r.digits 0 ≡ false = grind (arith, nat_tests) in ap (λ (z : Bool). by_tests z r.real r) f ∙ ap (λ (b : Bool). by_tests false b r) e

pub value_real : (r : Reading) (n zeros : ℕ) → r.real ≡ true → n * 10 ^ zeros ≡ r.digits → n % 10 ≢ 0 → value_of r ≡ literal true r.negative n (exponent_of r +ℤ pos zeros)
unfolding value_of
value_real r n zeros e p h =
    let some : 0 < n = positive n h in
    let a = at_most n zeros r.digits some p in
    let b = above_power zeros in
    let f : nat_eq r.digits 0 ≡ false = nonzero r.digits (omega (arith, a, b)) in
    ap (λ (z : Bool). by_tests z r.real r) f ∙ ap (λ (b : Bool). by_tests false b r) e
    ∙ ap (λ (i : ℕ). stripped r.digits r.negative i (exponent_of r)) (sym p) ∙ strip_zeros r.digits n zeros r.negative (exponent_of r) (omega (arith, a, b)) h
  where
    positive : (n : ℕ) → n % 10 ≢ 0 → 0 < n
    positive zero h = absurd (h refl)
    positive (suc n) h = omega arith

    nonzero : (n : ℕ) → 0 < n → nat_eq n 0 ≡ false
    nonzero n h = grind (arith, nat_tests)

-- ---- the limits

beyond_by : (w : List ℕ) (t : Bool) → is_beyond w ≡ t → decimal_of w ≡ (if t then None else Some (worth w))
beyond_by w t e = ap (λ (b : Bool). if b then None else Some (worth w)) e

or_true : (a b : Bool) → (a ≡ true → (a || b) ≡ true) × (b ≡ true → (a || b) ≡ true)
or_true true b = (λ e. refl, λ e. refl)
or_true false b = (λ e. absurd cc, λ e. e)

pub decimal_long : (w : List ℕ) → 10 ^ 38 ≤ (reading_of w).digits → None ≡ decimal_of w
unfolding is_beyond
decimal_long w h = let f : nat_le (10 ^ 38) (reading_of w).digits ≡ true = grind (arith, nat_tests) in sym (beyond_by w true ((or_true _ _).0 f))

pub decimal_far : (w : List ℕ) (d : Decimal) → worth w ≡ d → 400 < nat_abs d.exponent → None ≡ decimal_of w
unfolding is_beyond
decimal_far w d e h =
    let far : nat_lt 400 (nat_abs d.exponent) ≡ true = grind (arith, nat_tests) in
    sym (beyond_by w true ((or_true (nat_le (10 ^ 38) (reading_of w).digits) _).1 (ap (λ (x : Decimal). nat_lt 400 (nat_abs x.exponent)) e ∙ far)))

pub decimal_is : (w : List ℕ) (d : Decimal) → (reading_of w).digits < 10 ^ 38 → worth w ≡ d → nat_abs d.exponent ≤ 400 → Some d ≡ decimal_of w
unfolding is_beyond
decimal_is w d l e h =
    let short : nat_le (10 ^ 38) (reading_of w).digits ≡ false = grind (arith, nat_tests) in
    let near : nat_lt 400 (nat_abs d.exponent) ≡ false = grind (arith, nat_tests) in
    sym (beyond_by w false (or_from _ _ short (ap (λ (x : Decimal). nat_lt 400 (nat_abs x.exponent)) e ∙ near)) ∙ ap (λ (x : Decimal). Some x) e)

-- what is refused is past the limits
pub beyond_none : (w : List ℕ) → decimal_of w ≡ None → is_beyond w ≡ true
beyond_none w h = go (is_beyond w) h
  where
    go : (b : Bool) → (if b then None else Some (worth w)) ≡ None → b ≡ true
    go true h = refl
    go false h = absurd cc

pub stripped_sign : (k n : ℕ) (m : Bool) (e : ℤ) → (stripped k m n e).negative ≡ m
stripped_sign zero n m e = refl
stripped_sign (suc k) n m e = go (nat_eq (n % 10) 0) (stripped_sign k (n / 10) m (e +ℤ pos 1))
  where
    go : (b : Bool) → (stripped k m (n / 10) (e +ℤ pos 1)).negative ≡ m → (if b then stripped k m (n / 10) (e +ℤ pos 1) else literal true m n e).negative ≡ m
    go true h = h
    go false h = refl

-- what is read without a sign has none
pub value_unsigned : (r : Reading) → r.negative ≡ false → (value_of r).negative ≡ false
unfolding value_of
value_unsigned r h = go (nat_eq r.digits 0) r.real
  where
    go : (z b : Bool) → (by_tests z b r).negative ≡ false
    go true b = refl
    go false true = stripped_sign r.digits r.digits r.negative (exponent_of r) ∙ h
    go false false = h

-- ---- the code's value

uncapped_power : (m : Bool) (q p k : ℕ) → p < 2 ^ 64 → k ≤ 38 → nat_abs (signed m (min q (10 ^ 38)) -ℤ pos p +ℤ pos k) ≤ 400 → min q (10 ^ 38) ≡ q
uncapped_power true q p k h f g = omega (arith, ints)
uncapped_power false q p k h f g = omega (arith, ints)

past_power : (m : Bool) (q p k : ℕ) → p < 2 ^ 64 → k ≤ 38 → 400 < nat_abs (signed m (min q (10 ^ 38)) -ℤ pos p +ℤ pos k) → 400 < nat_abs (signed m q -ℤ pos p +ℤ pos k)
past_power true q p k h f g = omega (arith, ints)
past_power false q p k h f g = omega (arith, ints)

-- What the code has read, which has fewer than 39 digits.
module _ (w : List ℕ) (r : Reading) (read : r ≡ capped (reading_of w)) where
  pub long_value : r.digits ≡ 10 ^ 38 → None ≡ decimal_of w
  long_value e = decimal_long w (let a : r.digits ≡ min (reading_of w).digits (10 ^ 38) = ap (λ (q : Reading). q.digits) read in omega (arith, a, e))

  short_digits : r.digits ≢ 10 ^ 38 → ((reading_of w).digits < 10 ^ 38) × (r.digits ≡ (reading_of w).digits)
  short_digits h = let a : r.digits ≡ min (reading_of w).digits (10 ^ 38) = ap (λ (q : Reading). q.digits) read in (omega arith, omega arith)

  real_same : r.real ≡ (reading_of w).real
  real_same = ap (λ (q : Reading). q.real) read

  negative_same : r.negative ≡ (reading_of w).negative
  negative_same = ap (λ (q : Reading). q.negative) read

  pub zero_value : r.digits ≢ 10 ^ 38 → r.digits ≡ 0 → Some (literal r.real false 0 (pos 0)) ≡ decimal_of w
  unfolding worth
  zero_value h e =
      let s = short_digits h in
      decimal_is w _ s.0 (value_zero (reading_of w) (sym s.1 ∙ e) ∙ ap (λ (b : Bool). literal b false 0 (pos 0)) (sym real_same)) (omega arith)

  pub int_value : r.digits ≢ 10 ^ 38 → r.digits ≢ 0 → r.real ≡ false → Some (literal false r.negative r.digits (pos 0)) ≡ decimal_of w
  unfolding worth
  int_value h n e =
      let s = short_digits h in
      decimal_is w _ s.0
      (value_int (reading_of w) (λ z. n (s.1 ∙ z)) (sym real_same ∙ e) ∙ ap (λ (b : Bool). literal false b (reading_of w).digits (pos 0)) (sym negative_same) ∙ ap (λ (i : ℕ). literal false r.negative i (pos 0)) (sym s.1)) (omega arith)

  module _ (n zeros : ℕ) (short : r.digits ≢ 10 ^ 38) (real : r.real ≡ true) (product : n * 10 ^ zeros ≡ r.digits) (last : n % 10 ≢ 0) (few : zeros ≤ 38) (places : r.places < 2 ^ 64) where
    abbrev q : Reading
    q = reading_of w

    small : q.places < 2 ^ 64
    small = let a : r.places ≡ q.places = ap (λ (x : Reading). x.places) read in omega arith

    exponent_capped : exponent_of r +ℤ pos zeros ≡ signed q.less (min q.power (10 ^ 38)) -ℤ pos q.places +ℤ pos zeros
    exponent_capped = ap (λ (x : Reading). exponent_of x +ℤ pos zeros) read

    value : worth w ≡ literal true r.negative n (exponent_of q +ℤ pos zeros)
    unfolding worth
    value = value_real q n zeros (sym real_same ∙ real) (product ∙ (short_digits short).1) last ∙ ap (λ (b : Bool). literal true b n (exponent_of q +ℤ pos zeros)) (sym negative_same)

    -- within the limits
    pub real_value : (z : ℤ) → z ≡ exponent_of r +ℤ pos zeros → nat_abs z ≤ 400 → Some (literal true r.negative n z) ≡ decimal_of w
    real_value z e near =
        let F : ℤ → Type 0 = λ u. nat_abs u ≤ 400 in
        let p : min q.power (10 ^ 38) ≡ q.power = uncapped_power q.less q.power q.places zeros small few (subst F (e ∙ exponent_capped) near) in
        let i : z ≡ exponent_of q +ℤ pos zeros = e ∙ exponent_capped ∙ ap (λ (u : ℕ). signed q.less u -ℤ pos q.places +ℤ pos zeros) p in
        decimal_is w _ (short_digits short).0 (value ∙ ap (literal true r.negative n) (sym i)) near

    -- past them
    pub far_value : 400 < nat_abs (exponent_of r +ℤ pos zeros) → None ≡ decimal_of w
    far_value far =
        let F : ℤ → Type 0 = λ u. 400 < nat_abs u in
        decimal_far w _ value (past_power q.less q.power q.places zeros small few (subst F exponent_capped far))

-- ---- the normal form

pub stripped_normal : (k n : ℕ) (m : Bool) (e : ℤ) → 0 < n → n < 10 ^ k → is_normal (stripped k m n e) ≡ true
stripped_normal zero n m e l h = absurd (omega (arith, l, h))
stripped_normal (suc k) n m e l h = go (nat_eq (n % 10) 0) refl (λ p q. stripped_normal k (n / 10) m (e +ℤ pos 1) p q)
  where
    tenth : n % 10 ≡ 0 → (0 < n / 10) × (n / 10 < 10 ^ k)
    tenth z = let p : 10 ^ suc k ≡ 10 ^ k * 10 = pow-suc 10 k in (omega arith, omega (arith, p, h))

    zero_is : nat_eq (n % 10) 0 ≡ true → n % 10 ≡ 0
    zero_is g = grind (arith, nat_tests)

    more : nat_eq n 0 ≡ false
    more = grind (arith, nat_tests)

    go : (b : Bool) → nat_eq (n % 10) 0 ≡ b → (0 < n / 10 → n / 10 < 10 ^ k → is_normal (stripped k m (n / 10) (e +ℤ pos 1)) ≡ true) → is_normal (if b then stripped k m (n / 10) (e +ℤ pos 1) else literal true m n e) ≡ true
    go true g f = let t = tenth (zero_is g) in f t.0 t.1
    go false g f = rw (more, g) refl

pub worth_normal : WorthIsNormal
unfolding worth value_of
worth_normal w = go (nat_eq r.digits 0) refl r.real
  where
    r : Reading
    r = reading_of w

    go : (z : Bool) → nat_eq r.digits 0 ≡ z → (b : Bool) → is_normal (by_tests z b r) ≡ true
    go true h b = refl
    go false h true = stripped_normal r.digits r.digits r.negative (exponent_of r) (grind (arith, nat_tests)) (above_power r.digits)
    go false h false = rw h refl

stripped_below : (k n : ℕ) (m : Bool) (e : ℤ) → (stripped k m n e).digits ≤ n
stripped_below zero n m e = omega arith
stripped_below (suc k) n m e = go (nat_eq (n % 10) 0) (stripped_below k (n / 10) m (e +ℤ pos 1))
  where
    go : (b : Bool) → (stripped k m (n / 10) (e +ℤ pos 1)).digits ≤ n / 10 → (if b then stripped k m (n / 10) (e +ℤ pos 1) else literal true m n e).digits ≤ n
    go true h = omega (arith, h)
    go false h = omega arith

pub worth_within : WorthIsWithin
unfolding worth value_of is_beyond
worth_within w h =
    let p = or_parts (nat_le (10 ^ 38) (reading_of w).digits) (nat_lt 400 (nat_abs (worth w).exponent)) h in
    let short : (reading_of w).digits < 10 ^ 38 = (let e = p.0 in grind (arith, nat_tests)) in
    let near : nat_abs (worth w).exponent ≤ 400 = (let e = p.1 in grind (arith, nat_tests)) in
    let less = below (nat_eq (reading_of w).digits 0) (reading_of w).real (reading_of w) in
    (omega (arith, short, less), near)
  where
    below : (z b : Bool) (r : Reading) → (by_tests z b r).digits ≤ r.digits
    below true b r = omega arith
    below false true r = stripped_below r.digits r.digits r.negative (exponent_of r)
    below false false r = omega arith
