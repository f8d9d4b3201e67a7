-- The digits of a number, and the text of a real by its exponent.
use Rattle.std.proofs.Common.{◌≡◌, ℕ, zero, suc, ◌+◌, ◌-◌, ◌*◌, ◌/◌, ◌%◌, ◌^◌, ◌<◌, ◌≤◌, Bool, true, false, cond, nat_lt, List, [], ◌∷◌, ◌++◌, length, refl, sym, ap, ◌∙◌, append_assoc, arith, length-append}
use Rattle.std.specs.Prelude.{codes, ℤ, pos, negsuc, decimal, ◌<ℤ◌, unsigned_abs}
use Rattle.std.specs.Char.{digit_value}
use Rattle.std.specs.Str.Parse.{AllDigits, digits_value, digits_value_after}
use Rattle.std.proofs.Math.Nat.{pow-suc}
use Rattle.std.proofs.lemmas.Bool.Decides.{nat_tests}
use Rattle.std.proofs.lemmas.Int.{ints}
use Rattle.std.proofs.lemmas.Int.Digits.{digits_push}
use Rattle.std.proofs.lemmas.Fmt.{decimal_step_wide, decimal_digit}
use Rattle.frac_core.specs.Numeral.{HasNoLeadingZero}
use Rattle.frac_core.specs.Text.{digits_of, digits, padded, real_text}

pub positive_power : (k : ℕ) → 0 < 10 ^ k
positive_power zero = omega arith
positive_power (suc k) = let h = positive_power k in let e = pow-suc 10 k in omega arith

-- ---- digits

pub above_power : (n : ℕ) → n < 10 ^ n
above_power zero = omega arith
above_power (suc n) = let h = above_power n in let e = pow-suc 10 n in omega arith

pub above : (n : ℕ) → n < 10 ^ suc n
above n = let h = above_power n in let e = pow-suc 10 n in omega arith

digits_of_decimal : (k n : ℕ) → n < 10 ^ k → 0 < k → n < 10 ^ 64 → digits_of k n ≡ decimal n
digits_of_decimal zero n h p l = absurd (omega arith)
digits_of_decimal (suc k) n h p l = go (digits_of_decimal k (n / 10)) (nat_lt n 10) refl
  where
    some : (k m : ℕ) → m < 10 ^ k → 0 < m → 0 < k
    some zero m r l = omega arith
    some (suc k) m r l = omega arith

    go : (n / 10 < 10 ^ k → 0 < k → n / 10 < 10 ^ 64 → digits_of k (n / 10) ≡ decimal (n / 10)) → (t : Bool) → nat_lt n 10 ≡ t → cond t ((48 + n) ∷ []) (digits_of k (n / 10) ++ (48 + n % 10) ∷ []) ≡ decimal n
    go f true e = sym (decimal_digit n (grind (arith, nat_tests)))
    go f false e =
        let m : 10 ≤ n = grind (arith, nat_tests) in
        let q : 10 ^ suc k ≡ 10 ^ k * 10 = pow-suc 10 k in
        let r : n / 10 < 10 ^ k = omega arith in
        ap (λ (u : List ℕ). u ++ (48 + n % 10) ∷ []) (f r (some k (n / 10) r (omega arith)) (omega arith)) ∙ sym (decimal_step_wide n m l)

-- as std writes a number
pub digits_decimal : (n : ℕ) → n < 2 ^ 128 → digits n ≡ decimal n
unfolding digits
digits_decimal n h = digits_of_decimal (suc n) n (above n) (omega arith) (omega arith)

pub digit_of : (n : ℕ) → n < 10 → digit_value (48 + n) ≡ n
digit_of n h = grind (arith, nat_tests)

pub last_digit : (n : ℕ) → digit_value (48 + n % 10) ≡ n % 10
last_digit n = digit_of (n % 10) (omega arith)

pub value_push : (a : ℕ) (xs : List ℕ) (c : ℕ) → digits_value_after 10 a (xs ++ c ∷ []) ≡ digits_value_after 10 a xs * 10 + digit_value c
value_push a [] c = refl
value_push a (x ∷ xs) c = value_push (a * 10 + digit_value x) xs c

-- These are digits of a number.
pub record AreDigits (ds : List ℕ) (n : ℕ) : Type 0 where
  pub some : 0 < length ds
  pub all : AllDigits 10 ds
  pub value : digits_value 10 ds ≡ n
  pub first : 0 < n → (c : ℕ) (cs : List ℕ) → ds ≡ c ∷ cs → c ≡ 48 → ⊥

first_push : (xs : List ℕ) (d : ℕ) → 0 < length xs → ((c : ℕ) (cs : List ℕ) → xs ≡ c ∷ cs → c ≡ 48 → ⊥) → (c : ℕ) (cs : List ℕ) → xs ++ d ∷ [] ≡ c ∷ cs → c ≡ 48 → ⊥
first_push [] d l f c cs e z = absurd (omega arith)
first_push (x ∷ xs) d l f c cs e z = let i : c ≡ x = cc in f x xs refl (sym i ∙ z)

first_one : (n : ℕ) → 0 < n → (c : ℕ) (cs : List ℕ) → (48 + n) ∷ [] ≡ c ∷ cs → c ≡ 48 → ⊥
first_one n l c cs e z = let i : 48 + n ≡ c = cc in omega (arith, i, z, l)

digits_of_digits : (k n : ℕ) → n < 10 ^ k → 0 < k → AreDigits (digits_of k n) n
digits_of_digits zero n h p = absurd (omega arith)
digits_of_digits (suc k) n h p = go (digits_of_digits k (n / 10)) (nat_lt n 10) refl
  where
    some : (k m : ℕ) → m < 10 ^ k → 0 < m → 0 < k
    some zero m r l = omega arith
    some (suc k) m r l = omega arith

    go : (n / 10 < 10 ^ k → 0 < k → AreDigits (digits_of k (n / 10)) (n / 10)) → (t : Bool) → nat_lt n 10 ≡ t → AreDigits (cond t ((48 + n) ∷ []) (digits_of k (n / 10) ++ (48 + n % 10) ∷ [])) n
    go f true e =
        let l : n < 10 = grind (arith, nat_tests) in
        let v = digit_of n l in
        record { some = omega arith; all = (omega arith, tt); value = omega arith; first = first_one n }
    go f false e =
        let m : 10 ≤ n = grind (arith, nat_tests) in
        let q : 10 ^ suc k ≡ 10 ^ k * 10 = pow-suc 10 k in
        let r : n / 10 < 10 ^ k = omega arith in
        let d = f r (some k (n / 10) r (omega arith)) in
        let v = last_digit n in
        record {
          some = (let a = length-append (digits_of k (n / 10)) ((48 + n % 10) ∷ []) in omega arith);
          all = digits_push 10 (digits_of k (n / 10)) (48 + n % 10) d.all (omega arith);
          value = value_push 0 (digits_of k (n / 10)) (48 + n % 10) ∙ ap (λ (u : ℕ). u * 10 + digit_value (48 + n % 10)) d.value ∙ omega arith;
          first = λ q. first_push (digits_of k (n / 10)) (48 + n % 10) d.some (d.first (omega arith));
        }

pub digits_are : (n : ℕ) → AreDigits (digits n) n
unfolding digits
digits_are n = digits_of_digits (suc n) n (above n) (omega arith)

pub no_leading : (n : ℕ) → HasNoLeadingZero (digits n)
unfolding digits
no_leading zero = λ e. refl
no_leading (suc n) = go (digits (suc n)) refl
  where
    go : (ds : List ℕ) → digits (suc n) ≡ ds → HasNoLeadingZero ds
    go [] e = tt
    go (c ∷ cs) e = λ z. absurd ((digits_are (suc n)).first (omega arith) c cs e z)

-- ---- reals, by the exponent's sign and size

pub text_zero : (n : ℕ) (z : ℤ) → z ≡ pos 0 → real_text n z ≡ digits n ++ codes ".0"
text_zero n z e = ap (real_text n) e

pub text_high : (n : ℕ) (z : ℤ) → pos 0 <ℤ z → real_text n z ≡ digits n ++ (codes "e" ++ digits (unsigned_abs z))
text_high n (pos zero) h = absurd (omega (arith, ints))
text_high n (pos (suc p)) h = refl
text_high n (negsuc m) h = absurd (omega (arith, ints))

pub text_point : (n : ℕ) (z : ℤ) → z <ℤ pos 0 → unsigned_abs z ≤ 20 → real_text n z ≡ digits (n / 10 ^ unsigned_abs z) ++ (codes "." ++ padded (unsigned_abs z) (n % 10 ^ unsigned_abs z))
text_point n (pos p) h l = absurd (omega (arith, ints))
text_point n (negsuc m) h l =
    let e : nat_lt m 20 ≡ true = grind (arith, nat_tests) in
    ap (λ (t : Bool). cond t (digits (n / 10 ^ suc m) ++ (codes "." ++ padded (suc m) (n % 10 ^ suc m))) (digits n ++ (codes "e-" ++ digits (suc m)))) e

pub text_low : (n : ℕ) (z : ℤ) → z <ℤ pos 0 → 20 < unsigned_abs z → real_text n z ≡ digits n ++ (codes "e-" ++ digits (unsigned_abs z))
text_low n (pos p) h l = absurd (omega (arith, ints))
text_low n (negsuc m) h l =
    let e : nat_lt m 20 ≡ false = grind (arith, nat_tests) in
    ap (λ (t : Bool). cond t (digits (n / 10 ^ suc m) ++ (codes "." ++ padded (suc m) (n % 10 ^ suc m))) (digits n ++ (codes "e-" ++ digits (suc m)))) e

pub padded_step : (k n : ℕ) (o : List ℕ) → (k ≡ 0 → ⊥) → (o ++ padded (k - 1) (n / 10)) ++ (48 + n % 10) ∷ [] ≡ o ++ padded k n
padded_step zero n o h = absurd (h refl)
padded_step (suc k) n o h = let e : suc k - 1 ≡ k = omega arith in rw (e, append_assoc) refl
