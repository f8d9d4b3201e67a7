-- The canonical text of a literal is that of a numeral, and is worth it.
use Rattle.std.proofs.Common.{◌≡◌, ◌≢◌, ℕ, zero, suc, ◌+◌, ◌*◌, ◌^◌, ◌/◌, ◌%◌, ◌<◌, Bool, true, false, cond, List, [], ◌∷◌, ◌++◌, length, refl, sym, ap, subst, ◌∙◌, arith, nat_lt, length-append, append-nil, inl, inr, nat_eq, mul_assoc}
use Rattle.std.specs.Prelude.{ℤ, pos, negsuc, ◌+ℤ◌, ◌-ℤ◌, codes, ◌&&◌, not, Option, Some, None}
use Rattle.std.specs.Ordering.{int_eq}
use Rattle.std.specs.Str.Parse.{AllDigits, digits_value, digits_value_after}
use Rattle.std.proofs.lemmas.Bool.Decides.{nat_tests, Decides-int_eq}
use Rattle.std.proofs.lemmas.Int.Digits.{digits_push}
use Rattle.std.proofs.lemmas.Int.{ints}
use Rattle.std.proofs.Math.Nat.{pow-suc, mod-lt, div-add-mod'}
use Rattle.frac_core.specs.Fraction.{signed}
use Rattle.frac_core.specs.declared.decimal.Decimal.{Decimal}
use Rattle.frac_core.specs.Decimal.{is_normal}
use Rattle.frac_core.specs.Numeral.{Exponent, Numeral, HasDigits, minus_text, numeral_text, numeral_reading, exponent_of, literal, value_of, worth}
use Rattle.frac_core.specs.Text.{digits, padded, real_text, number_text, IsTextOf, TextReadsBack}
use Rattle.frac_core.proofs.Digits.{AreDigits, digits_are, positive_power, value_push, last_digit, no_leading}
use Rattle.frac_core.proofs.Readings.{digits_after, numeral_read}
use Rattle.frac_core.proofs.Worth.{value_zero, value_int, value_real}

-- ---- digits to a width

padded_digits : (k n : ℕ) → AllDigits 10 (padded k n)
padded_digits zero n = tt
padded_digits (suc k) n = digits_push 10 (padded k (n / 10)) (48 + n % 10) (padded_digits k (n / 10)) (let e = last_digit n in omega arith)

padded_length : (k n : ℕ) → length (padded k n) ≡ k
padded_length zero n = refl
padded_length (suc k) n = let e = padded_length k (n / 10) in length-append (padded k (n / 10)) ((48 + n % 10) ∷ []) ∙ omega arith

shift : (a x n : ℕ) → (a * x + n / 10) * 10 + n % 10 ≡ a * (x * 10) + n
shift a x n = let e : a * (x * 10) ≡ a * x * 10 = sym (mul_assoc a x 10) in rw e (omega arith)

padded_value : (k n a : ℕ) → n < 10 ^ k → digits_value_after 10 a (padded k n) ≡ a * 10 ^ k + n
padded_value zero n a h = omega arith
padded_value (suc k) n a h =
    let p : 10 ^ suc k ≡ 10 ^ k * 10 = pow-suc 10 k in
    let l : n < 10 ^ k * 10 = rw (← p) h in
    let r = padded_value k (n / 10) a (omega arith) in
    value_push a (padded k (n / 10)) (48 + n % 10) ∙ rw (r, last_digit n, p) (shift a (10 ^ k) n)

-- ---- texts of numerals

abbrev numeral : ℕ → Option (List ℕ) → Option Exponent → Numeral
numeral n p e = record { whole = digits n; part = p; exponent = e }

abbrev exponent : Option ℕ → ℕ → Exponent
exponent s n = record { mark = 101; sign = s; digits = digits n }

-- the value of a numeral that begins with the digits of a number
text_of : (m : Bool) (k : ℕ) (p : Option (List ℕ)) (x : Option Exponent) (w : List ℕ) (d : Decimal) → w ≡ numeral_text (numeral k p x) → HasDigits (numeral k p x) → d.negative ≡ m → value_of (numeral_reading m (numeral k p x)) ≡ d → IsTextOf (minus_text m ++ w) d
unfolding worth
text_of m k p x w d e h n v =
    let F : List ℕ → Type 0 = λ u. IsTextOf (minus_text m ++ u) d in
    subst F (sym e) (record {
      numeral = numeral k p x;
      digits = h;
      some = (digits_are k).some;
      lead = no_leading k;
      text = ap (λ (b : Bool). minus_text b ++ numeral_text (numeral k p x)) (sym n);
      value = ap value_of (numeral_read m (numeral k p x) h) ∙ v;
    })

whole_value : (n : ℕ) → digits_value 10 (digits n ++ []) ≡ n
whole_value n = ap (digits_value 10) (append-nil (digits n)) ∙ (digits_are n).value

module _ (m : Bool) (n : ℕ) where
  int_text : n ≢ 0 → IsTextOf (minus_text m ++ digits n) (literal false m n (pos 0))
  int_text z =
      let v = whole_value n in
      text_of m n None None (digits n) (literal false m n (pos 0)) (sym (append-nil (digits n))) (record { whole = (digits_are n).all; part = tt; exponent = tt }) refl
      (value_int (numeral_reading m (numeral n None None)) (λ e. z (sym v ∙ e)) refl ∙ ap (λ (i : ℕ). literal false m i (pos 0)) v)

  module _ (last : n % 10 ≢ 0) where
    real_as : (k : ℕ) (p : Option (List ℕ)) (x : Option Exponent) (w : List ℕ) (z : ℤ) (zeros : ℕ) → w ≡ numeral_text (numeral k p x) → HasDigits (numeral k p x) → (numeral_reading m (numeral k p x)).real ≡ true
        → n * 10 ^ zeros ≡ (numeral_reading m (numeral k p x)).digits → exponent_of (numeral_reading m (numeral k p x)) +ℤ pos zeros ≡ z → IsTextOf (minus_text m ++ w) (literal true m n z)
    real_as k p x w z zeros e h real product i =
        text_of m k p x w (literal true m n z) e h refl (value_real (numeral_reading m (numeral k p x)) n zeros real product last ∙ ap (literal true m n) i)

    -- with .0
    zero_text : IsTextOf (minus_text m ++ (digits n ++ codes ".0")) (literal true m n (pos 0))
    zero_text =
        let i = digits_are n in
        let v : digits_value 10 (digits n ++ 48 ∷ []) ≡ n * 10 = value_push 0 (digits n) 48 ∙ (let a = i.value in omega arith) in
        real_as n (Some (48 ∷ [])) None _ (pos 0) 1 refl (record { whole = i.all; part = (omega arith, (omega arith, tt)); exponent = tt }) refl (let a = v in omega arith) refl

    -- with a positive exponent
    high_text : (p : ℕ) → IsTextOf (minus_text m ++ (digits n ++ (codes "e" ++ digits p))) (literal true m n (pos p))
    high_text p =
        let j = digits_are p in
        real_as n None (Some (exponent None p)) _ (pos p) 0 refl (record { whole = (digits_are n).all; part = tt; exponent = (inl refl, tt, (j.some, j.all)) }) refl
        (let a = whole_value n in omega arith) (high (digits_value 10 (digits p)) p j.value)
      where
        high : (q p : ℕ) → q ≡ p → (pos q -ℤ pos 0) +ℤ pos 0 ≡ pos p
        high q p e = omega (arith, ints)

    -- with a negative exponent
    low_text : (p : ℕ) → IsTextOf (minus_text m ++ (digits n ++ (codes "e-" ++ digits (suc p)))) (literal true m n (negsuc p))
    low_text p =
        let j = digits_are (suc p) in
        real_as n None (Some (exponent (Some 45) (suc p))) _ (negsuc p) 0 refl (record { whole = (digits_are n).all; part = tt; exponent = (inl refl, inr refl, (j.some, j.all)) }) refl
        (let a = whole_value n in omega arith) (low (digits_value 10 (digits (suc p))) j.value)
      where
        low : (q : ℕ) → q ≡ suc p → (signed true q -ℤ pos 0) +ℤ pos 0 ≡ negsuc p
        low q e = omega (arith, ints)

    -- in point form
    point_text : (p : ℕ) → IsTextOf (minus_text m ++ (digits (n / 10 ^ suc p) ++ (codes "." ++ padded (suc p) (n % 10 ^ suc p)))) (literal true m n (negsuc p))
    point_text p =
        real_as h (Some ds) None _ (negsuc p) 0 (ap (λ (u : List ℕ). digits h ++ (46 ∷ u)) (sym (append-nil ds)))
        (record { whole = i.all; part = (rw (padded_length k (n % 10 ^ k)) (omega arith), padded_digits k (n % 10 ^ k)); exponent = tt }) refl
        (whole (digits_value 10 (digits h)) _ i.value (digits_after 0 (digits h) ds ∙ padded_value k (n % 10 ^ k) (digits_value 10 (digits h)) (mod-lt n (positive_power k)))) (places (length ds) (padded_length k (n % 10 ^ k)))
      where
        k : ℕ
        k = suc p

        h : ℕ
        h = n / 10 ^ k

        ds : List ℕ
        ds = padded k (n % 10 ^ k)

        i : AreDigits (digits h) h
        i = digits_are h

        whole : (v t : ℕ) → v ≡ n / 10 ^ k → t ≡ v * 10 ^ k + n % 10 ^ k → n * 10 ^ 0 ≡ t
        whole v t a b =
            let c : n / 10 ^ k * 10 ^ k + n % 10 ^ k ≡ n = div-add-mod' n (10 ^ k) in
            let e : t ≡ n / 10 ^ k * 10 ^ k + n % 10 ^ k = rw a at b in
            omega (arith, e, c)

        places : (q : ℕ) → q ≡ suc p → (pos 0 -ℤ pos q) +ℤ pos 0 ≡ negsuc p
        places q e = omega (arith, ints)

    real_back : (e : ℤ) → IsTextOf (minus_text m ++ real_text n e) (literal true m n e)
    real_back (pos zero) = zero_text
    real_back (pos (suc p)) = high_text (suc p)
    real_back (negsuc p) = go (nat_lt p 20)
      where
        go : (t : Bool) → IsTextOf (minus_text m ++ cond t (digits (n / 10 ^ suc p) ++ (codes "." ++ padded (suc p) (n % 10 ^ suc p))) (digits n ++ (codes "e-" ++ digits (suc p)))) (literal true m n (negsuc p))
        go true = point_text p
        go false = low_text p

-- ---- each literal

zero_exponent : (z : ℤ) → int_eq z (pos 0) ≡ true → z ≡ pos 0
zero_exponent z h = (Decides-int_eq z (pos 0)).0 h

no_sign : (m : Bool) (e : ℤ) → (not m && int_eq e (pos 0)) ≡ true → (m ≡ false) × (e ≡ pos 0)
no_sign true e h = absurd cc
no_sign false e h = (refl, zero_exponent e h)

zeros : (r : Bool) → IsTextOf (number_text (literal r false 0 (pos 0))) (literal r false 0 (pos 0))
zeros true = text_of false 0 (Some (48 ∷ [])) None _ (literal true false 0 (pos 0)) refl (record { whole = (digits_are 0).all; part = (omega arith, (omega arith, tt)); exponent = tt }) refl
    (value_zero (numeral_reading false (numeral 0 (Some (48 ∷ [])) None)) (value_push 0 (digits 0) 48 ∙ (let a = (digits_are 0).value in omega arith)))
zeros false = text_of false 0 None None _ (literal false false 0 (pos 0)) (sym (append-nil (digits 0))) (record { whole = (digits_are 0).all; part = tt; exponent = tt }) refl (value_zero (numeral_reading false (numeral 0 None None)) (whole_value 0))

literals : (r m : Bool) (n : ℕ) (e : ℤ) → is_normal (literal r m n e) ≡ true → IsTextOf (number_text (literal r m n e)) (literal r m n e)
literals r m n e h = go r (nat_eq n 0) refl h
  where
    F : Bool → ℤ → ℕ → Type 0
    F s z i = IsTextOf (number_text (literal r s i z)) (literal r s i z)

    go : (r b : Bool) → nat_eq n 0 ≡ b → cond b (not m && int_eq e (pos 0)) (cond r (not (nat_eq (n % 10) 0)) (int_eq e (pos 0))) ≡ true → IsTextOf (number_text (literal r m n e)) (literal r m n e)
    go r true z k =
        let f = no_sign m e k in
        let none : n ≡ 0 = grind (arith, nat_tests) in
        rw (none, f.0, f.1) (zeros r)
    go true false z k = real_back m n (grind (arith, nat_tests)) e
    go false false z k = rw (zero_exponent e k) (int_text m n (grind (arith, nat_tests)))

pub text_back : TextReadsBack
text_back d h = literals d.real d.negative d.digits d.exponent h
