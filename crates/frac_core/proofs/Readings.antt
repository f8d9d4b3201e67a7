-- What is read of a literal, byte by byte, and of a numeral, part by part.
use Rattle.std.proofs.Common.{◌≡◌, ℕ, suc, ◌+◌, ◌*◌, ◌^◌, ◌≤◌, ◌<◌, Bool, true, false, cond, List, [], ◌∷◌, ◌++◌, length, refl, sym, ap, ap₂, subst, ◌∙◌, arith, min, inl, inr, append-nil}
use Rattle.std.specs.Prelude.{◌⊎◌, ◌||◌, ◌==◌, is_some, Option, Some, None}
use Rattle.std.specs.Char.{is_ascii_digit, digit_value}
use Rattle.std.specs.Str.Parse.{AllDigits, digits_value, digits_value_after}
use Rattle.std.proofs.lemmas.Bool.Decides.{nat_tests}
use Rattle.frac_core.specs.declared.numeral.Reading.{Reading}
use Rattle.frac_core.specs.declared.numeral.Section.{Section}
use Rattle.frac_core.specs.declared.numeral.Section.TheVariants.{Whole, Part, Power}
use Rattle.frac_core.specs.Numeral.{Exponent, sign_text, exponent_text, part_text, IsSign, IsExponent, IsPart, is_mark, behind, section_after, made, nothing_read, with_digit, with_minus, with_byte, reading, reading_of, capped, has_minus, exponent_minus, exponent_value, numeral_reading, NumeralIsRead}

-- ---- the cap

cap_twice : (n : ℕ) → min (min n (10 ^ 38)) (10 ^ 38) ≡ min n (10 ^ 38)
cap_twice n = omega arith

cap_push : (n d : ℕ) → min (min n (10 ^ 38) * 10 + d) (10 ^ 38) ≡ min (n * 10 + d) (10 ^ 38)
cap_push n d = omega arith

both : (real negative : Bool) (a b p : ℕ) (less : Bool) (c d : ℕ) → a ≡ b → c ≡ d → made real negative a p less c ≡ made real negative b p less d
both real negative a b p less c d e f = ap₂ (λ n q. made real negative n p less q) e f

capped_twice : (r : Reading) → capped (capped r) ≡ capped r
capped_twice r = both _ _ _ _ _ _ _ _ (cap_twice r.digits) (cap_twice r.power)

capped_digit : (s : Section) (d : ℕ) (r : Reading) → capped (with_digit s d (capped r)) ≡ capped (with_digit s d r)
capped_digit Whole d r = both _ _ _ _ _ _ _ _ (cap_push r.digits d) (cap_twice r.power)
capped_digit Part d r = both _ _ _ _ _ _ _ _ (cap_push r.digits d) (cap_twice r.power)
capped_digit Power d r = both _ _ _ _ _ _ _ _ (cap_twice r.digits) (cap_push r.power d)

capped_minus : (s : Section) (r : Reading) → capped (with_minus s (capped r)) ≡ capped (with_minus s r)
capped_minus Whole r = both _ _ _ _ _ _ _ _ (cap_twice r.digits) (cap_twice r.power)
capped_minus Part r = both _ _ _ _ _ _ _ _ (cap_twice r.digits) (cap_twice r.power)
capped_minus Power r = both _ _ _ _ _ _ _ _ (cap_twice r.digits) (cap_twice r.power)

abbrev by_tests : (t u v : Bool) → Section → ℕ → Reading → Reading
by_tests t u v s b r = cond t (with_digit s (digit_value b) r) (cond u (made true r.negative r.digits r.places r.less r.power) (cond v (with_minus s r) r))

-- The cap does not change what the next byte does under it.
capped_byte : (s : Section) (b : ℕ) (r : Reading) → capped (with_byte s b (capped r)) ≡ capped (with_byte s b r)
capped_byte s b r = go (is_ascii_digit b) (b == 46 || is_mark b) (b == 45)
  where
    go : (t u v : Bool) → capped (by_tests t u v s b (capped r)) ≡ capped (by_tests t u v s b r)
    go true u v = capped_digit s (digit_value b) r
    go false true v = both _ _ _ _ _ _ _ _ (cap_twice r.digits) (cap_twice r.power)
    go false false true = capped_minus s r
    go false false false = capped_twice r

places_digit : (s : Section) (d : ℕ) (r : Reading) → (with_digit s d r).places ≤ r.places + 1
places_digit Whole d r = omega arith
places_digit Part d r = omega arith
places_digit Power d r = omega arith

places_minus : (s : Section) (r : Reading) → (with_minus s r).places ≤ r.places + 1
places_minus Whole r = omega arith
places_minus Part r = omega arith
places_minus Power r = omega arith

places_byte : (s : Section) (b : ℕ) (r : Reading) → (with_byte s b r).places ≤ r.places + 1
places_byte s b r = go (is_ascii_digit b) (b == 46 || is_mark b) (b == 45)
  where
    go : (t u v : Bool) → (by_tests t u v s b r).places ≤ r.places + 1
    go true u v = places_digit s (digit_value b) r
    go false true v = omega arith
    go false false true = places_minus s r
    go false false false = omega arith

-- ---- a byte more

section_push : (s : Section) (w : List ℕ) (b : ℕ) → section_after s (w ++ b ∷ []) ≡ behind (section_after s w) b
section_push s [] b = refl
section_push s (c ∷ w) b = section_push (behind s c) w b

reading_push : (s : Section) (r : Reading) (w : List ℕ) (b : ℕ) → reading s r (w ++ b ∷ []) ≡ with_byte (section_after s w) b (reading s r w)
reading_push s r [] b = refl
reading_push s r (c ∷ w) b = reading_push (behind s c) (with_byte s c r) w b

-- A reading has as many digits behind its point as bytes at most.
places_reading : (s : Section) (r : Reading) (w : List ℕ) → (reading s r w).places ≤ r.places + length w
places_reading s r [] = omega arith
places_reading s r (b ∷ w) =
    let h = places_reading (behind s b) (with_byte s b r) w in
    let k = places_byte s b r in
    omega (arith, h, k)

-- What was read of a text keeps the bounds of its parts.
pub record IsHeld (text : List ℕ) (r : Reading) : Type 0 where
  pub digits : r.digits ≤ 10 ^ 38
  pub places : r.places ≤ length text
  pub power : r.power ≤ 10 ^ 38

pub held : (text : List ℕ) (r : Reading) → r ≡ capped (reading_of text) → IsHeld text r
held text r e = record {
  digits = let a : r.digits ≡ min (reading_of text).digits (10 ^ 38) = ap (λ (x : Reading). x.digits) e in omega (arith, a);
  places =
      let a : r.places ≡ (reading_of text).places = ap (λ (x : Reading). x.places) e in
      let b = places_reading Whole nothing_read text in
      omega (arith, a, b);
  power = let a : r.power ≡ min (reading_of text).power (10 ^ 38) = ap (λ (x : Reading). x.power) e in omega (arith, a);
}

pub section_more : (text : List ℕ) (b : ℕ) (s t : Section) → s ≡ section_after Whole text → t ≡ behind s b → t ≡ section_after Whole (text ++ b ∷ [])
section_more text b s t e f = f ∙ ap (λ (u : Section). behind u b) e ∙ sym (section_push Whole text b)

pub reading_more : (text : List ℕ) (b : ℕ) (s : Section) (r q : Reading) → s ≡ section_after Whole text → r ≡ capped (reading_of text) → q ≡ capped (with_byte s b r) → q ≡ capped (reading_of (text ++ b ∷ []))
reading_more text b s r q e f g =
    g ∙ ap (λ (x : Reading). capped (with_byte s b x)) f ∙ capped_byte s b (reading_of text)
    ∙ ap (λ (u : Section). capped (with_byte u b (reading_of text))) e ∙ ap capped (sym (reading_push Whole nothing_read text b))

-- ---- numerals

pub digit_is : (c : ℕ) → digit_value c < 10 → is_ascii_digit c ≡ true
digit_is c h = grind (arith, nat_tests)

digit_not : (c : ℕ) → digit_value c < 10 → (c == 46 ≡ false) × (is_mark c ≡ false)
digit_not c h = (grind (arith, nat_tests), grind (arith, nat_tests))

one_digit : (s : Section) (c : ℕ) (rest : List ℕ) (r : Reading) → digit_value c < 10 → reading s r (c ∷ rest) ≡ reading s (with_digit s (digit_value c) r) rest
one_digit s c rest r h =
    let n = digit_not c h in
    ap (λ (u : Section). reading u (with_byte s c r) rest) (rw (n.0, n.1) refl) ∙ ap (λ (q : Reading). reading s q rest) (rw (digit_is c h) refl)

-- what a block of digits does to a reading
whole_block : (ds rest : List ℕ) (m : Bool) (n : ℕ) → AllDigits 10 ds → reading Whole (made false m n 0 false 0) (ds ++ rest) ≡ reading Whole (made false m (digits_value_after 10 n ds) 0 false 0) rest
whole_block [] rest m n h = refl
whole_block (c ∷ ds) rest m n h = one_digit Whole c (ds ++ rest) _ h.0 ∙ whole_block ds rest m (n * 10 + digit_value c) h.1

part_block : (ds rest : List ℕ) (m : Bool) (n p : ℕ) → AllDigits 10 ds → reading Part (made true m n p false 0) (ds ++ rest) ≡ reading Part (made true m (digits_value_after 10 n ds) (p + length ds) false 0) rest
part_block [] rest m n p h = let e : p ≡ p + 0 = omega arith in ap (λ (k : ℕ). reading Part (made true m n k false 0) rest) e
part_block (c ∷ ds) rest m n p h =
    let e : p + 1 + length ds ≡ p + suc (length ds) = omega arith in
    one_digit Part c (ds ++ rest) _ h.0 ∙ part_block ds rest m (n * 10 + digit_value c) (p + 1) h.1
    ∙ ap (λ (k : ℕ). reading Part (made true m (digits_value_after 10 n (c ∷ ds)) k false 0) rest) e

power_block : (ds : List ℕ) (m : Bool) (n p : ℕ) (l : Bool) (q : ℕ) → AllDigits 10 ds → reading Power (made true m n p l q) ds ≡ made true m n p l (digits_value_after 10 q ds)
power_block [] m n p l q h = refl
power_block (c ∷ ds) m n p l q h = one_digit Power c ds _ h.0 ∙ power_block ds m n p l (q * 10 + digit_value c) h.1

signed_block : (s : Option ℕ) (ds : List ℕ) (m : Bool) (n p : ℕ) → IsSign s → AllDigits 10 ds → reading Power (made true m n p false 0) (sign_text s ++ ds) ≡ made true m n p (has_minus s) (digits_value 10 ds)
signed_block None ds m n p h k = power_block ds m n p false 0 k
signed_block (Some s) ds m n p (inl e) k = let F : ℕ → Type 0 = λ c. reading Power (made true m n p false 0) (c ∷ ds) ≡ made true m n p (c == 45) (digits_value 10 ds) in subst F (sym e) (power_block ds m n p false 0 k)
signed_block (Some s) ds m n p (inr e) k = let F : ℕ → Type 0 = λ c. reading Power (made true m n p false 0) (c ∷ ds) ≡ made true m n p (c == 45) (digits_value 10 ds) in subst F (sym e) (power_block ds m n p true 0 k)

one_mark : (s : Section) (c : ℕ) (rest : List ℕ) (b m : Bool) (n p : ℕ) → (c ≡ 101) ⊎ (c ≡ 69) → reading s (made b m n p false 0) (c ∷ rest) ≡ reading Power (made true m n p false 0) rest
one_mark s c rest b m n p (inl e) = ap (λ (u : ℕ). reading s (made b m n p false 0) (u ∷ rest)) e
one_mark s c rest b m n p (inr e) = ap (λ (u : ℕ). reading s (made b m n p false 0) (u ∷ rest)) e

exponent_block : (s : Section) (e : Option Exponent) (b m : Bool) (n p : ℕ) → IsExponent e → reading s (made b m n p false 0) (exponent_text e) ≡ made (b || is_some e) m n p (exponent_minus e) (exponent_value e)
exponent_block s None true m n p h = refl
exponent_block s None false m n p h = refl
exponent_block s (Some e) true m n p h = one_mark s e.mark (sign_text e.sign ++ e.digits) true m n p h.0 ∙ signed_block e.sign e.digits m n p h.1 h.2.1
exponent_block s (Some e) false m n p h = one_mark s e.mark (sign_text e.sign ++ e.digits) false m n p h.0 ∙ signed_block e.sign e.digits m n p h.1 h.2.1

pub digits_after : (n : ℕ) (a b : List ℕ) → digits_value_after 10 n (a ++ b) ≡ digits_value_after 10 (digits_value_after 10 n a) b
digits_after n [] b = refl
digits_after n (c ∷ a) b = digits_after (n * 10 + digit_value c) a b

unsigned_block : (m : Bool) (w : List ℕ) (part : Option (List ℕ)) (e : Option Exponent) → AllDigits 10 w → IsPart part → IsExponent e →
    reading Whole (made false m 0 0 false 0) (w ++ (part_text part ++ exponent_text e)) ≡ numeral_reading m (record { whole = w; part = part; exponent = e })
unsigned_block m w None e h k l =
    whole_block w (exponent_text e) m 0 h ∙ exponent_block Whole e false m (digits_value 10 w) 0 l
    ∙ ap (λ (ds : List ℕ). made (is_some e) m (digits_value 10 ds) 0 (exponent_minus e) (exponent_value e)) (sym (append-nil w))
unsigned_block m w (Some ds) e h k l =
    whole_block w (46 ∷ (ds ++ exponent_text e)) m 0 h ∙ part_block ds (exponent_text e) m (digits_value 10 w) 0 k.1
    ∙ ap (λ (p : ℕ). reading Part (made true m (digits_value_after 10 (digits_value 10 w) ds) p false 0) (exponent_text e)) none
    ∙ exponent_block Part e true m (digits_value_after 10 (digits_value 10 w) ds) (length ds) l
    ∙ ap (λ (n : ℕ). made true m n (length ds) (exponent_minus e) (exponent_value e)) (sym (digits_after 0 w ds))
  where
    none : 0 + length ds ≡ length ds
    none = omega arith

pub numeral_read : NumeralIsRead
numeral_read true n h = unsigned_block true n.whole n.part n.exponent h.whole h.part h.exponent
numeral_read false n h = unsigned_block false n.whole n.part n.exponent h.whole h.part h.exponent
