-- What is printed is read: the text of a value spells it, and that of a state.
use Rattle.std.proofs.Common.{◌≡◌, ℕ, suc, ◌^◌, ◌<◌, ◌≤◌, ◌||◌, ◌&&◌, not, nat_eq, nat_lt, nat_le, nat_abs, Bool, true, false, [], ◌∷◌, ◌++◌, map, codes, decimal, None, ℤ, pos, negsuc, ◌*ℤ◌, refl, sym, ap, ap₂, subst, ◌∙◌, arith, append-nil, append_assoc, eqb-true, ltb-true, lit≤, if◌then◌else◌}
use Rattle.std.specs.List.{list_any}
use Rattle.std.specs.Fmt.{signed_decimal}
use Rattle.std.specs.Str.Parse.{IsNumeral, digits_value}
use Rattle.std.proofs.lemmas.Bool.{lt-leb}
use Rattle.std.proofs.lemmas.Fmt.{decimal_is_IsNumeral}
use Rattle.basics.specs.Booleans.{first_false, second_false}
use Rattle.frac_core.specs.declared.decimal.Decimal.{Decimal}
use Rattle.frac_core.specs.declared.numeral.Reading.{Reading}
use Rattle.frac_core.specs.Decimal.{decimal_value, decimal_value-whole}
use Rattle.frac_core.specs.Fraction.{Fraction, fraction, whole, signed, is_wide, is_whole}
use Rattle.frac_core.specs.Laws.{den_pos, fraction_self, same_fraction}
use Rattle.frac_core.specs.Numeral as numerals
use Rattle.frac_core.specs.Numeral.{Numeral, made, numeral_text, reading_of, value_of, worth, is_beyond}
use Rattle.op_trees.specs.declared.tree.Value.{Value}
use Rattle.op_trees.specs.declared.tree.Value.TheVariants as V
use Rattle.prism_lex.specs.Numbers.{NumeralIsNumber, is_number}
use Rattle.process_core.specs.Ready.{Values}
use Rattle.process_texts.specs.Forms.{sign_text}
use Rattle.process_texts.specs.Given.{IsValue, IsLiteral, IsRatio, truth, literal, ratio, is_wide_value}
use Rattle.process_texts.specs.Laws.{AllWhole}
use Rattle.process_texts.specs.States as states
use Rattle.process_texts.specs.States.{IsItem, AreItems, SpellsState}
use Rattle.process_texts.specs.Texts.{value_text, state_text, fraction_text}
use Rattle.process_texts.proofs.Ratios.{size_of}

-- an integer by its sign and its size, as its text has them
record Split (z : ℤ) : Type 0 where
  minus : Bool
  size : ℕ
  text : signed_decimal z ≡ sign_text minus ++ decimal size
  value : signed minus size ≡ z

split : (z : ℤ) → Split z
split (pos k) = record { minus = false; size = k; text = refl; value = refl }
split (negsuc k) = record { minus = true; size = suc k; text = refl; value = refl }

-- the parts of a fraction within the bound
record Parts (x : Fraction) : Type 0 where
  num : (split x.num).size < 2 ^ 62
  den : x.den < 2 ^ 62

narrow_parts : (x : Fraction) → is_wide x ≡ false → Parts x
narrow_parts x h = by_tests (nat_lt (nat_abs x.num) (2 ^ 62)) (nat_lt x.den (2 ^ 62)) refl refl h
  where
    size : nat_abs x.num ≡ (split x.num).size
    size = let t = split x.num in ap nat_abs (sym t.value) ∙ size_of t.minus t.size

    by_tests : (a b : Bool) → nat_lt (nat_abs x.num) (2 ^ 62) ≡ a → nat_lt x.den (2 ^ 62) ≡ b → not (a && b) ≡ false → Parts x
    by_tests true true e f k = record { num = subst (λ n. n < 2 ^ 62) size (ltb-true _ _ e); den = ltb-true _ _ f }
    by_tests true false e f k = absurd cc
    by_tests false b e f k = absurd cc

below_limit : (n : ℕ) → n < 2 ^ 62 → nat_le (10 ^ 38) n ≡ false
below_limit n h = lt-leb (10 ^ 38) n (less n (2 ^ 62) (10 ^ 38) h (lit≤ tt))
  where
    less : (a b c : ℕ) → a < b → b ≤ c → a < c
    less a b c h k = omega arith

-- ---- numbers
value_int : (n : ℕ) → value_of (made false false n 0 false 0) ≡ numerals.literal false false n (pos 0)
unfolding value_of
value_int n = by_test (nat_eq n 0) refl
  where
    by_test : (b : Bool) → nat_eq n 0 ≡ b → (if b then numerals.literal false false 0 (pos 0) else numerals.literal false false n (pos 0)) ≡ numerals.literal false false n (pos 0)
    by_test true e = ap (λ k. numerals.literal false false k (pos 0)) (sym (eqb-true n 0 e))
    by_test false e = refl

module _ (read : NumeralIsNumber) (k : ℕ) (small : k < 2 ^ 62) where
  its_digits : IsNumeral 10 (decimal k) × (digits_value 10 (decimal k) ≡ k)
  its_digits = decimal_is_IsNumeral k (omega arith)

  its_reading : (is_number (decimal k) ≡ true) × (reading_of (decimal k) ≡ made false false k 0 false 0)
  its_reading =
      let n : Numeral = record { whole = decimal k; part = None; exponent = None } in
      let r = read n (its_digits.0, tt) in
      let e : numeral_text n ≡ decimal k = append-nil (decimal k) in
      let f : digits_value 10 (decimal k ++ []) ≡ k = ap (digits_value 10) (append-nil (decimal k)) ∙ its_digits.1 in
      (ap is_number (sym e) ∙ r.0, ap reading_of (sym e) ∙ r.1 ∙ ap (λ d. made false false d 0 false 0) f)

  its_worth : worth (decimal k) ≡ numerals.literal false false k (pos 0)
  unfolding worth
  its_worth = ap value_of its_reading.1 ∙ value_int k

  not_beyond : is_beyond (decimal k) ≡ false
  unfolding is_beyond
  not_beyond = ap₂ (λ a b. a || b) (ap (λ (r : Reading). nat_le (10 ^ 38) r.digits) its_reading.1 ∙ below_limit k small) (ap (λ (d : Decimal). nat_lt 400 (nat_abs d.exponent)) its_worth)

  its_literal : (m : Bool) → IsLiteral m (decimal k) (V.Number (whole (signed m k))) false
  its_literal m = record {
    number = its_reading.0;
    value = ap V.Number (sym (ap (λ (d : Decimal). decimal_value (record d { negative = m })) its_worth ∙ decimal_value-whole (numerals.literal false m k (pos 0)) refl));
    limit = sym not_beyond;
  }

its_ratio : (x : Fraction) → is_wide x ≡ false → IsRatio (split x.num).minus (decimal (split x.num).size) (decimal x.den) (V.Number x) false
its_ratio x h =
    let t = split x.num in
    let p = narrow_parts x h in
    let top : t.size < 2 ^ 62 = p.num in
    let below : x.den < 2 ^ 62 = p.den in
    let n = decimal_is_IsNumeral t.size (omega arith) in
    let d = decimal_is_IsNumeral x.den (omega arith) in
    record {
      top = n.0;
      below = d.0;
      nonzero = λ e. (let f : x.den ≡ 0 = sym d.1 ∙ e in let g = den_pos x in omega arith);
      value = ap V.Number (sym (ap₂ (λ a b. fraction (signed t.minus a) b) n.1 d.1 ∙ ap (λ z. fraction z x.den) t.value ∙ fraction_self x));
      limit = sym (ap₂ (λ a b. a || b) (ap (nat_le (10 ^ 38)) n.1 ∙ below_limit t.size top) (ap (nat_le (10 ^ 38)) d.1 ∙ below_limit x.den below));
    }

whole_is : (x : Fraction) → is_whole x ≡ true → x ≡ whole x.num
whole_is x h = same_fraction x (whole x.num) (let e = eqb-true x.den 1 h in ap (λ k. x.num *ℤ pos 1) e ∙ ap (λ k. x.num *ℤ pos k) (sym e))

-- ---- values and states
pub value_back : NumeralIsNumber → (v : Value) → is_wide_value v ≡ false → IsValue (value_text v) v false
value_back read (V.Truth b) h = truth b refl refl refl
value_back read (V.Number x) h = by_whole (is_whole x) refl
  where
    t : Split x.num
    t = split x.num

    by_whole : (b : Bool) → is_whole x ≡ b → IsValue (signed_decimal x.num ++ (if b then [] else codes "/" ++ decimal x.den)) (V.Number x) false
    by_whole true e =
        literal t.minus (decimal t.size) (append-nil (signed_decimal x.num) ∙ t.text)
        (subst (λ y. IsLiteral t.minus (decimal t.size) (V.Number y) false) (ap whole t.value ∙ sym (whole_is x e)) (its_literal read t.size (narrow_parts x h).num t.minus))
    by_whole false e =
        ratio t.minus (decimal t.size) (decimal x.den) (ap (λ l. l ++ (codes "/" ++ decimal x.den)) t.text ∙ append_assoc (sign_text t.minus) (decimal t.size) (codes "/" ++ decimal x.den)) (its_ratio x h)

decimal_item : (z : ℤ) → is_wide (whole z) ≡ false → IsItem (signed_decimal z) (V.Number (whole z))
decimal_item z h =
    let t = split z in
    let small : t.size < 2 ^ 62 = (narrow_parts (whole z) h).num in
    let d = decimal_is_IsNumeral t.size (omega arith) in
    states.number t.minus (decimal t.size) t.text d.0 (ap (λ m. V.Number (whole m)) (sym t.value ∙ ap (signed t.minus) (sym d.1)))

items_back : (vs : Values) → AllWhole vs → list_any is_wide_value vs ≡ false → AreItems (map value_text vs) vs
items_back [] h k = tt
items_back (V.Truth b ∷ vs) h k = (states.truth b refl refl, items_back vs h k)
items_back (V.Number x ∷ vs) h k =
    let e = whole_is x h.0 in
    let narrow = first_false (is_wide x) _ k in
    (subst (λ y. IsItem (fraction_text y) (V.Number y)) (sym e) (subst (λ l. IsItem l (V.Number (whole x.num))) (sym (append-nil (signed_decimal x.num))) (decimal_item x.num (ap is_wide (sym e) ∙ narrow))), items_back vs h.1 (second_false (is_wide x) _ k))

pub state_back : (vs : Values) → AllWhole vs → list_any is_wide_value vs ≡ false → SpellsState (state_text vs) vs
state_back vs h k = record { items = map value_text vs; text = refl; are = items_back vs h k }
