-- What stands before the first mark, or behind the last, and behind it.
use Rattle.std.proofs.Common.{◌≡◌, ◌⊎◌, ℕ, List, [], ◌∷◌, ◌++◌, ◌||◌, nat_eq, Bool, true, false, refl, sym, ap, ◌∙◌, inl, inr, arith, subst, ◌≤◌}
use Rattle.std.specs.List.{list_any}
use Rattle.std.specs.Str.Parse.{AllDigits, digits_value}
use Rattle.std.proofs.lemmas.Str.Parse.{tells_digits}
use Rattle.basics.specs.Numbers.{nat_eq-self}
use Rattle.basics.specs.Booleans.{first_false, second_false}
use Rattle.row_check.specs.Texts.{IsNumber, IsNumberBefore}

module _ (m : ℕ) where
  mark_at_front : (b : ℕ) (bs : List ℕ) → list_any (nat_eq m) (b ∷ bs) ≡ false → m ≡ b → ⊥
  mark_at_front b bs h e = let f = first_false (nat_eq m b) (list_any (nat_eq m) bs) h in let g : nat_eq m b ≡ true = ap (nat_eq m) (sym e) ∙ nat_eq-self m in cc

  pub front_same : (a b c d : List ℕ) → list_any (nat_eq m) a ≡ false → list_any (nat_eq m) b ≡ false → a ++ m ∷ c ≡ b ++ m ∷ d → (a ≡ b) × (c ≡ d)
  front_same [] [] c d h k e = (refl, cc)
  front_same [] (y ∷ b) c d h k e = absurd (mark_at_front y b k (let f : m ≡ y = cc in f))
  front_same (x ∷ a) [] c d h k e = absurd (mark_at_front x a h (let f : m ≡ x = cc in sym (sym f)))
  front_same (x ∷ a) (y ∷ b) c d h k e =
      let r = front_same a b c d (second_false (nat_eq m x) (list_any (nat_eq m) a) h) (second_false (nat_eq m y) (list_any (nat_eq m) b) k) (let f : a ++ m ∷ c ≡ b ++ m ∷ d = cc in f) in
      (let q = r.0 in let f : x ≡ y = cc in cc, r.1)

  pub lacks_mark : (a b c : List ℕ) → list_any (nat_eq m) a ≡ false → a ≡ b ++ m ∷ c → ⊥
  lacks_mark a b c h e = let f = sym h ∙ ap (list_any (nat_eq m)) e ∙ has b in cc
    where
      has : (b : List ℕ) → list_any (nat_eq m) (b ++ m ∷ c) ≡ true
      has [] = ap (λ z. z || list_any (nat_eq m) c) (nat_eq-self m)
      has (x ∷ b) = ap (λ z. nat_eq m x || z) (has b) ∙ or_true (nat_eq m x)
        where
          or_true : (b : Bool) → (b || true) ≡ true
          or_true true = refl
          or_true false = refl

  pub last_same : (a b c d : List ℕ) → list_any (nat_eq m) c ≡ false → list_any (nat_eq m) d ≡ false → a ++ m ∷ c ≡ b ++ m ∷ d → (a ≡ b) × (c ≡ d)
  last_same [] [] c d h k e = (refl, cc)
  last_same [] (y ∷ b) c d h k e = absurd (lacks_mark c b d h cc)
  last_same (x ∷ a) [] c d h k e = absurd (lacks_mark d a c k (let f : a ++ m ∷ c ≡ d = cc in sym f))
  last_same (x ∷ a) (y ∷ b) c d h k e =
      let r = last_same a b c d h k cc in
      (let q = r.0 in let f : x ≡ y = cc in cc, r.1)

no_digit : (m b : ℕ) → (m ≡ 32) ⊎ (m ≡ 58) → 48 ≤ b → b ≤ 57 → nat_eq m b ≡ false
no_digit m b (inl e) h k = grind arith
no_digit m b (inr e) h k = grind arith

digits_lack : (m : ℕ) (text : List ℕ) → (m ≡ 32) ⊎ (m ≡ 58) → AllDigits 10 text → list_any (nat_eq m) text ≡ false
digits_lack m [] c h = refl
digits_lack m (b ∷ text) c h =
    let k = (tells_digits.parts b text h).0 in
    ap (λ x. x || list_any (nat_eq m) text) (no_digit m b c k.0 k.1) ∙ digits_lack m text c h.1

-- a number holds no space and no colon
pub number_apart : (text : List ℕ) (n : ℕ) → IsNumber text n → list_any (nat_eq 32) text ≡ false
number_apart text n h = digits_lack 32 text (inl refl) h.digits.1

pub number_no_colon : (text : List ℕ) (n : ℕ) → IsNumber text n → list_any (nat_eq 58) text ≡ false
number_no_colon text n h = digits_lack 58 text (inr refl) h.digits.1

pub number_once : (a b : List ℕ) (n m : ℕ) → a ≡ b → IsNumber a n → IsNumber b m → n ≡ m
number_once a b n m e h k = sym h.worth ∙ ap (digits_value 10) e ∙ k.worth

-- where what stands before the first space is no number
pub none_before : (text number rest : List ℕ) → text ≡ number ++ 32 ∷ rest → list_any (nat_eq 32) number ≡ false → ((n : ℕ) → ¬ IsNumber number n) → (n : ℕ) (after : List ℕ) → ¬ IsNumberBefore text n after
none_before text number rest e l h n after k =
    let f = front_same 32 k.number number after rest (number_apart k.number n k.is) l (sym k.parts ∙ e) in
    h n (subst (λ t. IsNumber t n) f.0 k.is)

-- and there is one such number
pub before_once : (text : List ℕ) (n m : ℕ) (a b : List ℕ) → IsNumberBefore text n a → IsNumberBefore text m b → (n ≡ m) × (a ≡ b)
before_once text n m a b h k =
    let f = front_same 32 h.number k.number a b (number_apart h.number n h.is) (number_apart k.number m k.is) (sym h.parts ∙ k.parts) in
    (number_once h.number k.number n m f.0 h.is k.is, f.1)
