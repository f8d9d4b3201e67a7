-- Numbers as they are written, and as the automaton reads them.
use Rattle.std.proofs.Common.{◌^◌, ◌↔◌, mul_assoc, ◌≡◌, ℕ, suc, ◌+◌, ◌*◌, ◌≤◌, ◌<◌, Bool, true, false, cond, List, [], ◌∷◌, ◌++◌, length, Option, Some, None, refl, sym, ap, subst, ◌∙◌, arith, inl, inr, append-nil}
use Rattle.std.specs.Prelude.{nat_le, ◌⊎◌, ◌||◌, ◌==◌}
use Rattle.std.proofs.lemmas.Bool.Decides.{nat_tests}
use Rattle.std.proofs.Math.Nat.{pow-suc, pow-le-pow_right, mul_comm, mul-le-mul_right}
use Rattle.std.specs.Char.{digit_value}
use Rattle.std.specs.Str.Parse.{AllDigits, IsNumeral, digits_value, digits_value_after}
use Rattle.frac_core.specs.Numeral.{Exponent, Numeral, sign_text, exponent_text, part_text, numeral_text, IsSign, IsExponent, IsPart, HasDigits}
use Rattle.frac_core.proofs.Readings.{numeral_read}
use Rattle.prism_lex.specs.declared.automaton.State.{State}
use Rattle.prism_lex.specs.declared.automaton.State.TheVariants.{Start, Letters, Whole, Point, Part, Mark, Sign, Power, Quote, Dead}
use Rattle.prism_lex.specs.Automaton.{step, after, is_letter, is_digit}
use Rattle.prism_lex.specs.Numbers.{is_at_digit, IsMantissa, IsProper, NumeralIsNumber, NumberIsNumeral, significant, LimitIs38Digits}
use Rattle.prism_lex.proofs.Shapes.{dead, family, Within, family_after}

-- ---- from the numeral to the automaton

digit_is : (c : ℕ) → digit_value c < 10 → is_digit c ≡ true
digit_is c h = grind (arith, nat_tests)

not_letter : (c : ℕ) → digit_value c < 10 → is_letter c ≡ false
not_letter c h = grind (arith, nat_tests)

-- a digit leads from one state to the other
abbrev Leads : State → State → Type 0
Leads s t = (c : ℕ) → digit_value c < 10 → step s c ≡ t

on_digit : (c : ℕ) (x y : State) → digit_value c < 10 → cond (is_digit c) x y ≡ x
on_digit c x y h = ap (λ (b : Bool). cond b x y) (digit_is c h)

start_leads : Leads Start Whole
start_leads c h = rw (not_letter c h, digit_is c h) refl

-- where a block of digits leads
stays : (t : State) (ds rest : List ℕ) → Leads t t → AllDigits 10 ds → after t (ds ++ rest) ≡ after t rest
stays t [] rest f h = refl
stays t (c ∷ ds) rest f h = ap (λ (u : State). after u (ds ++ rest)) (f c h.0) ∙ stays t ds rest f h.1

leads : (s t : State) (ds rest : List ℕ) → Leads s t → Leads t t → IsNumeral 10 ds → after s (ds ++ rest) ≡ after t rest
leads s t [] rest f g h = absurd (omega (arith, h.0))
leads s t (c ∷ ds) rest f g h = ap (λ (u : State). after u (ds ++ rest)) (f c h.1.0) ∙ stays t ds rest g h.1.1

ends : (s : State) (ds : List ℕ) → Leads s Power → IsNumeral 10 ds → after s ds ≡ Power
ends s ds f h = ap (after s) (sym (append-nil ds)) ∙ leads s Power ds [] f (λ c k. on_digit c _ _ k) h

signed_ends : (s : Option ℕ) (ds : List ℕ) → IsSign s → IsNumeral 10 ds → after Mark (sign_text s ++ ds) ≡ Power
signed_ends None ds h k = ends Mark ds (λ c k. on_digit c _ _ k) k
signed_ends (Some s) ds h k = ap (λ (u : State). after u ds) (is_sign h) ∙ ends Sign ds (λ c k. on_digit c _ _ k) k
  where
    is_sign : (s ≡ 43) ⊎ (s ≡ 45) → step Mark s ≡ Sign
    is_sign (inl e) = ap (step Mark) e
    is_sign (inr e) = ap (step Mark) e

marked : (t : State) (m : ℕ) → (t ≡ Whole) ⊎ (t ≡ Part) → (m ≡ 101) ⊎ (m ≡ 69) → step t m ≡ Mark
marked t m (inl e) (inl f) = rw (e, f) refl
marked t m (inl e) (inr f) = rw (e, f) refl
marked t m (inr e) (inl f) = rw (e, f) refl
marked t m (inr e) (inr f) = rw (e, f) refl

exponent_ends : (t : State) (e : Option Exponent) → (t ≡ Whole) ⊎ (t ≡ Part) → IsExponent e → is_at_digit (after t (exponent_text e)) ≡ true
exponent_ends t None (inl h) k = ap is_at_digit h
exponent_ends t None (inr h) k = ap is_at_digit h
exponent_ends t (Some e) h k = ap (λ (u : State). is_at_digit (after u (sign_text e.sign ++ e.digits))) (marked t e.mark h k.0) ∙ ap is_at_digit (signed_ends e.sign e.digits k.1 k.2)

part_leads : (ds rest : List ℕ) → IsNumeral 10 ds → after Point (ds ++ rest) ≡ after Part rest
part_leads ds rest h = leads Point Part ds rest (λ c k. on_digit c _ _ k) (λ c k. on_digit c _ _ k) h

whole_leads : (ds rest : List ℕ) → IsNumeral 10 ds → after Start (ds ++ rest) ≡ after Whole rest
whole_leads ds rest h = leads Start Whole ds rest start_leads (λ c k. on_digit c _ _ k) h

is_number_text : (whole : List ℕ) (part : Option (List ℕ)) (e : Option Exponent) → IsMantissa whole part → IsExponent e → is_at_digit (after Start (whole ++ (part_text part ++ exponent_text e))) ≡ true
is_number_text whole None e h k = ap is_at_digit (whole_leads whole (exponent_text e) h) ∙ exponent_ends Whole e (inl refl) k
is_number_text [] (Some ds) e h k = ap is_at_digit (part_leads ds (exponent_text e) h.1) ∙ exponent_ends Part e (inr refl) k
is_number_text (c ∷ cs) (Some ds) e h k =
    ap is_at_digit (whole_leads (c ∷ cs) (46 ∷ (ds ++ exponent_text e)) (omega arith, h.0) ∙ part_leads ds (exponent_text e) h.1) ∙ exponent_ends Part e (inr refl) k

has_digits : (whole : List ℕ) (part : Option (List ℕ)) (e : Option Exponent) → IsMantissa whole part → IsExponent e → HasDigits (record { whole = whole; part = part; exponent = e })
has_digits whole None e h k = record { whole = h.1; part = tt; exponent = k }
has_digits whole (Some ds) e h k = record { whole = h.0; part = h.1; exponent = k }

pub numeral_number : NumeralIsNumber
numeral_number n h = (is_number_text n.whole n.part n.exponent h.0 h.1, numeral_read false n (has_digits n.whole n.part n.exponent h.0 h.1))

-- a numeral with digits before its point
pub proper_of : (n : Numeral) → HasDigits n → 0 < length n.whole → IsProper n
proper_of n h l = (pick n.part h.part, h.exponent)
  where
    pick : (p : Option (List ℕ)) → IsPart p → IsMantissa n.whole p
    pick None k = (l, h.whole)
    pick (Some ds) k = (h.whole, k)

-- ---- from the automaton to the numeral

is_digit_value : (c : ℕ) → is_digit c ≡ true → digit_value c < 10
is_digit_value c h = grind (arith, nat_tests)

dead_no : {A : Type 0} (bs : List ℕ) → is_at_digit (after Dead bs) ≡ true → A
dead_no bs h = let e = ap is_at_digit (dead bs) in absurd cc

power_back : (bs : List ℕ) → is_at_digit (after Power bs) ≡ true → AllDigits 10 bs
power_back [] h = tt
power_back (b ∷ bs) h = go (is_digit b) refl (power_back bs) h
  where
    go : (t : Bool) → is_digit b ≡ t → (is_at_digit (after Power bs) ≡ true → AllDigits 10 bs) → is_at_digit (after (cond t Power Dead) bs) ≡ true → AllDigits 10 (b ∷ bs)
    go true e r h = (is_digit_value b e, r h)
    go false e r h = dead_no bs h

-- digits behind a byte that is one
numeral_of : (b : ℕ) (bs : List ℕ) → is_digit b ≡ true → AllDigits 10 bs → IsNumeral 10 (b ∷ bs)
numeral_of b bs e h = (omega arith, (is_digit_value b e, h))

sign_back : (bs : List ℕ) → is_at_digit (after Sign bs) ≡ true → IsNumeral 10 bs
sign_back [] h = absurd cc
sign_back (b ∷ bs) h = go (is_digit b) refl h
  where
    go : (t : Bool) → is_digit b ≡ t → is_at_digit (after (cond t Power Dead) bs) ≡ true → IsNumeral 10 (b ∷ bs)
    go true e h = numeral_of b bs e (power_back bs h)
    go false e h = dead_no bs h

either : (b m n : ℕ) → ((b == m) || (b == n)) ≡ true → (b ≡ m) ⊎ (b ≡ n)
either b m n h = go (b == m) refl h
  where
    go : (t : Bool) → (b == m) ≡ t → (t || (b == n)) ≡ true → (b ≡ m) ⊎ (b ≡ n)
    go true e h = inl (grind (arith, nat_tests))
    go false e h = inr (grind (arith, nat_tests))

abbrev HasPower : List ℕ → Type 0
HasPower bs = (s : Option ℕ) × (ds : List ℕ) × IsSign s × IsNumeral 10 ds × (bs ≡ sign_text s ++ ds)

mark_back : (bs : List ℕ) → is_at_digit (after Mark bs) ≡ true → HasPower bs
mark_back [] h = absurd cc
mark_back (b ∷ bs) h = go (is_digit b) refl (b == 43 || b == 45) refl h
  where
    go : (t : Bool) → is_digit b ≡ t → (u : Bool) → (b == 43 || b == 45) ≡ u → is_at_digit (after (cond t Power (cond u Sign Dead)) bs) ≡ true → HasPower (b ∷ bs)
    go true e u f h = (None, b ∷ bs, tt, numeral_of b bs e (power_back bs h), refl)
    go false e true f h = (Some b, bs, either b 43 45 f, sign_back bs h, refl)
    go false e false f h = dead_no bs h

abbrev HasExponent : List ℕ → Type 0
HasExponent bs = (e : Option Exponent) × IsExponent e × (bs ≡ exponent_text e)

exponent_back : (b : ℕ) (bs : List ℕ) → (b == 101 || b == 69) ≡ true → is_at_digit (after Mark bs) ≡ true → HasExponent (b ∷ bs)
exponent_back b bs f h =
    let p = mark_back bs h in
    (Some (record { mark = b; sign = p.0; digits = p.1 }), (either b 101 69 f, p.2, p.3), ap (λ (u : List ℕ). b ∷ u) p.4)

-- digits, and an exponent that may be missing
abbrev HasPart : List ℕ → Type 0
HasPart bs = (ds : List ℕ) × (e : Option Exponent) × AllDigits 10 ds × IsExponent e × (bs ≡ ds ++ exponent_text e)

part_back : (bs : List ℕ) → is_at_digit (after Part bs) ≡ true → HasPart bs
part_back [] h = ([], None, tt, tt, refl)
part_back (b ∷ bs) h = go (part_back bs) (is_digit b) refl (b == 101 || b == 69) refl h
  where
    go : (is_at_digit (after Part bs) ≡ true → HasPart bs) → (t : Bool) → is_digit b ≡ t → (u : Bool) → (b == 101 || b == 69) ≡ u → is_at_digit (after (cond t Part (cond u Mark Dead)) bs) ≡ true → HasPart (b ∷ bs)
    go r true e u f h = let p = r h in (b ∷ p.0, p.1, (is_digit_value b e, p.2), p.3, ap (λ (u : List ℕ). b ∷ u) p.4)
    go r false e true f h = let p = exponent_back b bs f h in ([], p.0, tt, p.1, p.2)
    go r false e false f h = dead_no bs h

point_back : (bs : List ℕ) → is_at_digit (after Point bs) ≡ true → (ds : List ℕ) × (e : Option Exponent) × IsNumeral 10 ds × IsExponent e × (bs ≡ ds ++ exponent_text e)
point_back [] h = absurd cc
point_back (b ∷ bs) h = go (is_digit b) refl h
  where
    go : (t : Bool) → is_digit b ≡ t → is_at_digit (after (cond t Part Dead) bs) ≡ true → (ds : List ℕ) × (e : Option Exponent) × IsNumeral 10 ds × IsExponent e × (b ∷ bs ≡ ds ++ exponent_text e)
    go true e h = let p = part_back bs h in (b ∷ p.0, p.1, numeral_of b p.0 e p.2, p.3, ap (λ (u : List ℕ). b ∷ u) p.4)
    go false e h = dead_no bs h

-- digits, and then what may follow them
abbrev HasWhole : List ℕ → Type 0
HasWhole bs = (n : Numeral) × AllDigits 10 n.whole × IsPart n.part × IsExponent n.exponent × (bs ≡ numeral_text n)

abbrev made_numeral : List ℕ → Option (List ℕ) → Option Exponent → Numeral
made_numeral w p e = record { whole = w; part = p; exponent = e }

is_point : (b : ℕ) → (b == 46) ≡ true → b ≡ 46
is_point b h = grind (arith, nat_tests)

with_point : (b : ℕ) (bs : List ℕ) → (b == 46) ≡ true → is_at_digit (after Point bs) ≡ true → (p : List ℕ) × (e : Option Exponent) × IsNumeral 10 p × IsExponent e × (b ∷ bs ≡ numeral_text (made_numeral [] (Some p) e))
with_point b bs f h = let p = point_back bs h in (p.0, p.1, p.2, p.3, (let i = is_point b f in let j = p.4 in cc))

whole_back : (bs : List ℕ) → is_at_digit (after Whole bs) ≡ true → HasWhole bs
whole_back [] h = (made_numeral [] None None, tt, tt, tt, refl)
whole_back (b ∷ bs) h = go (whole_back bs) (is_digit b) refl (b == 46) refl (b == 101 || b == 69) refl h
  where
    go : (is_at_digit (after Whole bs) ≡ true → HasWhole bs) → (t : Bool) → is_digit b ≡ t → (p : Bool) → (b == 46) ≡ p → (u : Bool) → (b == 101 || b == 69) ≡ u → is_at_digit (after (cond t Whole (cond p Point (cond u Mark Dead))) bs) ≡ true → HasWhole (b ∷ bs)
    go r true e p g u f h = let q = r h in (made_numeral (b ∷ (q.0).whole) (q.0).part (q.0).exponent, (is_digit_value b e, q.1), q.2, q.3, ap (λ (u : List ℕ). b ∷ u) q.4)
    go r false e true g u f h = let q = with_point b bs g h in (made_numeral [] (Some q.0) q.1, tt, q.2, q.3, q.4)
    go r false e false g true f h = let q = exponent_back b bs f h in (made_numeral [] None q.0, tt, tt, q.1, q.2)
    go r false e false g false f h = dead_no bs h

proper : (b : ℕ) (n : Numeral) → is_digit b ≡ true → AllDigits 10 n.whole → IsPart n.part → IsExponent n.exponent → IsProper (made_numeral (b ∷ n.whole) n.part n.exponent)
proper b n e h k x = (pick n.part k, x)
  where
    pick : (p : Option (List ℕ)) → IsPart p → IsMantissa (b ∷ n.whole) p
    pick None k = numeral_of b n.whole e h
    pick (Some ds) k = ((is_digit_value b e, h), k)

not_digit_from : (s : State) (bs : List ℕ) → (s ≡ Letters) ⊎ (s ≡ Quote) → is_at_digit (after s bs) ≡ true → ⊥
unfolding family
not_digit_from s bs f h = other (after s bs) (family_after s bs (above f)) (kind f) h
  where
    above : (s ≡ Letters) ⊎ (s ≡ Quote) → 0 < family s
    above (inl e) = rw e (omega arith)
    above (inr e) = rw e (omega arith)

    kind : (s ≡ Letters) ⊎ (s ≡ Quote) → family s ≡ 2 → ⊥
    kind (inl e) k = let a = ap family e in omega arith
    kind (inr e) k = let a = ap family e in omega arith

    other : (t : State) → Within (family s) t → (family s ≡ 2 → ⊥) → is_at_digit t ≡ true → ⊥
    other Whole (inl e) k h = k (sym e)
    other Part (inl e) k h = k (sym e)
    other Power (inl e) k h = k (sym e)
    other t (inr e) k h = let a = ap is_at_digit e in absurd cc
    other t (inl e) k h = absurd cc

pub number_numeral : NumberIsNumeral
number_numeral [] h = absurd cc
number_numeral (b ∷ bs) h = go (is_letter b) (is_digit b) refl (b == 46) refl (b == 34) h
  where
    go : (t d : Bool) → is_digit b ≡ d → (p : Bool) → (b == 46) ≡ p → (q : Bool) → is_at_digit (after (cond t Letters (cond d Whole (cond p Point (cond q Quote Dead)))) bs) ≡ true → (n : Numeral) × IsProper n × (b ∷ bs ≡ numeral_text n)
    go true d e p g q h = absurd (not_digit_from Letters bs (inl refl) h)
    go false true e p g q h = let n = whole_back bs h in (made_numeral (b ∷ (n.0).whole) (n.0).part (n.0).exponent, proper b n.0 e n.1 n.2 n.3, ap (λ (u : List ℕ). b ∷ u) n.4)
    go false false e true g q h = let n = with_point b bs g h in (made_numeral [] (Some n.0) n.1, ((tt, n.2), n.3), n.4)
    go false false e false g true h = absurd (not_digit_from Quote bs (inr refl) h)
    go false false e false g false h = dead_no bs h

-- ---- the limit of digits

powers : (k : ℕ) → 10 ^ suc k ≡ 10 ^ k * 10
powers k = pow-suc 10 k

-- digits behind a number
digits_bounds : (n : ℕ) (ds : List ℕ) → AllDigits 10 ds → (n * 10 ^ length ds ≤ digits_value_after 10 n ds) × (digits_value_after 10 n ds < (n + 1) * 10 ^ length ds)
digits_bounds n [] h = (omega arith, omega arith)
digits_bounds n (c ∷ ds) h =
    let r = digits_bounds (n * 10 + digit_value c) ds h.1 in
    let p : ℕ = 10 ^ length ds in
    let e : 10 ^ suc (length ds) ≡ p * 10 = powers (length ds) in
    let low : n * (p * 10) ≤ (n * 10 + digit_value c) * p = low_step n (digit_value c) p in
    let high : (n * 10 + digit_value c + 1) * p ≤ (n + 1) * (p * 10) = high_step n (digit_value c) p h.0 in
    (rw e (omega (arith, low, r.0)), rw e (omega (arith, high, r.1)))
  where
    tens : (n p : ℕ) → n * (p * 10) ≡ n * 10 * p
    tens n p = ap (λ (u : ℕ). n * u) (mul_comm p 10) ∙ sym (mul_assoc n 10 p)

    low_step : (n d p : ℕ) → n * (p * 10) ≤ (n * 10 + d) * p
    low_step n d p = let a : n * 10 * p ≤ (n * 10 + d) * p = mul-le-mul_right p (omega arith) in rw (tens n p) a

    high_step : (n d p : ℕ) → d < 10 → (n * 10 + d + 1) * p ≤ (n + 1) * (p * 10)
    high_step n d p h = let a : (n * 10 + d + 1) * p ≤ (n + 1) * 10 * p = mul-le-mul_right p (omega arith) in rw (tens (n + 1) p) a

few_digits : (n k v : ℕ) → 1 ≤ n → n * 10 ^ k ≤ v → v < 10 ^ 38 → suc k ≤ 38
few_digits n k v a b c = go (nat_le 38 k) refl
  where
    within : 10 ^ k ≤ v
    within = let e : 1 * 10 ^ k ≤ n * 10 ^ k = mul-le-mul_right (10 ^ k) a in omega arith

    go : (t : Bool) → nat_le 38 k ≡ t → suc k ≤ 38
    go true e = let f : 38 ≤ k = grind (arith, nat_tests) in let g : 10 ^ 38 ≤ 10 ^ k = pow-le-pow_right (omega arith) f in absurd (let w = within in omega arith)
    go false e = grind (arith, nat_tests)

below_limit : (n k v : ℕ) → n < 10 → v < (n + 1) * 10 ^ k → suc k ≤ 38 → v < 10 ^ 38
below_limit n k v a b c =
    let e : (n + 1) * 10 ^ k ≤ 10 * 10 ^ k = mul-le-mul_right (10 ^ k) (omega arith) in
    let f : 10 ^ suc k ≡ 10 ^ k * 10 = powers k in
    let g : 10 ^ suc k ≤ 10 ^ 38 = pow-le-pow_right (omega arith) c in
    omega arith

above_zero : (c : ℕ) → (c == 48) ≡ false → digit_value c < 10 → 1 ≤ digit_value c
above_zero c e h = grind (arith, nat_tests)

is_zero : (c : ℕ) → (c == 48) ≡ true → 0 * 10 + digit_value c ≡ 0
is_zero c e = grind (arith, nat_tests)

pub limit_38_digits : LimitIs38Digits
limit_38_digits [] h = (λ e. omega arith, λ e. omega arith)
limit_38_digits (c ∷ cs) h = go (c == 48) refl (limit_38_digits cs h.1)
  where
    go : (t : Bool) → (c == 48) ≡ t → (digits_value 10 cs < 10 ^ 38) ↔ (length (significant cs) ≤ 38) → (digits_value_after 10 (0 * 10 + digit_value c) cs < 10 ^ 38) ↔ (length (cond t (significant cs) (c ∷ cs)) ≤ 38)
    go true e r = let F : ℕ → Type 0 = λ u. (digits_value_after 10 u cs < 10 ^ 38) ↔ (length (significant cs) ≤ 38) in subst F (sym (is_zero c e)) r
    go false e r =
        let n : ℕ = 0 * 10 + digit_value c in
        let b = digits_bounds n cs h.1 in
        let a : 1 ≤ digit_value c = above_zero c e h.0 in
        (λ k. few_digits n (length cs) _ (omega arith) b.0 k, λ k. below_limit n (length cs) _ (omega (arith, h.0)) b.1 k)
