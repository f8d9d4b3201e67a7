-- The automaton that reads numbers: where it cannot come to the end of one.
use Rattle.std.proofs.Common.{◌≡◌, ℕ, ◌<◌, ◌≤◌, ◌==◌, ◌||◌, Bool, true, false, nat_lt, List, [], ◌∷◌, ◌++◌, refl, sym, ap, ◌∙◌, arith, if◌then◌else◌, ltb-true}
use Rattle.std.proofs.lemmas.Bool.{ne_eqb, ltb-false}
use Rattle.std.proofs.lemmas.Bool.Decides.{nat_tests}
use Rattle.prism_lex.specs.declared.automaton.State.{State}
use Rattle.prism_lex.specs.declared.automaton.State.TheVariants.{Start, Letters, Whole, Point, Part, Mark, Sign, Power, Quote, Inside, Closed, Dead}
use Rattle.prism_lex.specs.Automaton.{step, after, is_letter, is_digit}
use Rattle.prism_lex.specs.Numbers.{is_number, is_at_digit}

pub after-snoc : (s : State) (w : List ℕ) (b : ℕ) → after s (w ++ b ∷ []) ≡ step (after s w) b
after-snoc s [] b = refl
after-snoc s (c ∷ w) b = after-snoc (step s c) w b

pub dead : (w : List ℕ) → after Dead w ≡ Dead
dead [] = refl
dead (b ∷ w) = dead w

-- ---- no slash stands in a number
slash_dead : (s : State) → step s 47 ≡ Dead
slash_dead Start = refl
slash_dead Letters = refl
slash_dead Whole = refl
slash_dead Point = refl
slash_dead Part = refl
slash_dead Mark = refl
slash_dead Sign = refl
slash_dead Power = refl
slash_dead Quote = refl
slash_dead Inside = refl
slash_dead Closed = refl
slash_dead Dead = refl

after_slash : (s : State) (a b : List ℕ) → after s (a ++ 47 ∷ b) ≡ Dead
after_slash s [] b = ap (λ t. after t b) (slash_dead s) ∙ dead b
after_slash s (c ∷ a) b = after_slash (step s c) a b

pub no_slash_in_number : (a b : List ℕ) → is_number (a ++ 47 ∷ b) ≡ true → ⊥
no_slash_in_number a b h = let f : is_at_digit Dead ≡ true = ap is_at_digit (sym (after_slash Start a b)) ∙ h in cc

-- ---- a number begins with a digit or a point
after_letters : (u : List ℕ) → is_at_digit (after Letters u) ≡ false
after_letters [] = refl
after_letters (b ∷ u) = by_test (after_letters u) (is_letter b || is_digit b)
  where
    by_test : is_at_digit (after Letters u) ≡ false → (z : Bool) → is_at_digit (after (if z then Letters else Dead) u) ≡ false
    by_test ih true = ih
    by_test ih false = ap is_at_digit (dead u)

not_digit : (c : ℕ) → 58 ≤ c → is_digit c ≡ false
not_digit c h = grind (arith, nat_tests)

pub first_low : (b : ℕ) (u : List ℕ) → is_number (b ∷ u) ≡ true → b < 58
first_low b u h = by_test (nat_lt b 58) refl
  where
    high : 58 ≤ b → step Start b ≡ (if is_letter b then Letters else Dead)
    high k =
        let d : is_digit b ≡ false = not_digit b k in
        let e : (b == 46) ≡ false = ne_eqb b 46 (λ e. omega arith) in
        let f : (b == 34) ≡ false = ne_eqb b 34 (λ e. omega arith) in
        ap (λ x. if is_letter b then Letters else if x then Whole else if b == 46 then Point else if b == 34 then Quote else Dead) d
        ∙ ap (λ x. if is_letter b then Letters else if x then Point else if b == 34 then Quote else Dead) e
        ∙ ap (λ x. if is_letter b then Letters else if x then Quote else Dead) f

    none : (z : Bool) → is_at_digit (after (if z then Letters else Dead) u) ≡ false
    none true = after_letters u
    none false = ap is_at_digit (dead u)

    by_test : (z : Bool) → nat_lt b 58 ≡ z → b < 58
    by_test true e = ltb-true b 58 e
    by_test false e = let z : true ≡ false = sym h ∙ ap (λ s. is_at_digit (after s u)) (high (ltb-false b 58 e)) ∙ none (is_letter b) in absurd cc
