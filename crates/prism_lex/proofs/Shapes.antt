-- Names, quoted names and numbers, and where they lead in the automaton.
use Rattle.std.proofs.Common.{◌≡◌, ℕ, ◌<◌, Bool, true, false, cond, List, [], ◌∷◌, ◌++◌, refl, sym, ap, subst, ◌∙◌, arith, inl, inr}
use Rattle.std.specs.Prelude.{◌⊎◌, ◌||◌, ◌&&◌, ◌==◌}
use Rattle.std.specs.List.{list_all}
use Rattle.std.proofs.lemmas.Bool.Decides.{nat_tests}
use Rattle.prism_lex.specs.declared.automaton.State.{State}
use Rattle.prism_lex.specs.declared.automaton.State.TheVariants.{Start, Letters, Whole, Point, Part, Mark, Sign, Power, Quote, Inside, Closed, Dead}
use Rattle.prism_lex.specs.Automaton.{step, accepts, after, is_letter, is_digit}
use Rattle.prism_lex.specs.Numbers.{is_at_digit}
use Rattle.prism_lex.specs.Tokens.{is_name}

-- a byte of a name behind its first
abbrev is_inner : ℕ → Bool
is_inner c = is_letter c || is_digit c

pub dead : (bs : List ℕ) → after Dead bs ≡ Dead
dead [] = refl
dead (b ∷ bs) = dead bs

-- ---- names

letters : (bs : List ℕ) → list_all is_inner bs ≡ true → after Letters bs ≡ Letters
letters [] h = refl
letters (b ∷ bs) h = go (is_inner b) (letters bs) h
  where
    go : (t : Bool) → (list_all is_inner bs ≡ true → after Letters bs ≡ Letters) → (t && list_all is_inner bs) ≡ true → after (cond t Letters Dead) bs ≡ Letters
    go true r h = r h
    go false r h = absurd cc

letters_back : (bs : List ℕ) → after Letters bs ≡ Letters → list_all is_inner bs ≡ true
letters_back [] h = refl
letters_back (b ∷ bs) h = go (is_inner b) (letters_back bs) h
  where
    go : (t : Bool) → (after Letters bs ≡ Letters → list_all is_inner bs ≡ true) → after (cond t Letters Dead) bs ≡ Letters → (t && list_all is_inner bs) ≡ true
    go true r h = r h
    go false r h = let e = dead bs in absurd cc

pub name_state : (w : List ℕ) → is_name w ≡ true → after Start w ≡ Letters
name_state [] h = absurd cc
name_state (b ∷ bs) h = go (is_letter b) (is_digit b) h
  where
    go : (t d : Bool) → (t && list_all is_inner bs) ≡ true → after (cond t Letters (cond d Whole (cond (b == 46) Point (cond (b == 34) Quote Dead)))) bs ≡ Letters
    go true d h = letters bs h
    go false d h = absurd cc

-- ---- families of states

unfoldable pub family : State → ℕ
family Start = 0
family Letters = 1
family Whole = 2
family Point = 2
family Part = 2
family Mark = 2
family Sign = 2
family Power = 2
family Quote = 3
family Inside = 3
family Closed = 3
family Dead = 4

abbrev pub Within : ℕ → State → Type 0
Within n s = (family s ≡ n) ⊎ (s ≡ Dead)

one_of : (n : ℕ) (a : Bool) (s : State) → family s ≡ n → Within n (cond a s Dead)
one_of n true s e = inl e
one_of n false s e = inr refl

two_of : (n : ℕ) (a b : Bool) (s t : State) → family s ≡ n → family t ≡ n → Within n (cond a s (cond b t Dead))
two_of n true b s t e f = inl e
two_of n false b s t e f = one_of n b t f

three_of : (n : ℕ) (a b c : Bool) (s t u : State) → family s ≡ n → family t ≡ n → family u ≡ n → Within n (cond a s (cond b t (cond c u Dead)))
three_of n true b c s t u e f g = inl e
three_of n false b c s t u e f g = two_of n b c t u f g

family_step : (s : State) (b : ℕ) → 0 < family s → Within (family s) (step s b)
unfolding family
family_step Start b h = absurd (omega arith)
family_step Letters b h = one_of 1 _ Letters refl
family_step Whole b h = three_of 2 _ _ _ Whole Point Mark refl refl refl
family_step Point b h = one_of 2 _ Part refl
family_step Part b h = two_of 2 _ _ Part Mark refl refl
family_step Mark b h = two_of 2 _ _ Power Sign refl refl
family_step Sign b h = one_of 2 _ Power refl
family_step Power b h = one_of 2 _ Power refl
family_step Quote b h = one_of 3 _ Inside refl
family_step Inside b h = two_of 3 _ _ Inside Closed refl refl
family_step Closed b h = inr refl
family_step Dead b h = inr refl

-- A text stays in the family of a state, or dies.
pub family_after : (s : State) (bs : List ℕ) → 0 < family s → Within (family s) (after s bs)
family_after s [] h = inl refl
family_after s (b ∷ bs) h = go (step s b) (λ (t : State). family_after t bs) (family_step s b h)
  where
    go : (t : State) → ((t : State) → 0 < family t → Within (family t) (after t bs)) → Within (family s) t → Within (family s) (after t bs)
    go t r (inl e) = let F : ℕ → Type 0 = λ n. Within n (after t bs) in subst F e (r t (omega arith))
    go t r (inr e) = inr (ap (λ (u : State). after u bs) e ∙ dead bs)

family_not : (s t : State) (bs : List ℕ) → 0 < family s → (family t ≡ family s → ⊥) → (t ≡ Dead → ⊥) → after s bs ≡ t → ⊥
family_not s t bs h f g e = go (family_after s bs h)
  where
    go : Within (family s) (after s bs) → ⊥
    go (inl k) = f (ap family (sym e) ∙ k)
    go (inr k) = g (sym e ∙ k)

pub state_name : (w : List ℕ) → after Start w ≡ Letters → is_name w ≡ true
unfolding family
state_name [] h = absurd cc
state_name (b ∷ bs) h = go (is_letter b) (is_digit b) (b == 46) (b == 34) h
  where
    go : (t d p q : Bool) → after (cond t Letters (cond d Whole (cond p Point (cond q Quote Dead)))) bs ≡ Letters → (t && list_all is_inner bs) ≡ true
    go true d p q h = letters_back bs h
    go false true p q h = absurd (family_not Whole Letters bs (omega arith) (λ e. omega arith) (λ e. cc) h)
    go false false true q h = absurd (family_not Point Letters bs (omega arith) (λ e. omega arith) (λ e. cc) h)
    go false false false true h = absurd (family_not Quote Letters bs (omega arith) (λ e. omega arith) (λ e. cc) h)
    go false false false false h = let e = dead bs in absurd cc

-- ---- quoted names

inside : (bs : List ℕ) → list_all is_inner bs ≡ true → after Inside (bs ++ 34 ∷ []) ≡ Closed
inside [] h = refl
inside (b ∷ bs) h = go (is_inner b) (inside bs) h
  where
    go : (t : Bool) → (list_all is_inner bs ≡ true → after Inside (bs ++ 34 ∷ []) ≡ Closed) → (t && list_all is_inner bs) ≡ true → after (cond t Inside (cond (b == 34) Closed Dead)) (bs ++ 34 ∷ []) ≡ Closed
    go true r h = r h
    go false r h = absurd cc

pub quoted_state : (w name : List ℕ) → w ≡ 34 ∷ (name ++ 34 ∷ []) → is_name name ≡ true → after Start w ≡ Closed
quoted_state w [] e h = absurd cc
quoted_state w (b ∷ bs) e h = ap (after Start) e ∙ go (is_letter b) h
  where
    go : (t : Bool) → (t && list_all is_inner bs) ≡ true → after (cond t Inside Dead) (bs ++ 34 ∷ []) ≡ Closed
    go true h = inside bs h
    go false h = absurd cc

is_quote : (b : ℕ) → (b == 34) ≡ true → b ≡ 34
is_quote b h = grind (arith, nat_tests)

closed_back : (bs : List ℕ) → after Closed bs ≡ Closed → bs ≡ []
closed_back [] h = refl
closed_back (b ∷ bs) h = let e = dead bs in absurd cc

inside_back : (bs : List ℕ) → after Inside bs ≡ Closed → (ns : List ℕ) × (bs ≡ ns ++ 34 ∷ []) × (list_all is_inner ns ≡ true)
inside_back [] h = absurd cc
inside_back (b ∷ bs) h = go (inside_back bs) (is_inner b) refl (b == 34) refl h
  where
    go : (after Inside bs ≡ Closed → (ns : List ℕ) × (bs ≡ ns ++ 34 ∷ []) × (list_all is_inner ns ≡ true)) → (t : Bool) → is_inner b ≡ t → (q : Bool) → (b == 34) ≡ q → after (cond t Inside (cond q Closed Dead)) bs ≡ Closed → (ns : List ℕ) × (b ∷ bs ≡ ns ++ 34 ∷ []) × (list_all is_inner ns ≡ true)
    go more true e q f h =
        let r = more h in
        (b ∷ r.0, ap (λ (u : List ℕ). b ∷ u) r.1, rw e r.2)
    go more false e true f h = ([], (let i = is_quote b f in let j = closed_back bs h in cc), refl)
    go more false e false f h = let d = dead bs in absurd cc

quote_back : (bs : List ℕ) → after Quote bs ≡ Closed → (ns : List ℕ) × (bs ≡ ns ++ 34 ∷ []) × (is_name ns ≡ true)
quote_back [] h = absurd cc
quote_back (b ∷ bs) h = go (is_letter b) refl h
  where
    go : (t : Bool) → is_letter b ≡ t → after (cond t Inside Dead) bs ≡ Closed → (ns : List ℕ) × (b ∷ bs ≡ ns ++ 34 ∷ []) × (is_name ns ≡ true)
    go true e h =
        let r = inside_back bs h in
        (b ∷ r.0, ap (λ (u : List ℕ). b ∷ u) r.1, rw e r.2)
    go false e h = let d = dead bs in absurd cc

pub state_quoted : (w : List ℕ) → after Start w ≡ Closed → (name : List ℕ) × (w ≡ 34 ∷ (name ++ 34 ∷ [])) × (is_name name ≡ true)
unfolding family
state_quoted [] h = absurd cc
state_quoted (b ∷ bs) h = go (is_letter b) (is_digit b) (b == 46) (b == 34) refl h
  where
    go : (t d p q : Bool) → (b == 34) ≡ q → after (cond t Letters (cond d Whole (cond p Point (cond q Quote Dead)))) bs ≡ Closed → (name : List ℕ) × (b ∷ bs ≡ 34 ∷ (name ++ 34 ∷ [])) × (is_name name ≡ true)
    go true d p q f h = absurd (family_not Letters Closed bs (omega arith) (λ e. omega arith) (λ e. cc) h)
    go false true p q f h = absurd (family_not Whole Closed bs (omega arith) (λ e. omega arith) (λ e. cc) h)
    go false false true q f h = absurd (family_not Point Closed bs (omega arith) (λ e. omega arith) (λ e. cc) h)
    go false false false true f h = let r = quote_back bs h in (r.0, (let i = is_quote b f in let j = r.1 in cc), r.2)
    go false false false false f h = let e = dead bs in absurd cc

-- ---- numbers

pub number_accepted : (s : State) → is_at_digit s ≡ true → accepts s ≡ true
number_accepted Whole h = refl
number_accepted Part h = refl
number_accepted Power h = refl
number_accepted s h = absurd cc

pub accepted_number : (s : State) → accepts s ≡ true → (s ≡ Letters → ⊥) → (s ≡ Closed → ⊥) → is_at_digit s ≡ true
accepted_number Whole h f g = refl
accepted_number Part h f g = refl
accepted_number Power h f g = refl
accepted_number Letters h f g = absurd (f refl)
accepted_number Closed h f g = absurd (g refl)
accepted_number s h f g = absurd cc
