-- The words at which no form goes on: of any forms, and of forms that begin with a word of one kind.
use Rattle.std.proofs.Common.{arith, ◌≡◌, ◌∙◌, sym, ap, subst, ℕ, suc, ◌+◌, ◌-◌, ◌<◌, ◌≤◌, List, [], ◌∷◌, length, take, drop, get_or, inl, inr, refl, String}
use Rattle.std.specs.Global.{Global}
use Rattle.std.specs.Prelude.{string_bytes}
use Rattle.std.proofs.lemmas.List.{length-map, take_rest}
use Rattle.command_words.specs.Words.{texts, Begins, IsWrong}
use Rattle.command_words.specs.Fronts.{Then, One}

-- ---- words of any forms
module _ (Form : List (List ℕ) → Type 0) where
  pub wrong_end : Begins Form [] → (Form [] → ⊥) → IsWrong Form [] 1
  wrong_end begins none = inr (refl, begins, none)

  pub wrong_first : (w : List ℕ) (ws : List (List ℕ)) → Begins Form [] → (Begins Form (w ∷ []) → ⊥) → IsWrong Form (w ∷ ws) 1
  wrong_first w ws begins none = inl (omega arith, omega arith, begins, none)

  take_next : (w : List ℕ) (ws : List (List ℕ)) (n : ℕ) → take (n + 1) (w ∷ ws) ≡ w ∷ take n ws
  take_next w ws n = let next : n + 1 ≡ suc n = omega arith in ap (λ m. take m (w ∷ ws)) next

  -- what no form goes on with behind the first word
  pub wrong_next : (w : List ℕ) (ws : List (List ℕ)) (k : ℕ) → IsWrong (λ vs. Form (w ∷ vs)) ws k → IsWrong Form (w ∷ ws) (k + 1)
  wrong_next w ws k (inl e) =
      let same : k + 1 - 1 ≡ (k - 1) + 1 = omega (arith, e.0) in
      let front : take (k + 1 - 1) (w ∷ ws) ≡ w ∷ take (k - 1) ws = ap (λ m. take m (w ∷ ws)) same ∙ take_next w ws (k - 1) in
      inl (
        omega arith,
        omega (arith, e.1),
        subst (Begins Form) (sym front) (e.2.0, e.2.1),
        λ begins. let b : Begins Form (w ∷ take k ws) = subst (Begins Form) (take_next w ws k) begins in e.3 (b.0, b.1),
      )
  wrong_next w ws k (inr e) = inr (omega (arith, e.0), (e.1.0, e.1.1), e.2)

-- forms that hold of the same words
pub wrong_same : (P Q : List (List ℕ) → Type 0) (ws : List (List ℕ)) (k : ℕ) → ((vs : List (List ℕ)) → P vs → Q vs) → ((vs : List (List ℕ)) → Q vs → P vs)
    → IsWrong P ws k → IsWrong Q ws k
wrong_same P Q ws k f g (inl e) = inl (e.0, e.1, (e.2.0, f _ e.2.1), λ b. e.3 (b.0, g _ b.1))
wrong_same P Q ws k f g (inr e) = inr (e.0, (e.1.0, f _ e.1.1), λ q. e.2 (g _ q))

-- forms that are these behind one word
pub wrong_behind : (P Q : List (List ℕ) → Type 0) (w : List ℕ) (ws : List (List ℕ)) (k : ℕ) → ((vs : List (List ℕ)) → P vs → Q (w ∷ vs)) → ((vs : List (List ℕ)) → Q (w ∷ vs) → P vs)
    → IsWrong P ws k → IsWrong Q (w ∷ ws) (k + 1)
wrong_behind P Q w ws k f g e = wrong_next Q w ws k (wrong_same P (λ vs. Q (w ∷ vs)) ws k f g e)

-- ---- a word of one kind, and then others that it has a say in
module _ (Word : List ℕ → Type 0) (Rest : List ℕ → List (List ℕ) → Type 0) where
  pub then_begins : (w : List ℕ) → Word w → Begins (Rest w) [] → Begins (Then Word Rest) []
  then_begins w h b = (w ∷ b.0, (h, b.1))

  pub then_next : (w : List ℕ) (ws : List (List ℕ)) (k : ℕ) → Word w → IsWrong (Rest w) ws k → IsWrong (Then Word Rest) (w ∷ ws) (k + 1)
  then_next w ws k h e = wrong_behind (Rest w) (Then Word Rest) w ws k (λ vs r. (h, r)) (λ vs q. q.1) e

  pub then_end : Begins (Then Word Rest) [] → IsWrong (Then Word Rest) [] 1
  then_end b = wrong_end (Then Word Rest) b (λ e. e)

  pub then_first : Begins (Then Word Rest) [] → (w : List ℕ) (ws : List (List ℕ)) → (Word w → ⊥) → IsWrong (Then Word Rest) (w ∷ ws) 1
  then_first b w ws none = wrong_first (Then Word Rest) w ws b (λ begins. none begins.1.0)

-- ---- a word of one kind, and then the others
module _ (Word : List ℕ → Type 0) (Rest : List (List ℕ) → Type 0) where
  pub one_begins : (w : List ℕ) → Word w → Begins Rest [] → Begins (One Word Rest) []
  one_begins = then_begins Word (λ w. Rest)

  pub one_next : (w : List ℕ) (ws : List (List ℕ)) (k : ℕ) → Word w → IsWrong Rest ws k → IsWrong (One Word Rest) (w ∷ ws) (k + 1)
  one_next = then_next Word (λ w. Rest)

  pub one_end : Begins (One Word Rest) [] → IsWrong (One Word Rest) [] 1
  one_end = then_end Word (λ w. Rest)

  pub one_first : Begins (One Word Rest) [] → (w : List ℕ) (ws : List (List ℕ)) → (Word w → ⊥) → IsWrong (One Word Rest) (w ∷ ws) 1
  one_first = then_first Word (λ w. Rest)

-- ---- the words as they are read
-- the first of a list, and the others
split_first : {X : Type 0} (xs : List X) (x : X) → 1 ≤ length xs → x ≡ get_or xs 0 x → xs ≡ x ∷ take (length xs - 1) (drop 1 xs)
split_first [] x some e = absurd (omega arith)
split_first (y ∷ ys) x some e = ap (λ z. z ∷ ys) (sym e) ∙ ap (λ zs. x ∷ zs) (sym (take_rest (y ∷ ys) 1))

is_empty_list : {X : Type 0} (xs : List X) → length xs < 1 → xs ≡ []
is_empty_list [] none = refl
is_empty_list (x ∷ xs) none = absurd (omega arith)

module _ (words : List (String Global)) where
  pub no_words : length words < 1 → texts words ≡ []
  no_words few = ap texts (is_empty_list words few)

  pub first_words : (first : String Global) (w : List ℕ) → 1 ≤ length words → first ≡ get_or words 0 first → string_bytes first ≡ w
      → texts words ≡ w ∷ texts (take (length words - 1) (drop 1 words))
  first_words first w some is same =
      ap texts (split_first words first some is) ∙ ap (λ v. v ∷ texts (take (length words - 1) (drop 1 words))) same

module _ (Form : List (List ℕ) → Type 0) (k : ℕ) (words : List (String Global)) where
  pub read_none : length words < 1 → IsWrong Form [] k → IsWrong Form (texts words) k
  read_none few e = subst (λ ws. IsWrong Form ws k) (sym (no_words words few)) e

  pub read_first : (first : String Global) (w : List ℕ) → 1 ≤ length words → first ≡ get_or words 0 first → string_bytes first ≡ w
      → IsWrong Form (w ∷ texts (take (length words - 1) (drop 1 words))) k → IsWrong Form (texts words) k
  read_first first w some is same e = subst (λ ws. IsWrong Form ws k) (sym (first_words words first w some is same)) e

-- behind a first word that is another one
pub asked_behind : (Form : List (List ℕ) → Type 0) (ws rest : List (List ℕ)) (verb v : List ℕ) (k : ℕ) → ws ≡ verb ∷ rest → verb ≡ v → IsWrong Form (v ∷ rest) k → IsWrong Form ws k
asked_behind Form ws rest verb v k e same h = subst (λ us. IsWrong Form us k) (sym (e ∙ ap (λ u. u ∷ rest) same)) h

-- a position among the words behind the first is one of all words
pub behind_verb : (Form : List (List ℕ) → Type 0) (words rest : List (String Global)) (verb : List ℕ) (k : ℕ) → texts words ≡ verb ∷ texts rest → IsWrong Form (texts rest) k → k ≤ length words
behind_verb Form words rest verb k e (inl h) = let f = ap length e in omega (arith, f, h.1, length-map words string_bytes)
behind_verb Form words rest verb k e (inr h) = let f = ap length e in omega (arith, f, h.0, length-map words string_bytes)
