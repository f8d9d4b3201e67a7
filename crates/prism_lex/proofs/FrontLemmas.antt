-- The longest token at the front is the longest that the automaton accepts, or where it accepts none the longest symbol.
use Rattle.std.proofs.Common.{◌≡◌, ℕ, ◌≤◌, ◌<◌, Bool, true, false, List, [], ◌∷◌, ◌++◌, length, take, Option, Some, None, refl, sym, ap, subst, ◌∙◌, arith, inl, inr}
use Rattle.std.specs.Prelude.{◌⊎◌, is_some, not}
use Rattle.std.specs.List.{list_any}
use Rattle.std.proofs.lemmas.Bool.{not-false}
use Rattle.prism_lex.specs.declared.token.TokenKind.{TokenKind}
use Rattle.prism_lex.specs.declared.token.TokenKind.TheVariants.{Word, Ident, Quoted, Number, Symbol, End}
use Rattle.prism_lex.specs.declared.automaton.State.{State}
use Rattle.prism_lex.specs.declared.automaton.State.TheVariants.{Start}
use Rattle.prism_lex.specs.declared.symbols.Symbol as symbol
use Rattle.prism_lex.specs.Words.{lookup, words, symbols}
use Rattle.prism_lex.specs.Automaton.{accepts, after, longest}
use Rattle.prism_lex.specs.Tokens.{is_name, IsKind, IsToken, refusal}
use Rattle.prism_lex.specs.Front.{Begins, BeginsNone, IsRefused, refused, no_token, IsRefusedText}
use Rattle.bridge_io.specs.declared.reason.Reason.{Reason}
use Rattle.bridge_io.specs.declared.reason.Reason.TheVariants.{BadByte}
use Rattle.prism_lex.proofs.Tables.{lookup_none}
use Rattle.prism_lex.proofs.Longest.{longest_within, longest_is, longest_most}
use Rattle.prism_lex.proofs.Shapes.{name_state, quoted_state, number_accepted}
use Rattle.prism_lex.proofs.LongestSymbol.{IsBest, NoSymbol, symbol_alone, no_empty}

is_no_name : List ℕ → Bool
is_no_name w = not (is_name w)

all_names : list_any (λ e. is_no_name e.0) words ≡ false
unfolding words is_no_name
all_names = refl

pub some_is : {A : Type 0} (o : Option A) (x : A) → o ≡ Some x → is_some o ≡ true
some_is None x e = absurd cc
some_is (Some y) x e = refl

-- A reserved word is a name.
pub word_name : (w : List ℕ) → is_some (lookup w words) ≡ true → is_name w ≡ true
unfolding is_no_name
word_name w h = not-false (is_name w) (lookup_none is_no_name words w all_names h)

-- Each token is accepted by the automaton, or a symbol.
pub accepted_or_symbol : (w : List ℕ) (k : TokenKind) → IsKind w k → (accepts (after Start w) ≡ true) ⊎ (is_some (lookup w symbols) ≡ true)
accepted_or_symbol w (Word r) h = inl (ap accepts (name_state w (word_name w (some_is _ r h))))
accepted_or_symbol w Ident h = inl (ap accepts (name_state w h.0))
accepted_or_symbol w Quoted h = inl (ap accepts (quoted_state w h.0 h.1 h.2))
accepted_or_symbol w (Number d) h = inl (number_accepted (after Start w) h.number)
accepted_or_symbol w (Symbol s) h = inr (some_is _ s h)
accepted_or_symbol w End h = absurd h

-- No token is empty.
pub no_empty_token : IsToken [] → ⊥
no_empty_token t = pick (accepted_or_symbol [] t.0 t.1)
  where
    pick : (accepts (after Start []) ≡ true) ⊎ (is_some (lookup [] symbols) ≡ true) → ⊥
    pick (inl a) = absurd cc
    pick (inr s) = no_empty s

accepted_within : (bytes v z : List ℕ) → bytes ≡ v ++ z → accepts (after Start v) ≡ true → length v ≤ longest Start bytes
accepted_within bytes [] z e h = omega arith
accepted_within bytes (c ∷ v) z e h = longest_most Start bytes (c ∷ v) z e (omega arith) h

pub begins_scanned : (bytes : List ℕ) (n : ℕ) (k : TokenKind) → n ≡ longest Start bytes → 0 < n → IsKind (take n bytes) k → Begins bytes k n
begins_scanned bytes n k e l h = record {
  above = l;
  within = let a = longest_within Start bytes in omega arith;
  is = h;
  longest = λ v z f t. most v z f (accepted_or_symbol v t.0 t.1);
}
  where
    most : (v z : List ℕ) → bytes ≡ v ++ z → (accepts (after Start v) ≡ true) ⊎ (is_some (lookup v symbols) ≡ true) → length v ≤ n
    most v z f (inl a) = let b = accepted_within bytes v z f a in omega arith
    most v z f (inr s) = let b = symbol_alone bytes v z f s in absurd (omega arith)

pub begins_symbol : (bytes : List ℕ) (n : ℕ) (s : symbol.Symbol) → longest Start bytes ≡ 0 → IsBest bytes s n → Begins bytes (Symbol s) n
begins_symbol bytes n s e b = record {
  above = b.above;
  within = b.within;
  is = b.is;
  longest = λ v z f t. most v z f (accepted_or_symbol v t.0 t.1);
}
  where
    most : (v z : List ℕ) → bytes ≡ v ++ z → (accepts (after Start v) ≡ true) ⊎ (is_some (lookup v symbols) ≡ true) → length v ≤ n
    most v z f (inl a) = let c = accepted_within bytes v z f a in omega arith
    most v z f (inr s) = b.most v z f s

none_accepted : (v : List ℕ) → length v ≤ 0 → accepts (after Start v) ≡ true → ⊥
none_accepted [] l h = absurd cc
none_accepted (c ∷ v) l h = absurd (omega arith)

pub begins_none : (bytes : List ℕ) → longest Start bytes ≡ 0 → NoSymbol bytes → BeginsNone bytes
begins_none bytes e n v z f t = pick (accepted_or_symbol v t.0 t.1)
  where
    pick : (accepts (after Start v) ≡ true) ⊎ (is_some (lookup v symbols) ≡ true) → ⊥
    pick (inl a) = none_accepted v (let c = accepted_within bytes v z f a in omega arith) a
    pick (inr s) = n v z f s

-- ---- what the code asks

pub accepted_at : (bytes : List ℕ) (n : ℕ) (s : State) → n ≡ longest Start bytes → 0 < n → s ≡ after Start (take n bytes) → accepts s ≡ true
accepted_at bytes n s e l f = ap accepts f ∙ (let F : ℕ → Type 0 = λ m. accepts (after Start (take m bytes)) ≡ true in subst F (sym e) (longest_is Start bytes (omega arith)))

pub front_given : (bytes text : List ℕ) (n : ℕ) (k : TokenKind) → n ≡ longest Start bytes → 0 < n → text ≡ take n bytes → IsKind text k → refusal k text ≡ None → Begins bytes k n × (refusal k (take n bytes) ≡ None)
front_given bytes text n k e l f h r =
    let F : List ℕ → Type 0 = λ u. IsKind u k in
    (begins_scanned bytes n k e l (subst F f h), ap (refusal k) (sym f) ∙ r)

pub front_refused : (bytes text : List ℕ) (n : ℕ) (reason : Reason) → n ≡ longest Start bytes → 0 < n → text ≡ take n bytes → IsRefusedText text reason → IsRefused bytes reason
front_refused bytes text n reason e l f h =
    let F : List ℕ → Type 0 = λ u. IsKind u h.0 in
    refused h.0 n (begins_scanned bytes n h.0 e l (subst F f h.1)) (ap (refusal h.0) (sym f) ∙ h.2)

pub front_none : (bytes : List ℕ) → longest Start bytes ≡ 0 → NoSymbol bytes → IsRefused bytes BadByte
front_none bytes e n = no_token (begins_none bytes e n) refl
