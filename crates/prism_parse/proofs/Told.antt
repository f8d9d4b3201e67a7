-- The reason that is told of a token is the reason why it cannot stand where reading stopped.
use Rattle.std.proofs.Common.{arith, ◌≡◌, ℕ, Bool, true, false, List, [], ◌∷◌, ◌++◌, refl, sym, ap, subst, ◌∙◌, inl, inr}
use Rattle.std.specs.Prelude.{◌⊎◌, ◌&&◌, ◌||◌, if◌then◌else◌, codes, Contains}
use Rattle.std.specs.List.{list_all}
use Rattle.std.proofs.lemmas.List.Elements.{All-contains}
use Rattle.std.proofs.lemmas.List.Sums.{AllPass-from_list_all}
use Rattle.std.specs.Str.{bytes_eq}
use Rattle.std.proofs.lemmas.Bool.{and_parts, or_cases}
use Rattle.basics.specs.Texts.{bytes_eq-true}
use Rattle.bridge_io.specs.declared.reason.Reason.{Reason}
use Rattle.bridge_io.specs.declared.reason.Reason.TheVariants.{Syntax, OtherKind, LeftOut}
use Rattle.prism_lex.specs.declared.token.TokenKind.{TokenKind}
use Rattle.prism_lex.specs.declared.token.TokenKind.TheVariants as K
use Rattle.prism_lex.specs.declared.words.Reserved.{Reserved}
use Rattle.prism_lex.specs.declared.words.Reserved.TheVariants as W
use Rattle.prism_lex.specs.declared.symbols.Symbol.{Symbol as PrismSymbol}
use Rattle.prism_lex.specs.declared.symbols.Symbol.TheVariants as S
use Rattle.prism_lex.specs.Tokens.{Lexeme}
use Rattle.prism_tree.specs.Lang.{Begins}
use Rattle.prism_tree.specs.Faults.{file, unbounded_file, ItemCanStand, kind_words, left_out_words, left_out_functions, WouldBegin, another_kind, a_left_out_form, an_unbounded_variable, a_left_out_function, IsReason, too_deep, not_read, no_form}
use Rattle.prism_exprs.specs.declared.tokens.Cause.{Cause}
use Rattle.prism_exprs.specs.declared.tokens.Cause.TheVariants as C
use Rattle.prism_parse.specs.Reasons.{is_kind_word, is_left_out, is_int, left_out_reason, word_reason, is_open, form_reason, unless_deep, is_left_out_text, is_ident, is_left_out_name, ends_with}

-- ---- lists and tests

pub all_contained : {X : Type 0} (p : X → Bool) (xs : List X) (x : X) → list_all p xs ≡ true → Contains xs x → p x ≡ true
all_contained p xs x e h = All-contains (λ y. p y ≡ true) xs x (AllPass-from_list_all p xs e) h

abbrev of_word : (Reserved → Bool) → TokenKind → Bool
of_word p (K.Word w) = p w
of_word p k = false

word_contained : (p : Reserved → Bool) (ks : List TokenKind) (k : TokenKind) (w : Reserved) → list_all (of_word p) ks ≡ true → k ≡ K.Word w → Contains ks k → p w ≡ true
word_contained p ks k w e h c = ap (of_word p) (sym h) ∙ all_contained (of_word p) ks k e c

-- a token that is no word is none of these words
no_word_contained : (p : Reserved → Bool) (ks : List TokenKind) (k : TokenKind) → list_all (of_word p) ks ≡ true → of_word p k ≡ false → Contains ks k → ⊥
no_word_contained p ks k e h c = let a = all_contained (of_word p) ks k e c in absurd cc

kind_word_contains : (w : Reserved) → is_kind_word w ≡ true → Contains kind_words (K.Word w)
kind_word_contains W.Dtmc e = (0, omega arith, refl)
kind_word_contains W.Ctmc e = (1, omega arith, refl)
kind_word_contains W.Pta e = (2, omega arith, refl)
kind_word_contains W.Popta e = (3, omega arith, refl)
kind_word_contains W.Pomdp e = (4, omega arith, refl)
kind_word_contains W.Probabilistic e = (5, omega arith, refl)
kind_word_contains W.Stochastic e = (6, omega arith, refl)
kind_word_contains w e = absurd cc

left_out_contains : (w : Reserved) → is_left_out w ≡ true → Contains left_out_words (K.Word w)
left_out_contains W.System e = (0, omega arith, refl)
left_out_contains W.Clock e = (1, omega arith, refl)
left_out_contains W.Invariant e = (2, omega arith, refl)
left_out_contains W.Observable e = (3, omega arith, refl)
left_out_contains W.Observables e = (4, omega arith, refl)
left_out_contains W.Nondeterministic e = (5, omega arith, refl)
left_out_contains W.Func e = (6, omega arith, refl)
left_out_contains w e = absurd cc

int_same : (w : Reserved) → is_int w ≡ true → w ≡ W.Int
int_same W.Int e = refl
int_same w e = absurd cc

open_same : (s : PrismSymbol) → is_open s ≡ true → s ≡ S.LeftParenthesis
open_same S.LeftParenthesis e = refl
open_same s e = absurd cc

ident_same : (k : TokenKind) → is_ident k ≡ true → k ≡ K.Ident
ident_same K.Ident e = refl
ident_same k e = absurd cc

-- ---- the token before

pub ends_last : (p : Lexeme → Bool) (a : List Lexeme) (s : Lexeme) → ends_with p (a ++ s ∷ []) ≡ p s
ends_last p [] s = refl
ends_last p (t ∷ []) s = refl
ends_last p (t ∷ u ∷ ts) s = ends_last p (u ∷ ts) s

pub ends_some : (p : Lexeme → Bool) (us : List Lexeme) → ends_with p us ≡ true → (a : List Lexeme) × (s : Lexeme) × (us ≡ a ++ s ∷ []) × (p s ≡ true)
ends_some p [] e = absurd cc
ends_some p (t ∷ []) e = ([], t, refl, e)
ends_some p (t ∷ u ∷ ts) e = let r = ends_some p (u ∷ ts) e in (t ∷ r.0, r.1, ap (λ (l : List Lexeme). t ∷ l) r.2, r.3)

pub text_is : (w : List ℕ) → is_left_out_text w ≡ true → Contains left_out_functions w
text_is w e = pow (or_cases _ _ e)
  where
    last : (bytes_eq w (codes "round") ≡ true) ⊎ (bytes_eq w (codes "multi") ≡ true) → Contains left_out_functions w
    last (inl a) = (2, omega arith, sym (bytes_eq-true w (codes "round") a))
    last (inr b) = (3, omega arith, sym (bytes_eq-true w (codes "multi") b))

    log : (bytes_eq w (codes "log") ≡ true) ⊎ ((bytes_eq w (codes "round") || bytes_eq w (codes "multi")) ≡ true) → Contains left_out_functions w
    log (inl a) = (1, omega arith, sym (bytes_eq-true w (codes "log") a))
    log (inr b) = last (or_cases _ _ b)

    pow : (bytes_eq w (codes "pow") ≡ true) ⊎ ((bytes_eq w (codes "log") || (bytes_eq w (codes "round") || bytes_eq w (codes "multi"))) ≡ true) → Contains left_out_functions w
    pow (inl a) = (0, omega arith, sym (bytes_eq-true w (codes "pow") a))
    pow (inr b) = log (or_cases _ _ b)

text_test : (w : List ℕ) → Contains left_out_functions w → is_left_out_text w ≡ true
text_test w c = all_contained is_left_out_text left_out_functions w refl c

-- ---- what the place tells

-- With the token the tokens before it begin a file, or do not.
abbrev Goes : ℕ → List Lexeme → Lexeme → Type 0
Goes end us t = Begins (file end) (us ++ t ∷ [])

abbrev Unbounded : ℕ → List Lexeme → Lexeme → Type 0
Unbounded end us t = Begins (unbounded_file end) (us ++ t ∷ [])

pub record IsTold (end : ℕ) (us : List Lexeme) (t : Lexeme) (c : Cause) : Type 0 where
  pub deep : c ≡ C.Deep → Goes end us t
  pub dead : (c ≡ C.Deep → ⊥) → Goes end us t → ⊥
  pub type : c ≡ C.Type → Unbounded end us t
  pub bounded : (c ≡ C.Deep → ⊥) → (c ≡ C.Type → ⊥) → Unbounded end us t → ⊥
  pub item : c ≡ C.Item → ItemCanStand end us
  pub none : (c ≡ C.Item → ⊥) → ItemCanStand end us → ⊥

module _ (end : ℕ) (us : List Lexeme) (t : Lexeme) where
  -- nothing that is told of begins with this word
  no_word : (w : Reserved) → t.kind ≡ K.Word w → (is_kind_word w ≡ true → ItemCanStand end us → ⊥) → (is_left_out w ≡ true → ⊥) → (is_int w ≡ true → Unbounded end us t → ⊥) → (r : Reason) → WouldBegin end us t r → ⊥
  no_word w h kind out int r (another_kind c i) = kind (word_contained is_kind_word kind_words t.kind w refl h c) i
  no_word w h kind out int r (a_left_out_form c) = out (word_contained is_left_out left_out_words t.kind w refl h c)
  no_word w h kind out int r (an_unbounded_variable e b) =
      let f : K.Word W.Int ≡ K.Word w = sym e ∙ h in let g : W.Int ≡ w = cc in int (ap is_int (sym g)) b
  no_word w h kind out int r (a_left_out_function e a s p i c) = let f : K.Word w ≡ K.Symbol S.LeftParenthesis = sym h ∙ e in absurd cc

  -- and none with another token, unless it calls a function that is left out
  no_other : of_word is_kind_word t.kind ≡ false → of_word is_left_out t.kind ≡ false → ((w : Reserved) → t.kind ≡ K.Word w → ⊥)
      → (t.kind ≡ K.Symbol S.LeftParenthesis → ends_with is_left_out_name us ≡ true → ⊥) → (r : Reason) → WouldBegin end us t r → ⊥
  no_other kind out word call r (another_kind c i) = no_word_contained is_kind_word kind_words t.kind refl kind c
  no_other kind out word call r (a_left_out_form c) = no_word_contained is_left_out left_out_words t.kind refl out c
  no_other kind out word call r (an_unbounded_variable e b) = word W.Int e
  no_other kind out word call r (a_left_out_function e a s p i c) =
      call e (ap (ends_with is_left_out_name) p ∙ ends_last is_left_out_name a s ∙ ap (λ (k : TokenKind). is_ident k && is_left_out_text s.text) i ∙ text_test s.text c)

  at_word : (ks : List TokenKind) (w : Reserved) → t.kind ≡ K.Word w → Contains ks (K.Word w) → Contains ks t.kind
  at_word ks w h c = let F : TokenKind → Type 0 = λ k. Contains ks k in subst F (sym h) c

  left_is : (w : Reserved) → t.kind ≡ K.Word w → (Goes end us t → ⊥) → (is_kind_word w ≡ true → ItemCanStand end us → ⊥)
      → (is_int w ≡ true → Unbounded end us t → ⊥) → (b : Bool) → is_left_out w ≡ b → IsReason end us t (left_out_reason b)
  left_is w h dead kind int true e = not_read LeftOut dead (a_left_out_form (at_word left_out_words w h (left_out_contains w e)))
  left_is w h dead kind int false e = no_form dead (no_word w h kind (λ f. absurd cc) int)

  word_is : (c : Cause) (w : Reserved) → t.kind ≡ K.Word w → IsTold end us t c → (c ≡ C.Deep → ⊥) → IsReason end us t (word_reason c w)
  word_is C.Deep w h told shallow = absurd (shallow refl)
  word_is C.Form w h told shallow =
      left_is w h (told.dead shallow) (λ k. told.none (λ e. cc)) (λ k. told.bounded shallow (λ e. cc)) (is_left_out w) refl
  word_is C.Type w h told shallow = by_int (is_int w) refl
    where
      by_int : (b : Bool) → is_int w ≡ b → IsReason end us t (if b then LeftOut else left_out_reason (is_left_out w))
      by_int true e = not_read LeftOut (told.dead shallow) (an_unbounded_variable (h ∙ ap K.Word (int_same w e)) (told.type refl))
      by_int false e = left_is w h (told.dead shallow) (λ k. told.none (λ f. cc)) (λ k. absurd cc) (is_left_out w) refl
  word_is C.Item w h told shallow = by_kind (is_kind_word w) refl
    where
      by_kind : (b : Bool) → is_kind_word w ≡ b → IsReason end us t (if b then OtherKind else left_out_reason (is_left_out w))
      by_kind true e = not_read OtherKind (told.dead shallow) (another_kind (at_word kind_words w h (kind_word_contains w e)) (told.item refl))
      by_kind false e = left_is w h (told.dead shallow) (λ f. absurd cc) (λ f. told.bounded shallow (λ g. cc)) (is_left_out w) refl

  symbol_is : (s : PrismSymbol) → t.kind ≡ K.Symbol s → (Goes end us t → ⊥) → (b : Bool) → (is_open s && ends_with is_left_out_name us) ≡ b → IsReason end us t (left_out_reason b)
  symbol_is s h dead true e =
      let a = and_parts (is_open s) (ends_with is_left_out_name us) e in
      let l = ends_some is_left_out_name us a.1 in
      let n = and_parts (is_ident l.1.kind) (is_left_out_text l.1.text) l.3 in
      not_read LeftOut dead (a_left_out_function (h ∙ ap K.Symbol (open_same s a.0)) l.0 l.1 l.2 (ident_same l.1.kind n.0) (text_is l.1.text n.1))
  symbol_is s h dead false e =
      no_form dead (no_other (ap (of_word is_kind_word) h) (ap (of_word is_left_out) h) (λ w f. let g : K.Word w ≡ K.Symbol s = sym f ∙ h in absurd cc)
      (λ f q. let g : K.Symbol S.LeftParenthesis ≡ K.Symbol s = sym f ∙ h in let i : S.LeftParenthesis ≡ s = cc in
      let o : is_open s ≡ true = ap is_open (sym i) in let j : (is_open s && ends_with is_left_out_name us) ≡ true = ap (λ (b : Bool). b && ends_with is_left_out_name us) o ∙ q in absurd cc))

  other_is : (k : TokenKind) → t.kind ≡ k → (Goes end us t → ⊥) → of_word is_kind_word k ≡ false → of_word is_left_out k ≡ false → ((w : Reserved) → k ≡ K.Word w → ⊥)
      → ((s : PrismSymbol) → k ≡ K.Symbol s → ⊥) → IsReason end us t Syntax
  other_is k h dead kind out word symbol =
      no_form dead (no_other (ap (of_word is_kind_word) h ∙ kind) (ap (of_word is_left_out) h ∙ out) (λ w f. word w (sym h ∙ f)) (λ f q. symbol S.LeftParenthesis (sym h ∙ f)))

  form_is : (c : Cause) (k : TokenKind) → t.kind ≡ k → IsTold end us t c → (c ≡ C.Deep → ⊥) → IsReason end us t (form_reason c k (ends_with is_left_out_name us))
  form_is c (K.Word w) h told shallow = word_is c w h told shallow
  form_is c (K.Symbol s) h told shallow = symbol_is s h (told.dead shallow) _ refl
  form_is c (K.Number d) h told shallow = other_is (K.Number d) h (told.dead shallow) refl refl (λ w f. cc) (λ s f. cc)
  form_is c K.Ident h told shallow = other_is K.Ident h (told.dead shallow) refl refl (λ w f. cc) (λ s f. cc)
  form_is c K.Quoted h told shallow = other_is K.Quoted h (told.dead shallow) refl refl (λ w f. cc) (λ s f. cc)
  form_is c K.End h told shallow = other_is K.End h (told.dead shallow) refl refl (λ w f. cc) (λ s f. cc)

  pub reason_is : (c : Cause) → IsTold end us t c → IsReason end us t (unless_deep c (form_reason c t.kind (ends_with is_left_out_name us)))
  reason_is C.Deep told = too_deep (told.deep refl)
  reason_is C.Form told = form_is C.Form t.kind refl told (λ e. cc)
  reason_is C.Item told = form_is C.Item t.kind refl told (λ e. cc)
  reason_is C.Type told = form_is C.Type t.kind refl told (λ e. cc)
