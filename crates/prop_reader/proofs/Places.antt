-- The fault of kept tokens, from the number of those that are left.
use Rattle.std.proofs.Common.{◌≡◌, ℕ, ◌-◌, Bool, false, List, [], ◌∷◌, ◌++◌, length, map, take, drop, refl, sym, ap, subst, ◌∙◌}
use Rattle.std.specs.Prelude.{Some, None, slice_get}
use Rattle.bridge_io.specs.declared.reason.Reason.{Reason}
use Rattle.bridge_io.specs.declared.reason.Reason.TheVariants.{Syntax}
use Rattle.prism_lex.specs.declared.token.TokenKind.TheVariants as K
use Rattle.prism_lex.specs.declared.words.Reserved.TheVariants as W
use Rattle.prism_lex.specs.Tokens.{Lexeme}
use Rattle.prism_exprs.specs.declared.tokens.Cause.{Cause}
use Rattle.prism_exprs.specs.declared.tokens.Found.{Found}
use Rattle.prism_exprs.specs.declared.tokens.Kept.{Kept}
use Rattle.prism_exprs.specs.declared.tokens.Kept.TheVariants.{Word, Symbol, Ident, Quoted, Number}
use Rattle.prism_exprs.specs.declared.tokens.Literal.{Literal}
use Rattle.prism_exprs.specs.Kept.{is_ascii_text, lexeme_at, lexeme_by, in_row, text_at}
use Rattle.prism_exprs.proofs.Keeping.{of_name, of_literal, place_kept}
use Rattle.prism_parse.specs.Reasons.{unless_deep}
use Rattle.prism_parse.proofs.Places.{ends_seen, none_left, some_left, cut_where_left}
use Rattle.prop_grammar.specs.Faults.{IsGrammarFault}
use Rattle.prism_exprs.specs.Scope.{IsStopped, GoesOn}
use Rattle.prop_reader.specs.Parts.{Refuses, properties_in}
use Rattle.prop_reader.specs.Reasons.{in_query, is_unbounded, behind_unbounded, form_reason, kept_reason, kept_unbounded, reason_at}
use Rattle.prop_reader.proofs.Reasoning.{refused_at_token, refused_at_end}

-- ---- what is seen of a kept token

reason_kept : (bytes : List ℕ) (literals : List Literal) (at size : ℕ) (k : Kept) (a b : Bool) → form_reason (lexeme_by bytes literals k at size).kind a b ≡ kept_reason k a b
reason_kept bytes literals at size (Word r) a b = refl
reason_kept bytes literals at size (Symbol s) a b = refl
reason_kept bytes literals at size Ident a b = of_name (is_ascii_text (text_at bytes at size)) K.Ident (text_at bytes at size) at (λ k. form_reason k a b) Syntax refl refl
reason_kept bytes literals at size Quoted a b = of_name (is_ascii_text (text_at bytes at size)) K.Quoted (text_at bytes at size) at (λ k. form_reason k a b) Syntax refl refl
reason_kept bytes literals at size (Number row) a b = of_literal bytes (in_row literals row size) at (λ k. form_reason k a b) Syntax (λ l. refl) refl

unbounded_kept : (bytes : List ℕ) (literals : List Literal) (at size : ℕ) (k : Kept) → is_unbounded (lexeme_by bytes literals k at size).kind ≡ kept_unbounded k
unbounded_kept bytes literals at size (Word W.GWord) = refl
unbounded_kept bytes literals at size (Word W.WWord) = refl
unbounded_kept bytes literals at size (Word r) = refl
unbounded_kept bytes literals at size (Symbol s) = refl
unbounded_kept bytes literals at size Ident = of_name (is_ascii_text (text_at bytes at size)) K.Ident (text_at bytes at size) at is_unbounded false refl refl
unbounded_kept bytes literals at size Quoted = of_name (is_ascii_text (text_at bytes at size)) K.Quoted (text_at bytes at size) at is_unbounded false refl refl
unbounded_kept bytes literals at size (Number row) = of_literal bytes (in_row literals row size) at is_unbounded false (λ l. refl) refl

pub last_kept : (bytes : List ℕ) (literals : List Literal) (found front : List Found) (last : Found) → found ≡ front ++ last ∷ []
    → kept_unbounded last.kind ≡ behind_unbounded (map (lexeme_at bytes literals) found)
last_kept bytes literals found front last e =
    sym (ends_seen (lexeme_at bytes literals) (λ t. is_unbounded t.kind) found front last e ∙ unbounded_kept bytes literals last.at last.size last.kind)

-- ---- places

module _ (end : ℕ) (bytes : List ℕ) (literals : List Literal) (found : List Found) (left place : ℕ) (rest : List Lexeme) (c : Cause) (is : place ≡ length found - left) (size : length rest ≡ left) where
  abbrev view : Found → Lexeme
  view = lexeme_at bytes literals

  module _ (stop : Refuses (map view found) rest c) where
    split : (map view (take place found) ≡ stop.before) × (map view (drop place found) ≡ rest)
    split = cut_where_left view found left place stop.before rest is size stop.parts

    pub fault_at_end : None ≡ slice_get (drop place found) 0 → IsGrammarFault end (map view found) (record { reason = Syntax; at = end })
    fault_at_end e =
        let F : List Lexeme → Type 0 = λ r. Refuses (map view found) r c in
        refused_at_end end (map view found) c (subst F (sym split.1 ∙ ap (map view) (none_left (drop place found) e)) stop)

  pub fault_at_token : (stop : Refuses (map view found) rest c) (first : Found) (inside unbounded : Bool) (reason : Reason) → Some first ≡ slice_get (drop place found) 0
      → inside ≡ in_query (map view (take place found)) → unbounded ≡ behind_unbounded (map view (take place found))
      → reason ≡ unless_deep c (kept_reason first.kind inside unbounded) → IsGrammarFault end (map view found) (record { reason = reason; at = first.at })
  fault_at_token stop first inside unbounded reason e f h g =
      let r = some_left (drop place found) first e in
      let parts : rest ≡ view first ∷ map view r.0 = sym (split stop).1 ∙ ap (map view) r.1 in
      let again : Refuses (map view found) (view first ∷ map view r.0) c = record {
        before = stop.before;
        parts = stop.parts ∙ ap (λ (x : List Lexeme). stop.before ++ x) parts;
        begins = stop.begins;
        ends = λ n. stop.ends (parts ∙ n);
        first = λ s i t others n. (let F : List Lexeme → Type 0 = λ x. IsStopped c s x in stop.first s (subst F (sym parts) i) t others (parts ∙ n));
        goes = λ s p. (let F : List Lexeme → Type 0 = λ x. GoesOn (properties_in s) stop.before x in subst F parts (stop.goes s p));
      } in
      let told : reason_at c stop.before (view first) ≡ reason =
      ap (unless_deep c) (reason_kept bytes literals first.at first.size first.kind (in_query stop.before) (behind_unbounded stop.before)
      ∙ ap (λ (x : Bool). kept_reason first.kind x (behind_unbounded stop.before)) (sym (f ∙ ap in_query (split stop).0))
      ∙ ap (kept_reason first.kind inside) (sym (h ∙ ap behind_unbounded (split stop).0))) ∙ sym g in
      let F : Reason → Type 0 = λ x. IsGrammarFault end (map view found) (record { reason = x; at = first.at }) in
      let G : ℕ → Type 0 = λ at. IsGrammarFault end (map view found) (record { reason = reason_at c stop.before (view first); at = at }) in
      subst F told (subst G (place_kept bytes literals first.kind first.at first.size) (refused_at_token end (map view found) (map view r.0) (view first) c again))
