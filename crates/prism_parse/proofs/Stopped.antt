-- From where reading stopped to the fault of the tokens.
use Rattle.std.proofs.Common.{arith, ◌≡◌, ℕ, true, false, List, [], ◌∷◌, ◌++◌, length, refl, sym, ap, subst, ◌∙◌, append-nil}
use Rattle.std.specs.Prelude.{Some, None, Contains}
use Rattle.std.proofs.lemmas.List.{length-append}
use Rattle.std.proofs.lemmas.List.Elements.{Contains-push}
use Rattle.bridge_io.specs.declared.reason.Reason.TheVariants.{Syntax}
use Rattle.prism_lex.specs.Tokens.{Lexeme}
use Rattle.prism_tree.specs.Lang.{Begins}
use Rattle.prism_tree.specs.Faults.{ItemCanStand, IsGrammarFault, at_token, at_end}
use Rattle.prism_exprs.specs.declared.tokens.Cause.{Cause}
use Rattle.prism_exprs.specs.declared.tokens.Cause.TheVariants as C
use Rattle.prism_exprs.specs.Scope.{Scope, IsStopped, IsPassed, GoesOn}
use Rattle.prism_items.specs.Files.{file_in, plain, ItemIsCause, Refuses}
use Rattle.prism_parse.specs.Reasons.{form_reason, unless_deep, is_left_out_name, ends_with}
use Rattle.prism_parse.proofs.Told.{IsTold, reason_is}

-- ---- the scopes

abbrev pub limited : List Lexeme → Scope
limited us = record { counted = Some us; int_too = false }

abbrev unbounded : Scope
unbounded = record { counted = None; int_too = true }

pub stopped : (c : Cause) (s : Scope) (r : List Lexeme) → (c ≡ C.Deep → ⊥) → (c ≡ C.Type → s.int_too ≡ false) → IsStopped c s r
stopped C.Deep s r n e = absurd (n refl)
stopped C.Form s r n e = tt
stopped C.Item s r n e = tt
stopped C.Type s r n e = e refl

-- The limit speaks of the first token, and no variable is unbounded.
pub stopped_limited : (c : Cause) (us : List Lexeme) (t : Lexeme) (others : List Lexeme) → Contains us t → IsStopped c (limited us) (t ∷ others)
stopped_limited C.Deep us t others h = h
stopped_limited C.Form us t others h = tt
stopped_limited C.Item us t others h = tt
stopped_limited C.Type us t others h = refl

none_stands : (c : Cause) (end : ℕ) (u : List Lexeme) → (c ≡ C.Item → ⊥) → ItemIsCause c end u → ItemCanStand end u → ⊥
none_stands C.Item end u n h i = n refl
none_stands C.Deep end u n h i = h i
none_stands C.Form end u n h i = h i
none_stands C.Type end u n h i = h i

module _ (end : ℕ) (ts rest : List Lexeme) (c : Cause) (stop : Refuses end ts rest c) where
  on_with : (s : Scope) (t : Lexeme) (others : List Lexeme) → rest ≡ t ∷ others → GoesOn (file_in end s) stop.before rest → Begins (file_in end s) (stop.before ++ t ∷ [])
  on_with s t others e g =
      let f : g.0 ∷ g.1 ≡ t ∷ others = sym g.2 ∙ e in
      let same : g.0 ≡ t = cc in
      let F : Lexeme → Type 0 = λ x. Begins (file_in end s) (stop.before ++ x ∷ []) in
      subst F same g.3

  told : (t : Lexeme) (others : List Lexeme) → rest ≡ t ∷ others → IsTold end stop.before t c
  told t others e = record {
    deep = λ h. on_with plain t others e (stop.goes plain (let F : Cause → Type 0 = λ d. IsPassed d plain in subst F (sym h) refl));
    dead = λ n b. stop.first plain (stopped c plain rest n (λ h. refl)) t others e b;
    type = λ h. on_with unbounded t others e (stop.goes unbounded (let F : Cause → Type 0 = λ d. IsPassed d unbounded in subst F (sym h) refl));
    bounded = λ n m b. stop.first unbounded (stopped c unbounded rest n (λ h. absurd (m h))) t others e b;
    item = λ h. (let F : Cause → Type 0 = λ d. ItemIsCause d end stop.before in subst F h stop.item);
    none = λ n i. none_stands c end stop.before n stop.item i;
  }

  -- a token that cannot stand there
  pub token_fault : (t : Lexeme) (others : List Lexeme) → rest ≡ t ∷ others
      → IsGrammarFault end ts (record { reason = unless_deep c (form_reason c t.kind (ends_with is_left_out_name stop.before)); at = t.at })
  token_fault t others e =
      let us = stop.before ++ t ∷ [] in
      let F : List Lexeme → Type 0 = λ r. IsStopped c (limited us) r in
      at_token stop.before others t (stop.parts ∙ ap (λ (r : List Lexeme). stop.before ++ r) e) (stop.begins (limited stop.before))
      (stop.first (limited us) (subst F (sym e) (stopped_limited c us t others (Contains-push stop.before t))) t others e)
      refl (reason_is end stop.before t c (told t others e))

  -- the end, where a file would go on
  pub end_fault : rest ≡ [] → IsGrammarFault end ts (record { reason = Syntax; at = end })
  end_fault e =
      let same : ts ≡ stop.before = stop.parts ∙ ap (λ (r : List Lexeme). stop.before ++ r) e ∙ append-nil stop.before in
      let F : List Lexeme → Type 0 = λ u. Begins (file_in end (limited ts)) u in
      at_end (subst F (sym same) (stop.begins (limited ts))) (λ x h. stop.ends e plain x h) refl refl

-- ---- two parts of one list, the last ones of one length

pub parts_same : {X : Type 0} (xs ys us vs : List X) → xs ++ ys ≡ us ++ vs → length ys ≡ length vs → (xs ≡ us) × (ys ≡ vs)
parts_same [] ys [] vs e l = (refl, e)
parts_same [] ys (u ∷ us) vs e l = absurd (omega (arith, ap length e, l, length-append us vs))
parts_same (x ∷ xs) ys [] vs e l = absurd (omega (arith, ap length e, l, length-append xs ys))
parts_same (x ∷ xs) ys (u ∷ us) vs e l =
    let h : x ≡ u = cc in
    let f : xs ++ ys ≡ us ++ vs = cc in
    let r = parts_same xs ys us vs f l in
    (cc, r.1)
