-- Operands: which alternative the first token begins, and where none of them stands.
use Rattle.std.proofs.Common.{◌≡◌, Bool, true, false, List, [], ◌∷◌, ◌++◌, Option, Some, None, sym, ap, subst, ◌∙◌, inl, inr}
use Rattle.std.specs.Prelude.{◌⊎◌}
use Rattle.frac_core.specs.declared.decimal.Decimal.{Decimal}
use Rattle.prism_lex.specs.declared.token.TokenKind.{TokenKind}
use Rattle.prism_lex.specs.declared.token.TokenKind.TheVariants as K
use Rattle.prism_lex.specs.declared.words.Reserved.TheVariants as W
use Rattle.prism_lex.specs.declared.symbols.Symbol.TheVariants as S
use Rattle.prism_lex.specs.Tokens.{Lexeme}
use Rattle.prism_tree.specs.declared.operator.PrismOp.TheVariants as O
use Rattle.prism_tree.specs.Lang.{Lang, token_with, ◌or◌}
use Rattle.prism_exprs.specs.Reading.{next, Fails}
use Rattle.prism_tree.specs.Grammar.{number_at, parenthesised, name_or_call, extremum, truth, prim, expr}
use Rattle.prism_exprs.specs.Levels.{more, begins_prim}
use Rattle.prism_exprs.proofs.Choice.{Same, Barred, Opens, or_barred, barred_fails}
use Rattle.prism_exprs.proofs.Loops.{Leads, leads_on, begin, same_leads, or_leads_right}
use Rattle.prism_exprs.proofs.Exprs.{IsNumber, number_opens, truth_opens, name_opens, parenthesised_opens, extremum_opens, prim_opens, prim_word}

-- A language whose words begin with other tokens is barred.
pub opens_barred : {A : Type 0} (L : Lang A) (m : TokenKind → Bool) (ts us : List Lexeme) (t : Lexeme) (P : TokenKind → Type 0) → Opens L P → ts ≡ t ∷ us → (P t.kind → ⊥) → Barred L m ts
opens_barred L m ts us t P o e never other w z x n f h g =
    let i = o w x h in
    let j : next other ≡ Some i.0 = ap next (f ∙ ap (λ (u : List Lexeme). u ++ z) i.2) in
    let k : ◌≡◌ {A = Option Lexeme} (Some t) (Some i.0) = sym (ap next e) ∙ sym n ∙ j in
    let s : t ≡ i.0 = cc in
    let F : Lexeme → Type 0 = λ u. P u.kind in
    never (subst F (sym s) i.3)

-- At the end nothing stands that has a first token.
pub opens_barred_end : {A : Type 0} (L : Lang A) (m : TokenKind → Bool) (ts : List Lexeme) (P : TokenKind → Type 0) → Opens L P → ts ≡ [] → Barred L m ts
opens_barred_end L m ts P o e other w z x n f h g =
    let i = o w x h in
    let j : next other ≡ Some i.0 = ap next (f ∙ ap (λ (u : List Lexeme). u ++ z) i.2) in
    let k : ◌≡◌ {A = Option Lexeme} None (Some i.0) = sym (ap next e) ∙ sym n ∙ j in
    absurd cc

or_swap : {A : Type 0} (L M : Lang A) → Same (L or M) (M or L)
unfolding ◌or◌
or_swap {A} L M = record { to = to; from = from }
  where
    to : (w : List Lexeme) (x : A) → L w x ⊎ M w x → M w x ⊎ L w x
    to w x (inl h) = inr h
    to w x (inr h) = inl h

    from : (w : List Lexeme) (x : A) → M w x ⊎ L w x → L w x ⊎ M w x
    from w x (inl h) = inr h
    from w x (inr h) = inl h

pub or_leads_left : {A : Type 0} (L M : Lang A) (m : TokenKind → Bool) (ts : List Lexeme) → Barred M m ts → Leads m (L or M) ts L ts
or_leads_left L M m ts b = leads_on (same_leads m ts (or_swap L M)) (or_leads_right M L m ts b)

-- No operand begins with this token.
pub prim_fails : (ts us : List Lexeme) (t : Lexeme) → ts ≡ t ∷ us → begins_prim t.kind ≡ false → Fails (prim expr) (more 0) ts ts
prim_fails ts us t e h =
    barred_fails (prim expr) (more 0) ts (prim_word expr)
    (opens_barred _ (more 0) ts us t (λ k. begins_prim k ≡ true) (prim_opens expr) e (λ f. let g : ◌≡◌ {A = Bool} true false = sym f ∙ h in cc))

pub prim_fails_end : (ts : List Lexeme) → ts ≡ [] → Fails (prim expr) (more 0) ts ts
prim_fails_end ts e = barred_fails (prim expr) (more 0) ts (prim_word expr) (opens_barred_end _ (more 0) ts (λ k. begins_prim k ≡ true) (prim_opens expr) e)

pub prim_true : (ts us : List Lexeme) (t : Lexeme) → ts ≡ t ∷ us → t.kind ≡ K.Word W.True → Leads (more 0) (prim expr) ts (truth W.True true) ts
unfolding prim
prim_true ts us t e h =
    or_leads_left _ _ (more 0) ts
    (or_barred _ _ (more 0) ts (opens_barred _ (more 0) ts us t (λ k. k ≡ K.Word W.False) (truth_opens W.False false) e (λ f. let q : ◌≡◌ {A = TokenKind} (K.Word W.True) (K.Word W.False) = sym h ∙ f in cc))
    (or_barred _ _ (more 0) ts (opens_barred _ (more 0) ts us t (λ k. IsNumber k) (number_opens) e (λ f. let q : ◌≡◌ {A = TokenKind} (K.Word W.True) (K.Number f.0) = sym h ∙ f.1 in cc))
    (or_barred _ _ (more 0) ts (opens_barred _ (more 0) ts us t (λ k. k ≡ K.Ident) (name_opens expr) e (λ f. let q : ◌≡◌ {A = TokenKind} (K.Word W.True) (K.Ident) = sym h ∙ f in cc))
    (or_barred _ _ (more 0) ts (opens_barred _ (more 0) ts us t (λ k. k ≡ K.Symbol S.LeftParenthesis) (parenthesised_opens expr) e (λ f. let q : ◌≡◌ {A = TokenKind} (K.Word W.True) (K.Symbol S.LeftParenthesis) = sym h ∙ f in cc))
    (or_barred _ _ (more 0) ts (opens_barred _ (more 0) ts us t (λ k. k ≡ K.Word W.Min) (extremum_opens expr W.Min O.Min) e (λ f. let q : ◌≡◌ {A = TokenKind} (K.Word W.True) (K.Word W.Min) = sym h ∙ f in cc))
    (opens_barred _ (more 0) ts us t (λ k. k ≡ K.Word W.Max) (extremum_opens expr W.Max O.Max) e (λ f. let q : ◌≡◌ {A = TokenKind} (K.Word W.True) (K.Word W.Max) = sym h ∙ f in cc)))))))

pub prim_false : (ts us : List Lexeme) (t : Lexeme) → ts ≡ t ∷ us → t.kind ≡ K.Word W.False → Leads (more 0) (prim expr) ts (truth W.False false) ts
unfolding prim
prim_false ts us t e h =
    leads_on (or_leads_right _ _ (more 0) ts (opens_barred _ (more 0) ts us t (λ k. k ≡ K.Word W.True) (truth_opens W.True true) e (λ f. let q : ◌≡◌ {A = TokenKind} (K.Word W.False) (K.Word W.True) = sym h ∙ f in cc)))
    (or_leads_left _ _ (more 0) ts
    (or_barred _ _ (more 0) ts (opens_barred _ (more 0) ts us t (λ k. IsNumber k) (number_opens) e (λ f. let q : ◌≡◌ {A = TokenKind} (K.Word W.False) (K.Number f.0) = sym h ∙ f.1 in cc))
    (or_barred _ _ (more 0) ts (opens_barred _ (more 0) ts us t (λ k. k ≡ K.Ident) (name_opens expr) e (λ f. let q : ◌≡◌ {A = TokenKind} (K.Word W.False) (K.Ident) = sym h ∙ f in cc))
    (or_barred _ _ (more 0) ts (opens_barred _ (more 0) ts us t (λ k. k ≡ K.Symbol S.LeftParenthesis) (parenthesised_opens expr) e (λ f. let q : ◌≡◌ {A = TokenKind} (K.Word W.False) (K.Symbol S.LeftParenthesis) = sym h ∙ f in cc))
    (or_barred _ _ (more 0) ts (opens_barred _ (more 0) ts us t (λ k. k ≡ K.Word W.Min) (extremum_opens expr W.Min O.Min) e (λ f. let q : ◌≡◌ {A = TokenKind} (K.Word W.False) (K.Word W.Min) = sym h ∙ f in cc))
    (opens_barred _ (more 0) ts us t (λ k. k ≡ K.Word W.Max) (extremum_opens expr W.Max O.Max) e (λ f. let q : ◌≡◌ {A = TokenKind} (K.Word W.False) (K.Word W.Max) = sym h ∙ f in cc)))))))

pub prim_number : (ts us : List Lexeme) (t : Lexeme) (d : Decimal) → ts ≡ t ∷ us → t.kind ≡ K.Number d → Leads (more 0) (prim expr) ts (token_with number_at) ts
unfolding prim
prim_number ts us t d e h =
    leads_on (or_leads_right _ _ (more 0) ts (opens_barred _ (more 0) ts us t (λ k. k ≡ K.Word W.True) (truth_opens W.True true) e (λ f. let q : ◌≡◌ {A = TokenKind} (K.Number d) (K.Word W.True) = sym h ∙ f in cc)))
    (leads_on (or_leads_right _ _ (more 0) ts (opens_barred _ (more 0) ts us t (λ k. k ≡ K.Word W.False) (truth_opens W.False false) e (λ f. let q : ◌≡◌ {A = TokenKind} (K.Number d) (K.Word W.False) = sym h ∙ f in cc)))
    (or_leads_left _ _ (more 0) ts
    (or_barred _ _ (more 0) ts (opens_barred _ (more 0) ts us t (λ k. k ≡ K.Ident) (name_opens expr) e (λ f. let q : ◌≡◌ {A = TokenKind} (K.Number d) (K.Ident) = sym h ∙ f in cc))
    (or_barred _ _ (more 0) ts (opens_barred _ (more 0) ts us t (λ k. k ≡ K.Symbol S.LeftParenthesis) (parenthesised_opens expr) e (λ f. let q : ◌≡◌ {A = TokenKind} (K.Number d) (K.Symbol S.LeftParenthesis) = sym h ∙ f in cc))
    (or_barred _ _ (more 0) ts (opens_barred _ (more 0) ts us t (λ k. k ≡ K.Word W.Min) (extremum_opens expr W.Min O.Min) e (λ f. let q : ◌≡◌ {A = TokenKind} (K.Number d) (K.Word W.Min) = sym h ∙ f in cc))
    (opens_barred _ (more 0) ts us t (λ k. k ≡ K.Word W.Max) (extremum_opens expr W.Max O.Max) e (λ f. let q : ◌≡◌ {A = TokenKind} (K.Number d) (K.Word W.Max) = sym h ∙ f in cc)))))))

pub prim_name : (ts us : List Lexeme) (t : Lexeme) → ts ≡ t ∷ us → t.kind ≡ K.Ident → Leads (more 0) (prim expr) ts (name_or_call expr) ts
unfolding prim
prim_name ts us t e h =
    leads_on (or_leads_right _ _ (more 0) ts (opens_barred _ (more 0) ts us t (λ k. k ≡ K.Word W.True) (truth_opens W.True true) e (λ f. let q : ◌≡◌ {A = TokenKind} (K.Ident) (K.Word W.True) = sym h ∙ f in cc)))
    (leads_on (or_leads_right _ _ (more 0) ts (opens_barred _ (more 0) ts us t (λ k. k ≡ K.Word W.False) (truth_opens W.False false) e (λ f. let q : ◌≡◌ {A = TokenKind} (K.Ident) (K.Word W.False) = sym h ∙ f in cc)))
    (leads_on (or_leads_right _ _ (more 0) ts (opens_barred _ (more 0) ts us t (λ k. IsNumber k) (number_opens) e (λ f. let q : ◌≡◌ {A = TokenKind} (K.Ident) (K.Number f.0) = sym h ∙ f.1 in cc)))
    (or_leads_left _ _ (more 0) ts
    (or_barred _ _ (more 0) ts (opens_barred _ (more 0) ts us t (λ k. k ≡ K.Symbol S.LeftParenthesis) (parenthesised_opens expr) e (λ f. let q : ◌≡◌ {A = TokenKind} (K.Ident) (K.Symbol S.LeftParenthesis) = sym h ∙ f in cc))
    (or_barred _ _ (more 0) ts (opens_barred _ (more 0) ts us t (λ k. k ≡ K.Word W.Min) (extremum_opens expr W.Min O.Min) e (λ f. let q : ◌≡◌ {A = TokenKind} (K.Ident) (K.Word W.Min) = sym h ∙ f in cc))
    (opens_barred _ (more 0) ts us t (λ k. k ≡ K.Word W.Max) (extremum_opens expr W.Max O.Max) e (λ f. let q : ◌≡◌ {A = TokenKind} (K.Ident) (K.Word W.Max) = sym h ∙ f in cc)))))))

pub prim_parenthesis : (ts us : List Lexeme) (t : Lexeme) → ts ≡ t ∷ us → t.kind ≡ K.Symbol S.LeftParenthesis → Leads (more 0) (prim expr) ts (parenthesised expr) ts
unfolding prim
prim_parenthesis ts us t e h =
    leads_on (or_leads_right _ _ (more 0) ts (opens_barred _ (more 0) ts us t (λ k. k ≡ K.Word W.True) (truth_opens W.True true) e (λ f. let q : ◌≡◌ {A = TokenKind} (K.Symbol S.LeftParenthesis) (K.Word W.True) = sym h ∙ f in cc)))
    (leads_on (or_leads_right _ _ (more 0) ts (opens_barred _ (more 0) ts us t (λ k. k ≡ K.Word W.False) (truth_opens W.False false) e (λ f. let q : ◌≡◌ {A = TokenKind} (K.Symbol S.LeftParenthesis) (K.Word W.False) = sym h ∙ f in cc)))
    (leads_on (or_leads_right _ _ (more 0) ts (opens_barred _ (more 0) ts us t (λ k. IsNumber k) (number_opens) e (λ f. let q : ◌≡◌ {A = TokenKind} (K.Symbol S.LeftParenthesis) (K.Number f.0) = sym h ∙ f.1 in cc)))
    (leads_on (or_leads_right _ _ (more 0) ts (opens_barred _ (more 0) ts us t (λ k. k ≡ K.Ident) (name_opens expr) e (λ f. let q : ◌≡◌ {A = TokenKind} (K.Symbol S.LeftParenthesis) (K.Ident) = sym h ∙ f in cc)))
    (or_leads_left _ _ (more 0) ts
    (or_barred _ _ (more 0) ts (opens_barred _ (more 0) ts us t (λ k. k ≡ K.Word W.Min) (extremum_opens expr W.Min O.Min) e (λ f. let q : ◌≡◌ {A = TokenKind} (K.Symbol S.LeftParenthesis) (K.Word W.Min) = sym h ∙ f in cc))
    (opens_barred _ (more 0) ts us t (λ k. k ≡ K.Word W.Max) (extremum_opens expr W.Max O.Max) e (λ f. let q : ◌≡◌ {A = TokenKind} (K.Symbol S.LeftParenthesis) (K.Word W.Max) = sym h ∙ f in cc)))))))

pub prim_min : (ts us : List Lexeme) (t : Lexeme) → ts ≡ t ∷ us → t.kind ≡ K.Word W.Min → Leads (more 0) (prim expr) ts (extremum expr W.Min O.Min) ts
unfolding prim
prim_min ts us t e h =
    leads_on (or_leads_right _ _ (more 0) ts (opens_barred _ (more 0) ts us t (λ k. k ≡ K.Word W.True) (truth_opens W.True true) e (λ f. let q : ◌≡◌ {A = TokenKind} (K.Word W.Min) (K.Word W.True) = sym h ∙ f in cc)))
    (leads_on (or_leads_right _ _ (more 0) ts (opens_barred _ (more 0) ts us t (λ k. k ≡ K.Word W.False) (truth_opens W.False false) e (λ f. let q : ◌≡◌ {A = TokenKind} (K.Word W.Min) (K.Word W.False) = sym h ∙ f in cc)))
    (leads_on (or_leads_right _ _ (more 0) ts (opens_barred _ (more 0) ts us t (λ k. IsNumber k) (number_opens) e (λ f. let q : ◌≡◌ {A = TokenKind} (K.Word W.Min) (K.Number f.0) = sym h ∙ f.1 in cc)))
    (leads_on (or_leads_right _ _ (more 0) ts (opens_barred _ (more 0) ts us t (λ k. k ≡ K.Ident) (name_opens expr) e (λ f. let q : ◌≡◌ {A = TokenKind} (K.Word W.Min) (K.Ident) = sym h ∙ f in cc)))
    (leads_on (or_leads_right _ _ (more 0) ts (opens_barred _ (more 0) ts us t (λ k. k ≡ K.Symbol S.LeftParenthesis) (parenthesised_opens expr) e (λ f. let q : ◌≡◌ {A = TokenKind} (K.Word W.Min) (K.Symbol S.LeftParenthesis) = sym h ∙ f in cc)))
    (or_leads_left _ _ (more 0) ts
    (opens_barred _ (more 0) ts us t (λ k. k ≡ K.Word W.Max) (extremum_opens expr W.Max O.Max) e (λ f. let q : ◌≡◌ {A = TokenKind} (K.Word W.Min) (K.Word W.Max) = sym h ∙ f in cc)))))))

pub prim_max : (ts us : List Lexeme) (t : Lexeme) → ts ≡ t ∷ us → t.kind ≡ K.Word W.Max → Leads (more 0) (prim expr) ts (extremum expr W.Max O.Max) ts
unfolding prim
prim_max ts us t e h =
    leads_on (or_leads_right _ _ (more 0) ts (opens_barred _ (more 0) ts us t (λ k. k ≡ K.Word W.True) (truth_opens W.True true) e (λ f. let q : ◌≡◌ {A = TokenKind} (K.Word W.Max) (K.Word W.True) = sym h ∙ f in cc)))
    (leads_on (or_leads_right _ _ (more 0) ts (opens_barred _ (more 0) ts us t (λ k. k ≡ K.Word W.False) (truth_opens W.False false) e (λ f. let q : ◌≡◌ {A = TokenKind} (K.Word W.Max) (K.Word W.False) = sym h ∙ f in cc)))
    (leads_on (or_leads_right _ _ (more 0) ts (opens_barred _ (more 0) ts us t (λ k. IsNumber k) (number_opens) e (λ f. let q : ◌≡◌ {A = TokenKind} (K.Word W.Max) (K.Number f.0) = sym h ∙ f.1 in cc)))
    (leads_on (or_leads_right _ _ (more 0) ts (opens_barred _ (more 0) ts us t (λ k. k ≡ K.Ident) (name_opens expr) e (λ f. let q : ◌≡◌ {A = TokenKind} (K.Word W.Max) (K.Ident) = sym h ∙ f in cc)))
    (leads_on (or_leads_right _ _ (more 0) ts (opens_barred _ (more 0) ts us t (λ k. k ≡ K.Symbol S.LeftParenthesis) (parenthesised_opens expr) e (λ f. let q : ◌≡◌ {A = TokenKind} (K.Word W.Max) (K.Symbol S.LeftParenthesis) = sym h ∙ f in cc)))
    (leads_on (or_leads_right _ _ (more 0) ts (opens_barred _ (more 0) ts us t (λ k. k ≡ K.Word W.Min) (extremum_opens expr W.Min O.Min) e (λ f. let q : ◌≡◌ {A = TokenKind} (K.Word W.Max) (K.Word W.Min) = sym h ∙ f in cc)))
    (begin _ (more 0) ts))))))
