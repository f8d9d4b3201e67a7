-- Languages that are the same, kinds that differ, and what a token closes.
use Rattle.std.proofs.Common.{◌≡◌, Bool, true, false, List, Some, None, refl, sym, subst, ◌∙◌, inl, inr}
use Rattle.std.specs.Prelude.{◌⊎◌}
use Rattle.std.proofs.lemmas.Bool.{or_left}
use Rattle.basics.specs.Booleans.{second_false}
use Rattle.prism_lex.specs.declared.token.TokenKind.{TokenKind}
use Rattle.prism_lex.specs.declared.token.TokenKind.TheVariants as K
use Rattle.prism_lex.specs.declared.symbols.Symbol.TheVariants as S
use Rattle.prism_lex.specs.Tokens.{Lexeme}
use Rattle.prism_tree.specs.Lang.{Lang, token, ◌>>=◌, ◌>>◌, optional}
use Rattle.prism_exprs.specs.Reading.{none, is_kind, same_kind}
use Rattle.prism_exprs.specs.Levels.{goes_on}
use Rattle.prism_exprs.specs.Scope.{Scope, expressions}
use Rattle.prism_exprs.proofs.Laws.{IsOne, HasWord, token_follows, then_one, then_word, step_one, token_one, token_word, gives_one, gives_word}
use Rattle.prism_exprs.proofs.Choice.{Same, Opens, token_opens, then_opens, or_word}
use Rattle.prism_exprs.proofs.Cut.{gives_or_one}
use Rattle.prism_exprs.proofs.Exprs.{one_within, gives_follows}
use Rattle.prism_exprs.proofs.Grouping.{same_trans, same_sym, assoc, same_then, gives_then}
use Rattle.prism_exprs.proofs.Outer.{expressions_one}
use Rattle.prism_items.specs.Parts.{in_scope, closed_by, definition, expression_from}
use Rattle.prism_items.proofs.Leading.{Leads, leads_on, same_leads}

-- ---- the same languages

pub same_one : {A : Type 0} {L M : Lang A} {more : TokenKind → Bool} → Same L M → IsOne M more → IsOne L more
same_one p l = record { one = λ w z v y a b g h. l.one w z v y a b (p.to w a g) (p.to v b h) }

-- ---- kinds

pub differ : (a b : TokenKind) → same_kind b b ≡ true → same_kind a b ≡ false → (k : TokenKind) → k ≡ a → k ≡ b → ⊥
differ a b e f k g h =
    let F : TokenKind → Type 0 = λ j. same_kind j b ≡ false in
    let n : same_kind b b ≡ false = subst F (sym g ∙ h) f in
    let m : same_kind b b ≡ true = e in
    absurd cc

pub either_way : {P Q R : Type 0} → (P → Q → ⊥) → (P → R → ⊥) → P → Q ⊎ R → ⊥
either_way f g p (inl q) = f p q
either_way f g p (inr r) = g p r

pub opens_in : {A : Type 0} {L : Lang A} (P Q : TokenKind → Type 0) → Opens L P → ((k : TokenKind) → P k → Q k) → Opens L Q
opens_in P Q o h w a p = let n = o w a p in (n.0, n.1, n.2, h (n.0).kind n.3)

-- a test that a kind passes, at a token of this kind
pub passes : (test : TokenKind → Bool) (kind : TokenKind) (b : Bool) → test kind ≡ b → (k : TokenKind) → k ≡ kind → test k ≡ b
passes test kind b e k h = let F : TokenKind → Type 0 = λ j. test j ≡ b in subst F (sym h) e

-- ---- what a token closes

pub closed_one : {A : Type 0} (k : TokenKind) (m : TokenKind → Bool) {L : Lang A} → IsOne L m → m k ≡ false → IsOne (closed_by k L) none
unfolding closed_by
closed_one k m l h = then_one m l (λ x. step_one _ (token_one k) (λ t. gives_one x none)) (token_follows m k _ none h)

pub closed_word : {A : Type 0} (k : TokenKind) {L : Lang A} → HasWord L → HasWord (closed_by k L)
unfolding closed_by
closed_word k l = then_word l (λ x. then_word (token_word k) (λ t. gives_word x))

pub closed-same : {A B : Type 0} (k : TokenKind) (L : Lang A) (N : A → Lang B) → Same (L >>= λ x. token k >>= λ t. N x) (closed_by k L >>= N)
unfolding closed_by
closed-same k L N =
    same_sym (same_trans (assoc L _ _) (same_then L _ _ (λ x. same_trans (assoc (token k) _ _) (same_then (token k) _ _ (λ t. gives_then x N)))))

-- The part that comes next is read with the token that closes it.
pub closing : {A B : Type 0} (k : TokenKind) (K : Lang A) (N : A → Lang B) {L : Lang B} {more : TokenKind → Bool} {ts us : List Lexeme} → Leads more L ts (K >>= λ x. token k >>= λ t. N x) us → Leads more L ts (closed_by k K >>= N) us
closing k K N {more = more} {us = us} l = leads_on l (same_leads more us (closed-same k K N))

-- The two parts that come next are read together.
pub grouping : {A B D : Type 0} (K : Lang A) (M : A → Lang B) (N : B → Lang D) {L : Lang D} {more : TokenKind → Bool} {ts us : List Lexeme} → Leads more L ts (K >>= λ x. M x >>= N) us → Leads more L ts ((K >>= M) >>= N) us
grouping K M N {more = more} {us = us} l = leads_on l (same_leads more us (same_sym (assoc K M N)))

-- The same, where the part that is closed stands behind a token.
pub defining : {A B D : Type 0} (M : Lang D) (k : TokenKind) (K : Lang A) (N : A → Lang B) {L : Lang B} {more : TokenKind → Bool} {ts us : List Lexeme} →
    Leads more L ts (M >>= λ d. K >>= λ x. token k >>= λ t. N x) us → Leads more L ts ((M >>= λ d. closed_by k K) >>= N) us
defining M k K N {more = more} {us = us} l = grouping M (λ d. closed_by k K) N (leads_on l (same_leads more us (same_then M _ _ (λ d. closed-same k K N))))

-- The same, where this part has two parts.
pub enclosing : {A B C D : Type 0} (M : Lang D) (k : TokenKind) (K : Lang A) (F : A → Lang C) (N : C → Lang B) {L : Lang B} {more : TokenKind → Bool} {ts us : List Lexeme} →
    Leads more L ts (M >>= λ d. K >>= λ a. F a >>= λ x. token k >>= λ t. N x) us → Leads more L ts ((M >>= λ d. closed_by k (K >>= F)) >>= N) us
enclosing M k K F N {more = more} {us = us} l = defining M k (K >>= F) N (leads_on l (same_leads more us (same_then M _ _ (λ d. same_sym (assoc K F _)))))

-- ---- an expression, and what closes it

pub closed_expression_one : (s : Scope) (k : TokenKind) → goes_on k ≡ false → IsOne (closed_by k (expressions s)) none
closed_expression_one s k h = closed_one k goes_on (expressions_one s) h

pub definition_one : (s : Scope) → IsOne (in_scope definition s) none
definition_one s = step_one _ (token_one _) (λ t. closed_expression_one s _ refl)

-- ---- an expression that may be missing

pub optional_one : (s : Scope) (k : TokenKind) → same_kind k k ≡ true → IsOne (optional (token k >> expressions s)) (expression_from k)
optional_one s k same =
    gives_or_one None (λ j. j ≡ k) (then_opens _ _ (then_opens _ _ (token_opens k))) (λ j h. or_left _ _ (let F : TokenKind → Type 0 = λ i. same_kind i k ≡ true in subst F (sym h) same))
    (one_within (λ j h. second_false (is_kind k j) _ h) (then_one goes_on (step_one _ (token_one k) (λ t. expressions_one s)) (λ x. gives_one (Some x) goes_on) (gives_follows (λ x. Some x) goes_on)))

pub optional_word : {A : Type 0} (L : Lang A) → HasWord (optional L)
optional_word L = or_word _ _ (gives_word None)

-- [ K E ] ;
pub ended_one : (s : Scope) (k : TokenKind) → same_kind k k ≡ true → expression_from k (K.Symbol S.Semicolon) ≡ false → IsOne (closed_by (K.Symbol S.Semicolon) (optional (token k >> expressions s))) none
ended_one s k same h = closed_one _ (expression_from k) (optional_one s k same) h
