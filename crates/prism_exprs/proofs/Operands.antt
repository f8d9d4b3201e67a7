-- The steps of the reader of operands over kept tokens: truth values and parentheses.
use Rattle.std.proofs.Common.{◌≡◌, ℕ, true, false, List, ◌∷◌, refl, sym, ap, subst, ◌∙◌, map, length}
use Rattle.op_trees.specs.Tree.{Truth}
use Rattle.prism_lex.specs.declared.token.TokenKind.TheVariants as K
use Rattle.prism_lex.specs.declared.words.Reserved.{Reserved}
use Rattle.prism_lex.specs.declared.words.Reserved.TheVariants as W
use Rattle.prism_lex.specs.declared.symbols.Symbol.{Symbol}
use Rattle.prism_lex.specs.declared.symbols.Symbol.TheVariants as S
use Rattle.prism_lex.specs.Tokens.{Lexeme}
use Rattle.prism_exprs.specs.declared.tokens.Kept.{Kept}
use Rattle.prism_exprs.specs.declared.tokens.Kept.TheVariants as H
use Rattle.prism_exprs.specs.declared.tokens.Found.{Found}
use Rattle.prism_exprs.specs.declared.tokens.Literal.{Literal}
use Rattle.prism_exprs.specs.declared.tokens.Stop.{Stop}
use Rattle.prism_tree.specs.Syntax.{Expression, moved}
use Rattle.prism_tree.specs.Lang.{Lang, gives, ◌>>=◌}
use Rattle.prism_exprs.specs.Kept.{is_ascii_text, lexeme_at, lexeme_by, text_at}
use Rattle.prism_exprs.specs.Reading.{none, Reads, Fails, Stops}
use Rattle.prism_tree.specs.Grammar.{symbol, word, truth, parenthesised, prim, expr}
use Rattle.prism_exprs.specs.Levels.{more, goes_on, begins_prim}
use Rattle.prism_exprs.proofs.Laws.{token_one, token_word, token_follows, token_reads, gives_word, then_word}
use Rattle.prism_exprs.proofs.Loops.{Leads, leads_on, begin, step, step_to, halt_at}
use Rattle.prism_exprs.proofs.Keeping.{place_kept, of_name}
use Rattle.prism_exprs.proofs.Symbols.{map_empty}
use Rattle.prism_exprs.proofs.Exprs.{expr_one}
use Rattle.prism_exprs.proofs.Prims.{prim_true, prim_false, prim_parenthesis, prim_fails, prim_fails_end}
use Rattle.prism_exprs.proofs.Conditionals.{map_cons}

-- the first token of the list, as the grammar sees it
pub kind_kept : (bytes : List ℕ) (literals : List Literal) (x : Found) (k : Kept) → x.kind ≡ k → (lexeme_at bytes literals x).kind ≡ (lexeme_by bytes literals k x.at x.size).kind
kind_kept bytes literals x k h = ap (λ (j : Kept). (lexeme_by bytes literals j x.at x.size).kind) h

pub word_reads : (bytes : List ℕ) (literals : List Literal) (found xs : List Found) (x : Found) (r : Reserved) (us : List Lexeme) → found ≡ x ∷ xs → x.kind ≡ H.Word r → us ≡ map (lexeme_at bytes literals) xs →
    Reads (word r) none (map (lexeme_at bytes literals) found) (lexeme_at bytes literals x) us
word_reads bytes literals found xs x r us e h g =
    let f = lexeme_at bytes literals in
    token_reads (f x) us (map_cons f found xs x e ∙ ap (λ (u : List Lexeme). f x ∷ u) (sym g)) (kind_kept bytes literals x (H.Word r) h)

first_symbol_reads : (bytes : List ℕ) (literals : List Literal) (found xs : List Found) (x : Found) (s : Symbol) (us : List Lexeme) → found ≡ x ∷ xs → x.kind ≡ H.Symbol s → us ≡ map (lexeme_at bytes literals) xs →
    Reads (symbol s) none (map (lexeme_at bytes literals) found) (lexeme_at bytes literals x) us
first_symbol_reads bytes literals found xs x s us e h g =
    let f = lexeme_at bytes literals in
    token_reads (f x) us (map_cons f found xs x e ∙ ap (λ (u : List Lexeme). f x ∷ u) (sym g)) (kind_kept bytes literals x (H.Symbol s) h)

place : (bytes : List ℕ) (literals : List Literal) (x : Found) → (lexeme_at bytes literals x).at ≡ x.at
place bytes literals x = place_kept bytes literals x.kind x.at x.size

pub true_leads : (bytes : List ℕ) (literals : List Literal) (found xs : List Found) (x : Found) (us : List Lexeme) → found ≡ x ∷ xs → x.kind ≡ H.Word W.True → us ≡ map (lexeme_at bytes literals) xs →
    Leads (more 0) (prim expr) (map (lexeme_at bytes literals) found) (gives (Truth x.at true)) us
unfolding truth
true_leads bytes literals found xs x us e h g =
    let f = lexeme_at bytes literals in
    let F : ℕ → Type 0 = λ n. Leads (more 0) (prim expr) (map f found) (gives (Truth n true)) us in
    subst F (place bytes literals x)
    (leads_on (prim_true (map f found) (map f xs) (f x) (map_cons f found xs x e) (kind_kept bytes literals x (H.Word W.True) h))
    (step _ _ (begin (truth W.True true) (more 0) (map f found)) (token_one _) (word_reads bytes literals found xs x W.True us e h g)))

pub false_leads : (bytes : List ℕ) (literals : List Literal) (found xs : List Found) (x : Found) (us : List Lexeme) → found ≡ x ∷ xs → x.kind ≡ H.Word W.False → us ≡ map (lexeme_at bytes literals) xs →
    Leads (more 0) (prim expr) (map (lexeme_at bytes literals) found) (gives (Truth x.at false)) us
unfolding truth
false_leads bytes literals found xs x us e h g =
    let f = lexeme_at bytes literals in
    let F : ℕ → Type 0 = λ n. Leads (more 0) (prim expr) (map f found) (gives (Truth n false)) us in
    subst F (place bytes literals x)
    (leads_on (prim_false (map f found) (map f xs) (f x) (map_cons f found xs x e) (kind_kept bytes literals x (H.Word W.False) h))
    (step _ _ (begin (truth W.False false) (more 0) (map f found)) (token_one _) (word_reads bytes literals found xs x W.False us e h g)))

-- what stands behind an opening parenthesis at this offset
abbrev pub behind_open : ℕ → Lang Expression
behind_open at = expr >>= λ e. symbol S.RightParenthesis >>= λ c. gives (moved at e)

pub open_leads : (bytes : List ℕ) (literals : List Literal) (found xs : List Found) (x : Found) (us : List Lexeme) → found ≡ x ∷ xs → x.kind ≡ H.Symbol S.LeftParenthesis → us ≡ map (lexeme_at bytes literals) xs →
    Leads (more 0) (prim expr) (map (lexeme_at bytes literals) found) (behind_open x.at) us
unfolding parenthesised
open_leads bytes literals found xs x us e h g =
    let f = lexeme_at bytes literals in
    let F : ℕ → Type 0 = λ n. Leads (more 0) (prim expr) (map f found) (behind_open n) us in
    subst F (place bytes literals x)
    (leads_on (prim_parenthesis (map f found) (map f xs) (f x) (map_cons f found xs x e) (kind_kept bytes literals x (H.Symbol S.LeftParenthesis) h))
    (step _ _ (begin (parenthesised expr) (more 0) (map f found)) (token_one _) (first_symbol_reads bytes literals found xs x S.LeftParenthesis us e h g)))

pub inner_stops : (ts us : List Lexeme) (at : ℕ) (e : Stop) → Leads (more 0) (prim expr) ts (behind_open at) us → Stops expr goes_on us e → Stops (prim expr) (more 0) ts e
inner_stops ts us at e l p = halt_at _ _ l (λ x. then_word (token_word _) (λ c. gives_word (moved at x))) (token_follows goes_on (K.Symbol S.RightParenthesis) _ (more 0) refl) e p

pub inner_leads : (ts us vs : List Lexeme) (at : ℕ) (x : Expression) → Leads (more 0) (prim expr) ts (behind_open at) us → Reads expr goes_on us x vs → Leads (more 0) (prim expr) ts (symbol S.RightParenthesis >>= λ c. gives (moved at x)) vs
inner_leads ts us vs at x l p = step_to _ _ l expr_one (token_follows goes_on (K.Symbol S.RightParenthesis) _ (more 0) refl) p

pub operand_missing : (f : Found → Lexeme) (found : List Found) → length found ≡ 0 → Fails (prim expr) (more 0) (map f found) (map f found)
operand_missing f found e = prim_fails_end (map f found) (map_empty f found e)

pub no_operand : (f : Found → Lexeme) (found xs : List Found) (x : Found) → found ≡ x ∷ xs → begins_prim (f x).kind ≡ false → Fails (prim expr) (more 0) (map f found) (map f found)
no_operand f found xs x e h = prim_fails (map f found) (map f xs) (f x) (map_cons f found xs x e) h

-- ---- tokens that begin no operand

pub other_word : (bytes : List ℕ) (literals : List Literal) (found xs : List Found) (x : Found) (r : Reserved) → found ≡ x ∷ xs → x.kind ≡ H.Word r → (r ≡ W.True → ⊥) → (r ≡ W.False → ⊥) → (r ≡ W.Min → ⊥) → (r ≡ W.Max → ⊥) →
    Fails (prim expr) (more 0) (map (lexeme_at bytes literals) found) (map (lexeme_at bytes literals) found)
other_word bytes literals found xs x r e h a b c d =
    no_operand _ found xs x e (ap begins_prim (kind_kept bytes literals x (H.Word r) h) ∙ begins_none r a b c d)
  where
    begins_none : (r : Reserved) → (r ≡ W.True → ⊥) → (r ≡ W.False → ⊥) → (r ≡ W.Min → ⊥) → (r ≡ W.Max → ⊥) → begins_prim (K.Word r) ≡ false
    begins_none W.True a b c d = absurd (a refl)
    begins_none W.False a b c d = absurd (b refl)
    begins_none W.Min a b c d = absurd (c refl)
    begins_none W.Max a b c d = absurd (d refl)
    begins_none r a b c d = refl

pub other_symbol : (bytes : List ℕ) (literals : List Literal) (found xs : List Found) (x : Found) (s : Symbol) → found ≡ x ∷ xs → x.kind ≡ H.Symbol s → (s ≡ S.LeftParenthesis → ⊥) →
    Fails (prim expr) (more 0) (map (lexeme_at bytes literals) found) (map (lexeme_at bytes literals) found)
other_symbol bytes literals found xs x s e h a = no_operand _ found xs x e (ap begins_prim (kind_kept bytes literals x (H.Symbol s) h) ∙ begins_none s a)
  where
    begins_none : (s : Symbol) → (s ≡ S.LeftParenthesis → ⊥) → begins_prim (K.Symbol s) ≡ false
    begins_none S.LeftParenthesis a = absurd (a refl)
    begins_none s a = refl

pub quoted_name : (bytes : List ℕ) (literals : List Literal) (found xs : List Found) (x : Found) → found ≡ x ∷ xs → x.kind ≡ H.Quoted →
    Fails (prim expr) (more 0) (map (lexeme_at bytes literals) found) (map (lexeme_at bytes literals) found)
quoted_name bytes literals found xs x e h =
    let w = text_at bytes x.at x.size in
    no_operand _ found xs x e (ap begins_prim (kind_kept bytes literals x H.Quoted h) ∙ of_name (is_ascii_text w) K.Quoted w x.at begins_prim false refl refl)
