-- Operands that stand alone, and chains that do not begin.
use Rattle.std.proofs.Common.{◌≡◌, ℕ, suc, true, false, List, [], ◌∷◌, Option, Some, None, refl, sym, subst, ◌∙◌, map, arith}
use Rattle.std.specs.Prelude.{IfOk, Result, Ok, Err}
use Rattle.std.proofs.lemmas.Bool.{or_parts}
use Rattle.prism_lex.specs.declared.token.TokenKind.TheVariants as K
use Rattle.prism_lex.specs.declared.symbols.Symbol.{Symbol}
use Rattle.prism_lex.specs.declared.symbols.Symbol.TheVariants as S
use Rattle.prism_lex.specs.Tokens.{Lexeme}
use Rattle.prism_tree.specs.declared.operator.PrismOp.{PrismOp}
use Rattle.prism_tree.specs.Syntax.{Expression}
use Rattle.prism_tree.specs.Grammar.{infix_of, at_level, prim, expr}
use Rattle.prism_exprs.specs.declared.tokens.Kept.{Kept}
use Rattle.prism_exprs.specs.declared.tokens.Kept.TheVariants as H
use Rattle.prism_exprs.specs.declared.tokens.Found.{Found}
use Rattle.prism_exprs.specs.declared.tokens.Stop.{Stop}
use Rattle.prism_exprs.specs.declared.tokens.Tokens.{Tokens}
use Rattle.prism_exprs.specs.Kept.{seen, lexeme_at, kept_symbol}
use Rattle.prism_exprs.specs.Reading.{Ends, Reads, Parses, starts, is_kind}
use Rattle.prism_exprs.specs.Levels.{is_symbol, binds_below, more, goes_on, others, is_operator, joins_at, kept_plain, IsLeaf}
use Rattle.prism_exprs.proofs.Choice.{FirstIs}
use Rattle.prism_exprs.proofs.Symbols.{symbol_same}
use Rattle.prism_exprs.proofs.Climb.{chain_end}
use Rattle.prism_exprs.proofs.Rising.{Unsigned, unsigned, rises, stop_rises}
use Rattle.prism_exprs.proofs.Conditionals.{map_cons, test_alone, test_stops}

-- ---- what goes on with an expression

ends_below : (us : List Lexeme) → Ends goes_on us → Ends (more 10) us
ends_below [] e = tt
ends_below (t ∷ us) e = (or_parts (is_symbol S.Question t.kind) (more 10 t.kind) e).1

no_question : (us : List Lexeme) → Ends goes_on us → starts (is_kind (K.Symbol S.Question)) us ≡ false
no_question [] e = refl
no_question (t ∷ us) e = (or_parts (is_symbol S.Question t.kind) (more 10 t.kind) e).0

pub no_open : (us : List Lexeme) → Ends goes_on us → starts (is_kind (K.Symbol S.LeftParenthesis)) us ≡ false
no_open [] e = refl
no_open (t ∷ us) e = (or_parts (is_symbol S.LeftParenthesis t.kind) (binds_below 10 (infix_of t.kind)) (or_parts (is_symbol S.Question t.kind) (more 10 t.kind) e).1).0

-- ---- a leaf at any level

plain_no_symbol : (k : Kept) (s : Symbol) → kept_plain k ≡ true → false ≡ kept_symbol k s
plain_no_symbol (H.Number row) s e = refl
plain_no_symbol H.Ident s e = refl
plain_no_symbol H.Quoted s e = refl
plain_no_symbol (H.Word w) s e = refl
plain_no_symbol (H.Symbol t) s e = absurd cc

leaf_unsigned : (t : Tokens) → IsLeaf t → Unsigned (seen t)
leaf_unsigned t l = unsigned (seen t) (no_symbol S.Minus) (no_symbol S.Not)
  where
    no_symbol : (s : Symbol) → starts (is_kind (K.Symbol s)) (seen t) ≡ false
    no_symbol s =
        let f = lexeme_at t.source.now.bytes.now t.source.now.literals.now in
        let F : List Lexeme → Type 0 = λ u. starts (is_kind (K.Symbol s)) u ≡ false in
        subst F (sym (map_cons f t.found.now l.others l.first l.parts)) (symbol_same t.source.now.bytes.now t.source.now.literals.now l.first s false (plain_no_symbol l.first.kind s l.plain))

-- What reading the leaf gives, an expression gives too.
pub leaf_expr : {X : Type 0} (view : X → Expression) (t : Tokens) (r : Result (X × Tokens) Stop) → IsLeaf t → Parses view (prim expr) (more 0) (seen t) r →
    IfOk r (λ y. Ends goes_on (seen y.1)) → Parses view expr goes_on (seen t) r
leaf_expr view t (Ok y) l p e =
    test_alone (seen t) (seen y.1) (view y.0) (rises 10 0 (seen t) (seen y.1) (view y.0) (omega arith) (leaf_unsigned t l) (ends_below (seen y.1) e) p) (no_question (seen y.1) e)
leaf_expr view t (Err s) l p e = test_stops (seen t) s (stop_rises 10 0 (seen t) s (omega arith) (leaf_unsigned t l) p)

-- ---- looking for a leaf

-- A leaf is a number or an identifier.
pub leaf_is : (k : Kept) → kept_plain k ≡ true → ((row : ℕ) → k ≡ H.Number row → ⊥) → k ≡ H.Ident
leaf_is (H.Number row) e n = absurd (n row refl)
leaf_is H.Ident e n = refl
leaf_is H.Quoted e n = cc
leaf_is (H.Word w) e n = cc
leaf_is (H.Symbol s) e n = cc

pub leaf_first : (t : Tokens) (xs : List Found) (x : Found) → IsLeaf t → t.found.now ≡ x ∷ xs → (kept_plain x.kind ≡ true) × Ends goes_on (map (lexeme_at t.source.now.bytes.now t.source.now.literals.now) xs)
leaf_first t xs x l e =
    let g : l.first ∷ l.others ≡ x ∷ xs = sym l.parts ∙ e in
    let a : l.first ≡ x = cc in
    let b : l.others ≡ xs = cc in
    let F : Found → Type 0 = λ y. kept_plain y.kind ≡ true in
    let G : List Found → Type 0 = λ u. Ends goes_on (map (lexeme_at t.source.now.bytes.now t.source.now.literals.now) u) in
    (subst F a l.plain, subst G b l.ends)

-- ---- chains that do not begin

pub chain_misses : (n : ℕ) (us : List Lexeme) (x : Expression) → Ends (more n) us → starts (joins_at n) us ≡ false → Reads (others n x) (more (suc n)) us x us
chain_misses n us x e h = chain_end n us x e (first us h)
  where
    no_operator : (o : Option PrismOp) → is_operator o ≡ false → o ≡ None
    no_operator None e = refl
    no_operator (Some o) e = cc

    first : (us : List Lexeme) → starts (joins_at n) us ≡ false → FirstIs (λ k. at_level n (infix_of k) ≡ None) us
    first [] h t rest e = absurd cc
    first (u ∷ us) h t rest e =
        let a : u ≡ t = cc in
        let F : Lexeme → Type 0 = λ v. at_level n (infix_of v.kind) ≡ None in
        subst F a (no_operator (at_level n (infix_of u.kind)) h)
