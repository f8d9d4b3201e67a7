-- Reading one symbol of the kept tokens, the signs before an operand, and what ends one.
use Rattle.std.proofs.Common.{◌≡◌, ℕ, Bool, true, false, List, [], ◌∷◌, ◌++◌, Option, Some, None, refl, sym, ap, subst, ◌∙◌, map, length, arith, take}
use Rattle.std.proofs.lemmas.Bool.Decides.{nat_tests}
use Rattle.std.proofs.lemmas.Bool.{or_left, or_from}
use Rattle.std.proofs.lemmas.List.{map_push}
use Rattle.std.proofs.Math.Seq.{take-append_seam}
use Rattle.op_trees.specs.Tree.{One}
use denote.Enum.Bare.{true_same}
use Rattle.prism_lex.specs.contracts.symbols.Symbol.{the_type as symbols}
use Rattle.prism_lex.specs.declared.token.TokenKind.{TokenKind}
use Rattle.prism_lex.specs.declared.token.TokenKind.TheVariants as K
use Rattle.prism_lex.specs.declared.symbols.Symbol.{Symbol}
use Rattle.prism_lex.specs.declared.symbols.Symbol.TheVariants as S
use Rattle.prism_lex.specs.Tokens.{Lexeme}
use Rattle.prism_tree.specs.declared.operator.PrismOp.{PrismOp}
use Rattle.prism_exprs.specs.declared.tokens.Found.{Found}
use Rattle.prism_exprs.specs.declared.tokens.Literal.{Literal}
use Rattle.prism_tree.specs.Syntax.{Expression}
use Rattle.prism_tree.specs.Lang.{gives, many, front}
use Rattle.prism_exprs.specs.Kept.{lexeme_at, kept_symbol}
use Rattle.prism_exprs.specs.Reading.{Ends, none, Reads, Fails, starts, is_kind, same_kind}
use Rattle.prism_tree.specs.Grammar.{symbol, applied, infix_of}
use Rattle.prism_exprs.specs.Levels.{more, binds_below}
use Rattle.prism_exprs.proofs.Laws.{token_reads, token_fails, token_one, gives_word}
use Rattle.prism_exprs.proofs.Choice.{Barred, barred_fails, gives_barred, token_opens}
use Rattle.prism_exprs.proofs.Loops.{same_is, starts_cons, Leads, Begun, kind_begun, loop_next, loop_done}
use Rattle.prism_exprs.proofs.Keeping.{symbol_kept, place_kept}

pub map_empty : {A B : Type 0} (f : A → B) (xs : List A) → length xs ≡ 0 → map f xs ≡ []
map_empty f [] e = refl
map_empty f (x ∷ xs) e = absurd (omega (arith, e))

pub symbol_missing : (s : Symbol) (f : Found → Lexeme) (found : List Found) → length found ≡ 0 → Fails (symbol s) none (map f found) (map f found)
symbol_missing s f found e = token_fails _ (λ t rest g h. let n : [] ≡ t ∷ rest = sym (map_empty f found e) ∙ g in cc)

pub symbol_same : (bytes : List ℕ) (literals : List Literal) (x : Found) (s : Symbol) (b : Bool) → b ≡ kept_symbol x.kind s → same_kind (lexeme_at bytes literals x).kind (K.Symbol s) ≡ b
symbol_same bytes literals x s b e = symbol_kept bytes literals x.kind x.at x.size s ∙ sym e

pub symbol_fails : (bytes : List ℕ) (literals : List Literal) (s : Symbol) (x : Found) (found xs : List Found) → found ≡ x ∷ xs → false ≡ kept_symbol x.kind s →
    Fails (symbol s) none (map (lexeme_at bytes literals) found) (map (lexeme_at bytes literals) found)
symbol_fails bytes literals s x found xs e n = token_fails _ (λ t rest g h.
    let f = lexeme_at bytes literals in
    let i : f x ∷ map f xs ≡ t ∷ rest = sym (ap (λ (u : List Found). map f u) e) ∙ g in
    let j : f x ≡ t = cc in
    let k : (f x).kind ≡ K.Symbol s = ap (λ (u : Lexeme). u.kind) j ∙ h in
    let no : same_kind (f x).kind (K.Symbol s) ≡ false = symbol_same bytes literals x s false n in
    let F : TokenKind → Type 0 = λ u. same_kind u (K.Symbol s) ≡ false in
    let m : same_kind (K.Symbol s) (K.Symbol s) ≡ false = subst F k no in
    let y : same_kind (K.Symbol s) (K.Symbol s) ≡ true = true_same symbols s s refl in
    absurd cc)

pub symbol_reads : (bytes : List ℕ) (literals : List Literal) (s : Symbol) (x : Found) (found xs : List Found) (r : List Lexeme) → found ≡ x ∷ xs → true ≡ kept_symbol x.kind s →
    r ≡ map (lexeme_at bytes literals) xs → Reads (symbol s) none (map (lexeme_at bytes literals) found) (lexeme_at bytes literals x) r
symbol_reads bytes literals s x found xs r e y q =
    let f = lexeme_at bytes literals in
    token_reads (f x) r (ap (λ (u : List Found). map f u) e ∙ ap (λ (u : List Lexeme). f x ∷ u) (sym q)) (same_is _ _ (symbol_same bytes literals x s true y))

-- ---- behind an operand

pub nothing_below : (p : Option (ℕ × PrismOp)) → binds_below 0 p ≡ false
nothing_below None = refl
nothing_below (Some p) = grind (arith, nat_tests)

pub closed_fails : (e : Expression) (ts : List Lexeme) → starts (is_kind (K.Symbol S.LeftParenthesis)) ts ≡ true → Fails (gives e) (more 0) ts ts
closed_fails e ts h =
    let n = starts_cons (is_kind (K.Symbol S.LeftParenthesis)) ts h in
    let F : List Lexeme → Type 0 = λ u. Barred (gives e) (more 0) u in
    barred_fails (gives e) (more 0) ts (gives_word e) (subst F (sym n.2) (gives_barred e (more 0) n.0 n.1 (or_left _ _ n.3)))

pub closed_reads : (e : Expression) (ts : List Lexeme) → starts (is_kind (K.Symbol S.LeftParenthesis)) ts ≡ false → Reads (gives e) (more 0) ts e ts
unfolding gives
closed_reads e ts h = record { word = []; parts = refl; spells = (refl, refl); ends = ends ts h }
  where
    ends : (ts : List Lexeme) → starts (is_kind (K.Symbol S.LeftParenthesis)) ts ≡ false → Ends (more 0) ts
    ends [] h = tt
    ends (t ∷ ts) h = or_from _ _ h (nothing_below (infix_of t.kind))

-- ---- signs

pub applied-append : (o : PrismOp) (ts : List Lexeme) (t : Lexeme) (e : Expression) → applied o (ts ++ t ∷ []) e ≡ applied o ts (One t.at o e)
applied-append o [] t e = refl
applied-append o (s ∷ ts) t e = ap (One s.at o) (applied-append o ts t e)

pub sign_applied : (bytes : List ℕ) (literals : List Literal) (o : PrismOp) (x : Found) (signs front : List Found) (e e' : Expression) → signs ≡ front ++ x ∷ [] → e' ≡ One x.at o e →
    applied o (map (lexeme_at bytes literals) front) e' ≡ applied o (map (lexeme_at bytes literals) signs) e
sign_applied bytes literals o x signs front e e' h g =
    let f = lexeme_at bytes literals in
    ap (λ (u : Expression). applied o (map f front) u) (g ∙ ap (λ (n : ℕ). One n o e) (sym (place_kept bytes literals x.kind x.at x.size)))
    ∙ sym (applied-append o (map f front) (f x) e) ∙ ap (λ (u : List Lexeme). applied o u e) (sym (map_push f front x)) ∙ ap (λ (u : List Found). applied o (map f u) e) (sym h)

pub symbol_itself : (s : Symbol) → same_kind (K.Symbol s) (K.Symbol s) ≡ true
symbol_itself s = true_same symbols s s refl

pub sign_begun : (s : Symbol) → Begun (symbol s) (is_kind (K.Symbol s))
sign_begun s = kind_begun (symbol s) (K.Symbol s) (symbol_itself s) (token_opens (K.Symbol s))

pub starts_empty : (first : TokenKind → Bool) (f : Found → Lexeme) (found : List Found) → length found ≡ 0 → starts first (map f found) ≡ false
starts_empty first f [] e = refl
starts_empty first f (x ∷ xs) e = absurd (omega (arith, e))

pub starts_another : (bytes : List ℕ) (literals : List Literal) (s : Symbol) (x : Found) (found xs : List Found) → found ≡ x ∷ xs → false ≡ kept_symbol x.kind s →
    starts (is_kind (K.Symbol s)) (map (lexeme_at bytes literals) found) ≡ false
starts_another bytes literals s x found xs e n =
    let F : List Found → Type 0 = λ u. starts (is_kind (K.Symbol s)) (map (lexeme_at bytes literals) u) ≡ false in
    subst F (sym e) (symbol_same bytes literals x s false n)

-- one sign more
pub sign_leads : (bytes : List ℕ) (literals : List Literal) (s : Symbol) (ts : List Lexeme) (done rest behind : List Found) (x : Found) → rest ≡ x ∷ behind → true ≡ kept_symbol x.kind s →
    Leads (is_kind (K.Symbol s)) (many (symbol s)) ts (front (symbol s) (map (lexeme_at bytes literals) done)) (map (lexeme_at bytes literals) rest) →
    Leads (is_kind (K.Symbol s)) (many (symbol s)) ts (front (symbol s) (map (lexeme_at bytes literals) (done ++ x ∷ []))) (map (lexeme_at bytes literals) behind)
sign_leads bytes literals s ts done rest behind x e y l =
    let f = lexeme_at bytes literals in
    rw (map_push f done x)
    (loop_next (symbol s) (is_kind (K.Symbol s)) (map f done) (f x) (sign_begun s) (token_one (K.Symbol s)) l (symbol_reads bytes literals s x rest behind (map f behind) e y refl))

-- the signs that were read, where no other one stands next
pub signs_read : (bytes : List ℕ) (literals : List Literal) (s : Symbol) (ts a b : List Lexeme) (found done rest signs : List Found) (n : ℕ) →
    Leads (is_kind (K.Symbol s)) (many (symbol s)) ts (front (symbol s) (map (lexeme_at bytes literals) done)) (map (lexeme_at bytes literals) rest) →
    starts (is_kind (K.Symbol s)) (map (lexeme_at bytes literals) rest) ≡ false → found ≡ done ++ rest → n ≡ length done → signs ≡ take n found →
    a ≡ map (lexeme_at bytes literals) signs → b ≡ map (lexeme_at bytes literals) rest → Reads (many (symbol s)) (is_kind (K.Symbol s)) ts a b
signs_read bytes literals s ts a b found done rest signs n l e p q r g h =
    let f = lexeme_at bytes literals in
    let i : signs ≡ done = r ∙ ap (λ (m : ℕ). take m found) q ∙ ap (λ (u : List Found). take (length done) u) p ∙ take-append_seam done rest in
    let a_is : map f done ≡ a = sym (g ∙ ap (λ (u : List Found). map f u) i) in
    let F : List Lexeme → Type 0 = λ u. Reads (many (symbol s)) (is_kind (K.Symbol s)) ts u b in
    let G : List Lexeme → Type 0 = λ u. Reads (many (symbol s)) (is_kind (K.Symbol s)) ts (map f done) u in
    subst F a_is (subst G (sym h) (loop_done (symbol s) (is_kind (K.Symbol s)) (map f done) l e))
