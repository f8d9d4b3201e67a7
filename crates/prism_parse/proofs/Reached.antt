-- A reader that keeps tokens: what it has kept are the tokens up to an offset, and go on with the next.
use Rattle.std.proofs.Common.{arith, ◌≡◌, ℕ, zero, suc, ◌+◌, ◌*◌, ◌-◌, ◌≤◌, Bool, true, List, [], ◌∷◌, ◌++◌, map, length, refl, sym, ap, ap₂, subst, ◌∙◌}
use Rattle.std.specs.Prelude.{Option, Some, None, slice_get, if◌then◌else◌}
use Rattle.std.specs.Str.{IsAscii}
use Rattle.std.proofs.lemmas.List.{map-append, length-append}
use Rattle.prism_lex.specs.declared.token.Token.{Token}
use Rattle.prism_lex.specs.declared.token.TokenKind.{TokenKind}
use Rattle.prism_lex.specs.declared.token.TokenKind.TheVariants as K
use Rattle.prism_lex.specs.Tokens.{Lexeme, is_name, IsKind, lexeme_of, Continues, end_of}
use Rattle.prism_lex.specs.Laws.{Reaches, NextGoesOn}
use Rattle.prism_lex.proofs.NameTexts.{name_ascii}
use Rattle.prism_exprs.specs.declared.tokens.Kept.{Kept}
use Rattle.prism_exprs.specs.declared.tokens.Kept.TheVariants.{Word, Symbol, Ident, Quoted, Number}
use Rattle.prism_exprs.specs.declared.tokens.Found.{Found}
use Rattle.prism_exprs.specs.declared.tokens.Literal.{Literal}
use Rattle.prism_exprs.specs.Kept.{is_ascii_text, text_at, made, name_at, literal_at, in_row, lexeme_by, lexeme_at}
use Rattle.prism_exprs.proofs.Ascii.{bytes_ascii}
use Rattle.prism_parse.specs.Lexed.{kept_kind, IsKeptAs, Keeps}

-- ---- a name is ASCII

before_quote : (bs : List ℕ) → IsAscii bs → IsAscii (bs ++ 34 ∷ [])
before_quote [] h zero = omega arith
before_quote [] h (suc i) = omega arith
before_quote (b ∷ bs) h zero = h zero
before_quote (b ∷ bs) h (suc i) = before_quote bs (λ j. h (suc j)) i

quoted_ascii : (bs : List ℕ) → is_name bs ≡ true → IsAscii (34 ∷ (bs ++ 34 ∷ []))
quoted_ascii bs e zero = omega arith
quoted_ascii bs e (suc i) = before_quote bs (name_ascii bs e) i

quoted_text : (w bs : List ℕ) → w ≡ 34 ∷ (bs ++ 34 ∷ []) → is_name bs ≡ true → is_ascii_text w ≡ true
quoted_text w bs e n = ap is_ascii_text e ∙ bytes_ascii (34 ∷ (bs ++ 34 ∷ [])) (quoted_ascii bs n)

-- ---- what is kept of one token

get_more : {X : Type 0} (xs ys : List X) (i : ℕ) (x : X) → slice_get xs i ≡ Some x → slice_get (xs ++ ys) i ≡ Some x
get_more [] ys i x e = absurd cc
get_more (y ∷ xs) ys zero x e = e
get_more (y ∷ xs) ys (suc i) x e = get_more xs ys i x e

some_same : (j k : Kept) → Some j ≡ Some k → k ≡ j
some_same j k e = cc

named : (k : TokenKind) (w : List ℕ) (at : ℕ) → is_ascii_text w ≡ true → name_at k w at ≡ made k w at
named k w at e = ap (λ (b : Bool). if b then made k w at else made K.End w at) e

kept_same : (bytes : List ℕ) (literals : List Literal) (kind : TokenKind) (at n size : ℕ) (k : Kept) → IsKind (text_at bytes at n) kind → IsKeptAs literals kind n k size
    → lexeme_by bytes literals k at size ≡ made kind (text_at bytes at n) at
kept_same bytes literals (K.Word r) at n size k is h =
    ap (λ (j : Kept). lexeme_by bytes literals j at size) (some_same (Word r) k h.0) ∙ ap (λ (m : ℕ). lexeme_by bytes literals (Word r) at m) h.1
kept_same bytes literals (K.Symbol s) at n size k is h =
    ap (λ (j : Kept). lexeme_by bytes literals j at size) (some_same (Symbol s) k h.0) ∙ ap (λ (m : ℕ). lexeme_by bytes literals (Symbol s) at m) h.1
kept_same bytes literals K.Ident at n size k is h =
    ap (λ (j : Kept). lexeme_by bytes literals j at size) (some_same Ident k h.0) ∙ ap (λ (m : ℕ). lexeme_by bytes literals Ident at m) h.1
    ∙ named K.Ident (text_at bytes at n) at (bytes_ascii (text_at bytes at n) (name_ascii (text_at bytes at n) is.0))
kept_same bytes literals K.Quoted at n size k is h =
    ap (λ (j : Kept). lexeme_by bytes literals j at size) (some_same Quoted k h.0) ∙ ap (λ (m : ℕ). lexeme_by bytes literals Quoted at m) h.1
    ∙ named K.Quoted (text_at bytes at n) at (quoted_text _ is.0 is.1 is.2)
kept_same bytes literals (K.Number d) at n size k is h =
    ap (λ (j : Kept). lexeme_by bytes literals j at size) h.1 ∙ ap (λ (o : Option Literal). literal_at bytes o at) h.2
kept_same bytes literals K.End at n size k is h = absurd is

-- ---- a literal more changes no token

literal_more : (bytes : List ℕ) (literals more : List Literal) (at place : ℕ) (o : Option Literal) → slice_get literals place ≡ o → ((literal_at bytes o at).kind ≡ K.End → ⊥)
    → literal_at bytes (slice_get (literals ++ more) place) at ≡ literal_at bytes o at
literal_more bytes literals more at place None e h = absurd (h refl)
literal_more bytes literals more at place (Some n) e h = ap (λ (o : Option Literal). literal_at bytes o at) (get_more literals more place n e)

lexeme_more : (bytes : List ℕ) (literals more : List Literal) (k : Kept) (at size : ℕ) → ((lexeme_by bytes literals k at size).kind ≡ K.End → ⊥)
    → lexeme_by bytes (literals ++ more) k at size ≡ lexeme_by bytes literals k at size
lexeme_more bytes literals more (Word r) at size h = refl
lexeme_more bytes literals more (Symbol s) at size h = refl
lexeme_more bytes literals more Ident at size h = refl
lexeme_more bytes literals more Quoted at size h = refl
lexeme_more bytes literals more (Number row) at size h = literal_more bytes literals more at (row * 65536 + size) (in_row literals row size) refl h

no_end : (l : Lexeme) → IsKind l.text l.kind → l.kind ≡ K.End → ⊥
no_end l is e = let F : TokenKind → Type 0 = λ k. IsKind l.text k in subst F e is

all_more : (bytes : List ℕ) (literals more : List Literal) (found : List Found) (from to : ℕ) → Reaches bytes from (map (lexeme_at bytes literals) found) to
    → map (lexeme_at bytes (literals ++ more)) found ≡ map (lexeme_at bytes literals) found
all_more bytes literals more [] from to r = refl
all_more bytes literals more (f ∷ fs) from to r =
    ap₂ (λ (l : Lexeme) (ls : List Lexeme). l ∷ ls) (lexeme_more bytes literals more f.kind f.at f.size (no_end (lexeme_at bytes literals f) r.0.kind))
    (all_more bytes literals more fs (end_of (lexeme_at bytes literals f)) to r.2)

-- ---- a step of the reader

-- What was kept is seen as before.
as_before : (bytes : List ℕ) (literals after : List Literal) (found : List Found) (to : ℕ) (t : Token) (o : Option Found) → Reaches bytes 0 (map (lexeme_at bytes literals) found) to → Keeps literals t after o
    → map (lexeme_at bytes after) found ≡ map (lexeme_at bytes literals) found
as_before bytes literals after found to t o r keeps = ap (λ (ls : List Literal). map (lexeme_at bytes ls) found) keeps.more ∙ all_more bytes literals keeps.added found 0 to r

pub one_kept : NextGoesOn → (bytes : List ℕ) (literals after : List Literal) (found : List Found) (to : ℕ) (t : Token) (f : Found) → Reaches bytes 0 (map (lexeme_at bytes literals) found) to → Continues bytes to t
    → Keeps literals t after (Some f) → Reaches bytes 0 (map (lexeme_at bytes after) (found ++ f ∷ [])) t.end
one_kept goes_on bytes literals after found to t f r next keeps =
    let F : List Lexeme → Type 0 = λ ls. Reaches bytes 0 ls t.end in
    let last : lexeme_at bytes after f ≡ lexeme_of bytes t =
    ap (λ (at : ℕ). lexeme_by bytes after f.kind at f.size) keeps.is.1 ∙ kept_same bytes after t.kind t.at (t.end - t.at) f.size f.kind next.next.kind keeps.is.0 in
    let same : map (lexeme_at bytes after) (found ++ f ∷ []) ≡ map (lexeme_at bytes literals) found ++ lexeme_of bytes t ∷ [] =
    map-append (lexeme_at bytes after) found _ ∙ ap₂ (λ (ls : List Lexeme) (l : Lexeme). ls ++ l ∷ []) (as_before bytes literals after found to t (Some f) r keeps) last in
    subst F (sym same) (goes_on bytes 0 to _ t r next)

pub end_kept : (bytes : List ℕ) (literals after : List Literal) (found : List Found) (to : ℕ) (t : Token) → Reaches bytes 0 (map (lexeme_at bytes literals) found) to → Keeps literals t after None → Reaches bytes 0 (map (lexeme_at bytes after) found) to
end_kept bytes literals after found to t r keeps =
    let F : List Lexeme → Type 0 = λ ls. Reaches bytes 0 ls to in
    subst F (sym (as_before bytes literals after found to t None r keeps)) r

pub literals_behind : (literals after : List Literal) (bytes : List ℕ) (to : ℕ) (t : Token) (found : Option Found) → length literals ≤ to → Continues bytes to t → Keeps literals t after found → length after ≤ t.end
literals_behind literals after bytes to t found h next keeps =
    let a : length after ≡ length literals + length keeps.added = ap length keeps.more ∙ length-append literals keeps.added in
    let b = next.behind in
    let d = next.some in
    let f = keeps.few in
    omega arith

kept_not_end : (ls : List Literal) (kind : TokenKind) (n : ℕ) (k : Kept) (size : ℕ) → IsKeptAs ls kind n k size → kind ≡ K.End → ⊥
kept_not_end ls kind n k size h e =
    let F : TokenKind → Type 0 = λ j. IsKeptAs ls j n k size in
    let same : kept_kind K.End ≡ Some k = (subst F e h).0 in
    absurd cc

pub not_end : (literals after : List Literal) (t : Token) (f : Found) → Keeps literals t after (Some f) → t.kind ≡ K.End → ⊥
not_end literals after t f keeps = kept_not_end after t.kind (t.end - t.at) f.kind f.size keeps.is.0
