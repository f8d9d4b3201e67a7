-- Pieces as tokens: in the grammar of properties a name between quotes is a name, in a text it is a token of its own kind.
use Rattle.std.proofs.Common.{◌≡◌, ℕ, Bool, true, false, List, [], ◌∷◌, ◌++◌, map, refl, ap, ◌∙◌}
use Rattle.std.specs.Prelude.{if◌then◌else◌}
use Rattle.prism_lex.specs.declared.token.TokenKind.{TokenKind}
use Rattle.prism_lex.specs.declared.token.TokenKind.TheVariants as K
use Rattle.prism_lex.specs.Tokens.{Lexeme}
use Rattle.prism_print.proofs.Pieces.{Piece, printed, blank, text}
use Rattle.prism_print.proofs.Spelling.{Match}
use Rattle.prop_grammar.specs.Grammar.{name_kind, as_name, has_quotes}

-- the kind of the token that a text is
abbrev pub lexed_kind : TokenKind → List ℕ → TokenKind
lexed_kind K.Ident w = if has_quotes w then K.Quoted else K.Ident
lexed_kind k w = k

abbrev pub as_lexed : Piece → Piece
as_lexed (printed k w) = printed (lexed_kind k w) w
as_lexed (blank g) = blank g

abbrev pub lexed : List Piece → List Piece
lexed ps = map as_lexed ps

-- no piece is of the kind that the grammar does not have
abbrev pub NoneQuoted : List Piece → Type 0
NoneQuoted [] = Unit {0}
NoneQuoted (printed k w ∷ ps) = (name_kind k ≡ k) × NoneQuoted ps
NoneQuoted (blank g ∷ ps) = NoneQuoted ps

pub none_both : (ps qs : List Piece) → NoneQuoted ps → NoneQuoted qs → NoneQuoted (ps ++ qs)
none_both [] qs n m = m
none_both (printed k w ∷ ps) qs n m = (n.0, none_both ps qs n.1 m)
none_both (blank g ∷ ps) qs n m = none_both ps qs n m

pub lexed_text : (ps : List Piece) → text (lexed ps) ≡ text ps
lexed_text [] = refl
lexed_text (printed k w ∷ ps) = ap (λ (u : List ℕ). w ++ u) (lexed_text ps)
lexed_text (blank g ∷ ps) = ap (λ (u : List ℕ). g ++ u) (lexed_text ps)

-- the kind in the grammar
kind_again : (k : TokenKind) (w : List ℕ) → name_kind k ≡ k → name_kind (lexed_kind k w) ≡ k
kind_again K.Ident w n = by_test (has_quotes w)
  where
    by_test : (b : Bool) → name_kind (if b then K.Quoted else K.Ident) ≡ K.Ident
    by_test true = refl
    by_test false = refl
kind_again k w n = n

-- The tokens of such pieces, read as the grammar reads them, are those of the pieces.
pub match_names : (ps : List Piece) (ts : List Lexeme) → NoneQuoted ps → Match (lexed ps) ts → Match ps (map as_name ts)
match_names [] ts n m = ap (map as_name) m
match_names (printed k w ∷ ps) ts n m =
    (as_name m.0, map as_name m.1, ap (map as_name) m.2, ap name_kind m.3 ∙ kind_again k w n.0, m.4, match_names ps m.1 n.1 m.5)
match_names (blank g ∷ ps) ts n m = match_names ps ts n m
