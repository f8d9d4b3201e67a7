-- What reading a language from the front of a list of tokens gives.
use Rattle.std.specs.Prelude.{◌≡◌, Bool, true, false, List, [], ◌∷◌, ◌++◌, Option, Some, None, Result, Ok, Err}
use Rattle.prism_lex.specs.declared.token.TokenKind.{TokenKind}
use Rattle.prism_lex.specs.declared.token.TokenKind.TheVariants as K
use Rattle.prism_lex.specs.contracts.words.Reserved.{the_type as words}
use Rattle.prism_lex.specs.contracts.symbols.Symbol.{the_type as symbols}
use denote.Enum.Bare.{sameb}
use Rattle.prism_lex.specs.Tokens.{Lexeme}
use Rattle.prism_exprs.specs.declared.tokens.Tokens.{Tokens}
use Rattle.prism_exprs.specs.declared.tokens.Stop.{Stop}
use Rattle.prism_exprs.specs.declared.tokens.Stop.TheVariants.{Memory, At}
use Rattle.prism_exprs.specs.Kept.{seen}
use Rattle.prism_tree.specs.Lang.{Lang, Begins}

-- The next token does not go on with what was read.
abbrev pub Ends : (TokenKind → Bool) → List Lexeme → Type 0
Ends more [] = Unit {0}
Ends more (t ∷ ts) = more t.kind ≡ false

abbrev pub none : TokenKind → Bool
none k = false

abbrev pub next : List Lexeme → Option Lexeme
next [] = None
next (t ∷ ts) = Some t

-- No list that begins as u and then the first token of r does, or that ends with u where r is empty, is a word of the
-- language and then what does not go on with it.
abbrev pub Dead : {A : Type 0} → Lang A → (TokenKind → Bool) → List Lexeme → List Lexeme → Type 0
Dead {A} L more u r = (other w z : List Lexeme) (x : A) → next other ≡ next r → u ++ other ≡ w ++ z → L w x → Ends more z → ⊥

-- A word at the front has this value, and this rest behind it, which does not go on with it.
pub record Reads {A : Type 0} (L : Lang A) (more : TokenKind → Bool) (ts : List Lexeme) (x : A) (rest : List Lexeme) : Type 0 where
  pub word : List Lexeme
  pub parts : ts ≡ word ++ rest
  pub spells : L word x
  pub ends : Ends more rest

-- What stands before this rest begins a word, and with one token more it begins none.
pub record Fails {A : Type 0} (L : Lang A) (more : TokenKind → Bool) (ts : List Lexeme) (rest : List Lexeme) : Type 0 where
  pub before : List Lexeme
  pub parts : ts ≡ before ++ rest
  pub begins : Begins L before
  pub dead : Dead L more before rest

abbrev pub Stops : {A : Type 0} → Lang A → (TokenKind → Bool) → List Lexeme → Stop → Type 0
Stops L more ts Memory = Unit {0}
Stops L more ts (At r c) = Fails L more ts (seen r)

-- what a function returned, seen by view
abbrev pub Parses : {X A : Type 0} → (X → A) → Lang A → (TokenKind → Bool) → List Lexeme → Result (X × Tokens) Stop → Type 0
Parses view L more ts (Ok y) = Reads L more ts (view y.0) (seen y.1)
Parses view L more ts (Err e) = Stops L more ts e

-- ---- what the code looks at

abbrev pub same_kind : TokenKind → TokenKind → Bool
same_kind (K.Word a) (K.Word b) = sameb words a b
same_kind (K.Symbol a) (K.Symbol b) = sameb symbols a b
same_kind K.Ident K.Ident = true
same_kind K.Quoted K.Quoted = true
same_kind (K.Word _) k = false
same_kind K.Ident k = false
same_kind K.Quoted k = false
same_kind (K.Number _) k = false
same_kind (K.Symbol _) k = false
same_kind K.End k = false

-- whether a kind, which is no number, is this one
abbrev pub is_kind : TokenKind → TokenKind → Bool
is_kind kind k = same_kind k kind

-- whether there is a first token, and its kind passes the test
abbrev pub starts : (TokenKind → Bool) → List Lexeme → Bool
starts first [] = false
starts first (t ∷ ts) = first t.kind
