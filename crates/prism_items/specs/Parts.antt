-- Parts of a file in a scope, what closes them, and which tokens go on with them.
use Rattle.std.specs.Prelude.{ℕ, Bool, false, not, ◌&&◌, ◌||◌, List, [], ◌∷◌, Option, Some, None, Result, Ok, Err, if◌then◌else◌}
use Rattle.prism_lex.specs.declared.token.TokenKind.{TokenKind}
use Rattle.prism_lex.specs.declared.token.TokenKind.TheVariants as K
use Rattle.prism_lex.specs.declared.words.Reserved.TheVariants as W
use Rattle.prism_lex.specs.declared.symbols.Symbol.{Symbol}
use Rattle.prism_lex.specs.declared.symbols.Symbol.TheVariants as S
use Rattle.prism_lex.specs.Tokens.{Lexeme}
use Rattle.prism_tree.specs.Syntax.{Expression, Range, Write, Branch, Module, Item, Rewards}
use Rattle.prism_tree.specs.Lang.{Lang, token, gives, ◌>>=◌, ◌>>◌, ◌or◌, optional, many, front}
use Rattle.prism_tree.specs.Grammar.{word, symbol, name, range, write, update, weighted, updates, one_branch, pair, body, copy, reward}
use Rattle.bridge_io.specs.declared.reason.Named.{Named}
use Rattle.prism_tree.specs.declared.syntax.NamePair.{NamePair}
use Rattle.prism_tree.specs.declared.syntax.ItemOn.{ItemOn}
use Rattle.op_trees.specs.declared.tree.Ty.{Ty}
use Rattle.op_trees.specs.declared.tree.Ty.TheVariants as T
use Rattle.prism_exprs.specs.declared.tokens.Found.{Found}
use Rattle.prism_exprs.specs.declared.tokens.Stop.{Stop}
use Rattle.prism_exprs.specs.declared.tokens.Tokens.{Tokens}
use Rattle.prism_exprs.specs.declared.tokens.Kept.{Kept}
use Rattle.prism_exprs.specs.declared.tokens.Kept.TheVariants as H
use Rattle.prism_exprs.specs.Reading.{is_kind, starts}
use Rattle.prism_exprs.specs.Levels.{goes_on}
use Rattle.prism_exprs.specs.Scope.{Scope, expressions, also}

-- a part of a file, in a scope
abbrev pub in_scope : {A : Type 0} → (Lang Expression → Lang (Option Range) → Lang A) → Scope → Lang A
in_scope L s = L (expressions s) (also s)

-- a value, with the tokens behind what was read after it
abbrev pub followed_by : {X : Type 0} → X → Result (Found × Tokens) Stop → Result (X × Tokens) Stop
followed_by x (Ok read) = Ok (x, read.1)
followed_by x (Err stop) = Err stop

-- a part, and the token that closes it
unfoldable pub closed_by : {A : Type 0} → TokenKind → Lang A → Lang A
closed_by k L = do
  x ← L
  token k
  gives x

-- an expression, and the symbol that closes it
abbrev pub closed_expression : Symbol → Lang Expression → Lang (Option Range) → Lang Expression
closed_expression a E V = closed_by (K.Symbol a) E

-- = E ;
abbrev pub definition : Lang Expression → Lang (Option Range) → Lang Expression
definition E V = symbol S.Equal >> closed_expression S.Semicolon E V

-- what may stand behind the colon of a variable
unfoldable pub domain : Lang Expression → Lang (Option Range) → Lang (Option Range)
domain E V = (range E V >>= λ r. gives (Some r)) or ((word W.BoolWord >> gives None) or V)

-- the colon of a variable, and what stands behind it
abbrev pub domain_part : Lang Expression → Lang (Option Range) → Lang (Option Range)
domain_part E V = symbol S.Colon >> domain E V

-- [ = E ] ;
abbrev pub value_part : Lang Expression → Lang (Option Range) → Lang (Option Expression)
value_part E V = closed_by (K.Symbol S.Semicolon) (optional (symbol S.Equal >> E))

-- [ init E ] ;
abbrev pub start_part : Lang Expression → Lang (Option Range) → Lang (Option Expression)
start_part E V = closed_by (K.Symbol S.Semicolon) (optional (word W.Init >> E))

-- ( Ident ' =
abbrev pub target : Lang Expression → Lang (Option Range) → Lang Named
target E V = do
  symbol S.LeftParenthesis
  x ← name
  symbol S.Prime
  symbol S.Equal
  gives x

-- & ( Ident ' = E )
abbrev pub further_write : Lang Expression → Lang (Option Range) → Lang Write
further_write E V = symbol S.And >> write E V

-- ( Ident ' = E ) { & ( Ident ' = E ) }
abbrev pub several_writes : Lang Expression → Lang (Option Range) → Lang (List Write)
several_writes E V = write E V >>= λ w. front (further_write E V) (w ∷ [])

-- + E : Update
abbrev pub further_branch : Lang Expression → Lang (Option Range) → Lang Branch
further_branch E V = symbol S.Plus >> weighted E V

-- E : Update { + E : Update }
abbrev pub several_branches : Lang Expression → Lang (Option Range) → Lang (List Branch)
several_branches E V = weighted E V >>= λ b. front (further_branch E V) (b ∷ [])

-- E : Update { + E : Update } ;
abbrev pub ended_branches : Lang Expression → Lang (Option Range) → Lang (List Branch)
ended_branches E V = closed_by (K.Symbol S.Semicolon) (several_branches E V)

-- Update ;
abbrev pub ended_update : Lang Expression → Lang (Option Range) → Lang (List Branch)
ended_update E V = update E V >>= λ ws. symbol S.Semicolon >>= λ t. gives (one_branch ws)

-- Updates ;
abbrev pub ended_updates : Lang Expression → Lang (Option Range) → Lang (List Branch)
ended_updates E V = closed_by (K.Symbol S.Semicolon) (updates E V)

-- [ Ident ] ']'
abbrev pub action_part : Lang Expression → Lang (Option Range) → Lang (Option Named)
action_part E V = closed_by (K.Symbol S.RightBracket) (optional name)

-- '[' [ Ident ] ']'
abbrev pub bracketed_action : Lang Expression → Lang (Option Range) → Lang (Option Named)
bracketed_action E V = symbol S.LeftBracket >> action_part E V

-- = Ident
abbrev pub equal_name : Lang Expression → Lang (Option Range) → Lang Named
equal_name E V = symbol S.Equal >> name

-- , Ident = Ident
abbrev pub further_pair : Lang Expression → Lang (Option Range) → Lang NamePair
further_pair E V = symbol S.Comma >> pair E V

-- Ident = Ident { , Ident = Ident }
abbrev pub several_pairs : Lang Expression → Lang (Option Range) → Lang (List NamePair)
several_pairs E V = pair E V >>= λ p. front (further_pair E V) (p ∷ [])

-- '[' Ident = Ident { , Ident = Ident } ']'
abbrev pub bracketed_pairs : Lang Expression → Lang (Option Range) → Lang (List NamePair)
bracketed_pairs E V = symbol S.LeftBracket >> closed_by (K.Symbol S.RightBracket) (several_pairs E V)

-- what stands behind the name of a module
abbrev pub module_rest : Named → Lang Expression → Lang (Option Range) → Lang Module
module_rest x E V = closed_by (K.Word W.Endmodule) (body E V x or copy E V x)

-- E : E ; of a reward for this
unfoldable pub gain : ItemOn → Lang Expression → Lang (Option Range) → Lang Item
gain on E V = do
  guard ← E
  symbol S.Colon
  value ← E
  symbol S.Semicolon
  gives (record { on = on; guard = guard; value = value })

-- { RItem } endrewards, of a reward structure of this name
unfoldable pub gains : Option Named → Lang Expression → Lang (Option Range) → Lang Rewards
gains x E V = do
  items ← many (reward E V)
  word W.Endrewards
  gives (record { name = x; items = items })

-- the text of a token, if it is of this kind
abbrev pub text_if : TokenKind → Lexeme → Option (List ℕ)
text_if kind t = if is_kind kind t.kind then Some t.text else None

-- the type that a token is
abbrev pub type_of : TokenKind → Option Ty
type_of (K.Word W.Int) = Some T.Int
type_of (K.Word W.Double) = Some T.Real
type_of (K.Word W.BoolWord) = Some T.Bool
type_of (K.Word _) = None
type_of K.Ident = None
type_of K.Quoted = None
type_of (K.Number _) = None
type_of (K.Symbol _) = None
type_of K.End = None

abbrev pub kept_type : Kept → Option Ty
kept_type (H.Word W.Int) = Some T.Int
kept_type (H.Word W.Double) = Some T.Real
kept_type (H.Word W.BoolWord) = Some T.Bool
kept_type (H.Word _) = None
kept_type (H.Symbol _) = None
kept_type H.Ident = None
kept_type H.Quoted = None
kept_type (H.Number _) = None

abbrev pub behind_type : Option Ty → Lexeme → List Lexeme → Ty × List Lexeme
behind_type None t ts = (T.Int, t ∷ ts)
behind_type (Some ty) t ts = (ty, ts)

-- the type that stands at the front, which is int where there is none, and what stands behind it
abbrev pub type_front : List Lexeme → Ty × List Lexeme
type_front [] = (T.Int, [])
type_front (t ∷ ts) = behind_type (type_of t.kind) t ts

-- ---- which tokens go on

-- all but this kind
abbrev pub all_but : TokenKind → TokenKind → Bool
all_but kind k = not (is_kind kind k)

-- this kind, and what goes on with an expression
abbrev pub expression_from : TokenKind → TokenKind → Bool
expression_from kind k = is_kind kind k || goes_on k

-- further writes of an update, and further updates
abbrev pub writes_on : TokenKind → Bool
writes_on k = is_kind (K.Symbol S.And) k

abbrev pub branches_on : TokenKind → Bool
branches_on k = is_kind (K.Symbol S.Plus) k || writes_on k

-- a variable, or what stands in its place
abbrev pub vars_on : TokenKind → Bool
vars_on k = all_but (K.Symbol S.LeftBracket) k && all_but (K.Word W.Endmodule) k

-- An update without a probability stands here: `true ;` or `( Ident '`.
abbrev pub plain_front : List Lexeme → Bool
plain_front (t ∷ s ∷ ts) =
    if is_kind (K.Word W.True) t.kind then is_kind (K.Symbol S.Semicolon) s.kind
    else (is_kind (K.Symbol S.LeftParenthesis) t.kind && is_kind K.Ident s.kind) && starts (is_kind (K.Symbol S.Prime)) ts
plain_front ts = false
