-- Which tokens go on with an expression of a level, and which begin one: what a reader of expressions looks at.
use Rattle.std.specs.Prelude.{◌≡◌, ℕ, ◌<◌, nat_lt, Bool, true, false, ◌||◌, List, [], ◌∷◌, map, Option, Some, None, if◌then◌else◌}
use Rattle.prism_lex.specs.declared.token.TokenKind.{TokenKind}
use Rattle.prism_lex.specs.declared.token.TokenKind.TheVariants as K
use Rattle.prism_lex.specs.declared.words.Reserved.TheVariants as W
use Rattle.prism_lex.specs.declared.symbols.Symbol.{Symbol}
use Rattle.prism_lex.specs.declared.symbols.Symbol.TheVariants as S
use Rattle.prism_lex.specs.Tokens.{Lexeme}
use Rattle.op_trees.specs.Tree.{Two}
use Rattle.prism_tree.specs.declared.operator.PrismOp.{PrismOp}
use Rattle.prism_tree.specs.Syntax.{Expression}
use Rattle.prism_tree.specs.Lang.{Lang, gives, ◌>>=◌, ◌>>◌, folding}
use Rattle.prism_exprs.specs.Reading.{Ends, is_kind}
use Rattle.prism_exprs.specs.Kept.{lexeme_at, kept_symbol, kept_infix}
use Rattle.prism_exprs.specs.declared.tokens.Kept.{Kept}
use Rattle.prism_exprs.specs.declared.tokens.Kept.TheVariants as H
use Rattle.prism_exprs.specs.declared.tokens.Found.{Found}
use Rattle.prism_exprs.specs.declared.tokens.Tokens.{Tokens}
use Rattle.prism_tree.specs.Grammar.{symbol, infix_of, joined_by, operand, argument, level, expr, at_level}

abbrev pub is_symbol : Symbol → TokenKind → Bool
is_symbol s k = is_kind (K.Symbol s) k

-- an operator of a level below n
abbrev pub binds_below : ℕ → Option (ℕ × PrismOp) → Bool
binds_below n None = false
binds_below n (Some p) = nat_lt p.0 n

-- The operators of the levels below n go on with what level n reads. So does '(', which makes a function of a name;
-- behind another operand it cannot stand.
abbrev pub more : ℕ → TokenKind → Bool
more n k = is_symbol S.LeftParenthesis k || binds_below n (infix_of k)

-- the tokens that go on with an expression
abbrev pub goes_on : TokenKind → Bool
goes_on k = is_symbol S.Question k || more 10 k

-- those that go on with an argument of min and max
abbrev pub lists_on : TokenKind → Bool
lists_on k = is_symbol S.Comma k || goes_on k

-- the operators of a level
abbrev pub is_operator : Option PrismOp → Bool
is_operator None = false
is_operator (Some o) = true

abbrev pub joins_at : ℕ → TokenKind → Bool
joins_at n k = is_operator (at_level n (infix_of k))

-- the level of an operator, if it is below n
abbrev pub level_below : ℕ → Option (ℕ × PrismOp) → Option ℕ
level_below n None = None
level_below n (Some p) = if nat_lt p.0 n then Some p.0 else None

-- the level of the operator that stands first, if it is below n
abbrev pub next_level : ℕ → List Lexeme → Option ℕ
next_level n [] = None
next_level n (t ∷ ts) = level_below n (infix_of t.kind)

-- the signs before an operand
abbrev pub is_sign : TokenKind → Bool
is_sign k = is_symbol S.Minus k || is_symbol S.Not k

abbrev pub sign_first : List Lexeme → Bool
sign_first [] = false
sign_first (t ∷ ts) = is_sign t.kind

-- the tokens that begin an operand without a prefix
abbrev pub begins_prim : TokenKind → Bool
begins_prim (K.Word W.True) = true
begins_prim (K.Word W.False) = true
begins_prim (K.Word W.Min) = true
begins_prim (K.Word W.Max) = true
begins_prim (K.Number d) = true
begins_prim K.Ident = true
begins_prim (K.Symbol S.LeftParenthesis) = true
begins_prim (K.Word _) = false
begins_prim K.Quoted = false
begins_prim (K.Symbol _) = false
begins_prim K.End = false

-- the tokens that begin what a level reads
pub data CanBegin (n : ℕ) (k : TokenKind) : Type 0 where
  operand_itself : begins_prim k ≡ true → CanBegin n k
  minus_sign : 0 < n → k ≡ K.Symbol S.Minus → CanBegin n k
  not_sign : 5 < n → k ≡ K.Symbol S.Not → CanBegin n k

-- what a chain of a level reads behind its first operand
abbrev pub others : ℕ → Expression → Lang Expression
others n e = folding joined_by (operand n (level expr n)) e

-- { , E } behind an expression, to the left, each node at this offset
abbrev pub more_arguments : PrismOp → ℕ → Expression → Lang Expression
more_arguments o at e = folding (λ x y. Two at o x y) (argument expr) e

-- a closing parenthesis, which gives what stands before it
abbrev pub enclosed : Expression → Lang Expression
enclosed e = do
  symbol S.RightParenthesis
  gives e

-- ( E , E, as a node at this offset
unfoldable pub both : PrismOp → ℕ → Lang Expression
both o at = do
  symbol S.LeftParenthesis
  a ← expr
  b ← argument expr
  gives (Two at o a b)

-- ? E :
unfoldable pub first_choice : Lang Expression
first_choice = do
  symbol S.Question
  a ← expr
  symbol S.Colon
  gives a

-- ( E , E { , E } ), what stands behind the words min and max at this offset
unfoldable pub listed : PrismOp → ℕ → Lang Expression
listed o at = do
  symbol S.LeftParenthesis
  a ← expr
  b ← argument expr
  e ← more_arguments o at (Two at o a b)
  symbol S.RightParenthesis
  gives e

-- ---- operands that stand alone

-- a number or an identifier
abbrev pub kept_plain : Kept → Bool
kept_plain (H.Number row) = true
kept_plain H.Ident = true
kept_plain (H.Word w) = false
kept_plain (H.Symbol s) = false
kept_plain H.Quoted = false

-- the kept tokens that go on with an expression
abbrev pub kept_goes_on : Kept → Bool
kept_goes_on k = kept_symbol k S.Question || (kept_symbol k S.LeftParenthesis || binds_below 10 (kept_infix k))

-- A number or an identifier stands next, and behind it nothing that goes on with an expression.
pub record IsLeaf (t : Tokens) : Type 0 where
  pub first : Found
  pub others : List Found
  pub parts : t.found.now ≡ first ∷ others
  pub plain : kept_plain first.kind ≡ true
  pub ends : Ends goes_on (map (lexeme_at t.source.now.bytes.now t.source.now.literals.now) others)
