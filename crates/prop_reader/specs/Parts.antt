-- Parts of a properties file (PRISM manual, "Property Specification") in a scope, and which tokens go on with them.
use Rattle.std.specs.Prelude.{if◌then◌else◌, Bool, false, not, ◌&&◌, ◌||◌, is_some, ◌≡◌, List, [], ◌∷◌, ◌++◌, map, Option, Some, None, Result, Ok, Err}
use Rattle.bridge_io.specs.declared.reason.Named.{Named}
use Rattle.prism_lex.specs.declared.token.TokenKind.{TokenKind}
use Rattle.prism_lex.specs.declared.token.TokenKind.TheVariants as K
use Rattle.prism_lex.specs.declared.words.Reserved.TheVariants as W
use Rattle.prism_lex.specs.declared.symbols.Symbol.TheVariants as S
use Rattle.prism_lex.specs.Tokens.{Lexeme}
use Rattle.prism_tree.specs.Syntax.{Expression}
use Rattle.prism_tree.specs.Lang.{Lang, gives, ◌>>=◌, ◌>>◌, Begins}
use Rattle.prism_tree.specs.Grammar.{symbol}
use Rattle.prism_exprs.specs.Scope.{Scope, expressions, IsStopped, IsPassed, GoesOn}
use Rattle.prism_exprs.specs.declared.tokens.Cause.{Cause}
use Rattle.prism_exprs.specs.declared.tokens.Tokens.{Tokens}
use Rattle.prism_items.specs.Files.{IsWhole}
use Rattle.prism_exprs.specs.Reading.{Reads}
use Rattle.op_trees.specs.declared.tree.Expr.{Expr}
use Rattle.op_trees.specs.Tree.{tree}
use Rattle.prism_tree.specs.declared.operator.PrismOp.{PrismOp}
use Rattle.prism_exprs.specs.declared.tokens.Stop.{Stop}
use Rattle.prism_exprs.specs.declared.tokens.Stop.TheVariants.{Memory, At}
use Rattle.prism_exprs.specs.Kept.{seen}
use Rattle.prism_exprs.specs.declared.tokens.Kept.{Kept}
use Rattle.prism_exprs.specs.declared.tokens.Kept.TheVariants as H
use Rattle.prism_exprs.specs.Reading.{is_kind, starts}
use Rattle.prop_grammar.specs.declared.syntax.Compare.{Compare}
use Rattle.prop_grammar.specs.declared.syntax.Compare.TheVariants as C
use Rattle.prop_grammar.specs.declared.syntax.Written.{Written}
use Rattle.prism_items.specs.Parts.{closed_by}
use Rattle.prop_grammar.specs.declared.syntax.Query.{Query}
use Rattle.prop_grammar.specs.declared.syntax.PathForm.{PathForm}
use Rattle.prop_grammar.specs.declared.syntax.Structure.{Structure}
use Rattle.prop_grammar.specs.Property.{Ask, Path}
use Rattle.prop_grammar.specs.Syntax.{WrittenProperty, ask_of, path_of, written_of}
use Rattle.prop_grammar.specs.Grammar.{function_name, function_name_of, path, reach, properties}
use Rattle.prop_grammar.specs.Faults.{operand, outer_operand}

abbrev pub operands_of : Option (List Lexeme) → Lang Expression
operands_of None = operand
operands_of (Some us) = outer_operand us

-- a '(' makes a function of a name
abbrev pub opens : TokenKind → Bool
opens k = is_kind (K.Symbol S.LeftParenthesis) k

-- the bounds that stand inside no other expression
abbrev pub operands : Scope → Lang Expression
operands s = operands_of s.counted

-- a part of a properties file, in a scope
abbrev pub in_scope : {A : Type 0} → (Lang Expression → Lang Expression → Lang A) → Scope → Lang A
in_scope L s = L (expressions s) (operands s)

-- ---- parts and their brackets

abbrev pub bracket_behind : {A : Type 0} → Lang A → Lang A
bracket_behind L = closed_by (K.Symbol S.RightBracket) L

-- '[' Path ']', and '[' F E ']'
abbrev pub bracketed_path : Lang Expression → Lang Expression → Lang (Path Expression)
bracketed_path E B = symbol S.LeftBracket >> bracket_behind (path E B)

abbrev pub bracketed_reach : Lang Expression → Lang Expression → Lang (Path Expression)
bracketed_reach E B = symbol S.LeftBracket >> bracket_behind (reach E B)

-- what is asked of paths that come next, by a property with this name or without one
abbrev pub asking : Option Named → Lang (Path Expression) → Ask Expression Structure → Lang WrittenProperty
asking n L a = L >>= λ p. gives (record { name = n; ask = a; path = p })

-- the same where what is asked of reaching stands before
abbrev pub asked_of : Option Named → Lang (Ask Expression Structure) → Lang Expression → Lang Expression → Lang WrittenProperty
asked_of n L E B = L >>= asking n (bracketed_reach E B)

abbrev pub asked_as : Option Named → Query × PathForm → WrittenProperty
asked_as n q = record { name = n; ask = ask_of q.0; path = path_of q.1 }

-- ---- what the code looks at

abbrev pub kept_comparison : Kept → Option Compare
kept_comparison (H.Symbol S.Less) = Some C.Less
kept_comparison (H.Symbol S.AtMost) = Some C.AtMost
kept_comparison (H.Symbol S.AtLeast) = Some C.AtLeast
kept_comparison (H.Symbol S.Greater) = Some C.Greater
kept_comparison (H.Word _) = None
kept_comparison (H.Symbol _) = None
kept_comparison H.Ident = None
kept_comparison H.Quoted = None
kept_comparison (H.Number _) = None

-- whether there is a first token, and it means something
abbrev pub means : {A : Type 0} → (Lexeme → Option A) → List Lexeme → Bool
means meaning [] = false
means meaning (t ∷ ts) = is_some (meaning t)

-- A name of a function stands next, and no '(' behind it.
abbrev pub function_alone : List Lexeme → Bool
function_alone [] = false
function_alone (t ∷ ts) = is_some (function_name_of t) && not (starts opens ts)

-- a name of a function was read that stands alone, or none stands next
abbrev pub IsNameAlone : List Lexeme → Option (Expr PrismOp × Tokens) → Type 0
IsNameAlone ts (Some y) = Reads function_name opens ts (tree y.0) (seen y.1)
IsNameAlone ts None = function_alone ts ≡ false

-- the words that begin a query of rewards
abbrev pub begins_reward : TokenKind → Bool
begins_reward k = is_kind (K.Word W.Rmax) k || (is_kind (K.Word W.Rmin) k || is_kind (K.Word W.RWord) k)

-- the tokens behind a semicolon, if one stands next
abbrev pub behind_semicolon : List Lexeme → List Lexeme
behind_semicolon [] = []
behind_semicolon (t ∷ ts) = if is_kind (K.Symbol S.Semicolon) t.kind then ts else t ∷ ts

-- ---- whole files

-- properties files, in a scope
abbrev pub properties_in : Scope → Lang (List WrittenProperty)
properties_in s = in_scope properties s

-- The list spells these properties in each scope, and no others.
abbrev pub IsWholeFile : List Lexeme → List WrittenProperty → Type 0
IsWholeFile ts x = (s : Scope) → IsWhole (properties_in s) ts x

-- The tokens before the rest begin a file in each scope; with one token more, or where none is left, they begin or are none
-- where the scope is stopped by the cause, and they begin one where it passes.
pub record Refuses (ts rest : List Lexeme) (c : Cause) : Type 0 where
  pub before : List Lexeme
  pub parts : ts ≡ before ++ rest
  pub begins : (s : Scope) → Begins (properties_in s) before
  pub ends : rest ≡ [] → (s : Scope) (x : List WrittenProperty) → properties_in s ts x → ⊥
  pub first : (s : Scope) → IsStopped c s rest → (t : Lexeme) (others : List Lexeme) → rest ≡ t ∷ others → Begins (properties_in s) (before ++ t ∷ []) → ⊥
  pub goes : (s : Scope) → IsPassed c s → GoesOn (properties_in s) before rest

abbrev pub PropertiesIn : List Lexeme → Result (List Written) Stop → Type 0
PropertiesIn ts (Ok ps) = IsWholeFile ts (map written_of ps)
PropertiesIn ts (Err Memory) = Unit {0}
PropertiesIn ts (Err (At r c)) = Refuses ts (seen r) c
