-- The one fault of a list of tokens that spells no properties file, and what a text spells. The limit and the reasons are this project's
-- own rule.
use Rattle.std.specs.Prelude.{◌≡◌, ◌⊎◌, ℕ, List, [], ◌∷◌, ◌++◌, length, map, Contains, None}
use Rattle.bridge_io.specs.declared.reason.Reason.{Reason}
use Rattle.bridge_io.specs.declared.reason.Reason.TheVariants.{Syntax, TooDeep, PropertyLeftOut}
use Rattle.bridge_io.specs.declared.reason.Fault.{Fault}
use Rattle.prism_lex.specs.declared.token.TokenKind.{TokenKind}
use Rattle.prism_lex.specs.declared.token.TokenKind.TheVariants as K
use Rattle.prism_lex.specs.declared.words.Reserved.TheVariants as W
use Rattle.prism_lex.specs.declared.symbols.Symbol.TheVariants as S
use Rattle.prism_lex.specs.Tokens.{Lexeme, Tokens, TokenFaults}
use Rattle.prism_tree.specs.Syntax.{Expression}
use Rattle.prism_tree.specs.Lang.{Lang, Begins}
use Rattle.prism_tree.specs.Grammar.{expr, prim, function_of}
use Rattle.prism_tree.specs.Faults.{IsEarly, outer}
use Rattle.prop_grammar.specs.Syntax.{WrittenProperty}
use Rattle.prop_grammar.specs.Grammar.{as_name, properties}

-- ---- the operands that may be bounds, and the limit of 1,024 tokens

-- no name of a function alone
abbrev pub IsNoFunctionName : List Lexeme → Type 0
IsNoFunctionName w = (t : Lexeme) → w ≡ t ∷ [] → t.kind ≡ K.Ident → function_of t.text ≡ None

unfoldable pub operand : Lang Expression
operand w e = prim expr w e × IsNoFunctionName w

-- such an operand, in which none of these tokens is number 1,025 or a later one
unfoldable pub outer_operand : List Lexeme → Lang Expression
outer_operand us w e = operand w e × IsEarly us w

abbrev pub file : Lang (List WrittenProperty)
file = properties expr operand

-- a properties file in which none of these tokens is number 1,025 or later of an expression, or of a bound, that stands inside no
-- other
abbrev pub file_within : List Lexeme → Lang (List WrittenProperty)
file_within us = properties (outer us) (outer_operand us)

-- These tokens begin a properties file, and none of them is past the limit.
abbrev pub BeginsProperties : List Lexeme → Type 0
BeginsProperties us = Begins (file_within us) us

-- ---- the reasons

-- the words of forms that are left out, wherever they stand
abbrev pub left_out_words : List TokenKind
left_out_words =
    K.Word W.XWord ∷ K.Word W.SWord ∷ K.Word W.CWord ∷ K.Word W.IWord ∷ K.Word W.Const ∷ K.Word W.Label ∷ K.Word W.Formula ∷ K.Word W.Filter ∷ []

-- the words that begin a query
abbrev pub query_words : List TokenKind
query_words = K.Word W.PWord ∷ K.Word W.RWord ∷ K.Word W.Pmax ∷ K.Word W.Pmin ∷ K.Word W.Rmax ∷ K.Word W.Rmin ∷ []

-- The last bracket of these tokens is a left one: what comes next stands in a query.
pub record IsInQuery (us : List Lexeme) : Type 0 where
  pub before : List Lexeme
  pub bracket : Lexeme
  pub behind : List Lexeme
  pub parts : us ≡ before ++ bracket ∷ behind
  pub opens : bracket.kind ≡ K.Symbol S.LeftBracket
  pub stays : (t : Lexeme) → Contains behind t → t.kind ≡ K.Symbol S.RightBracket → ⊥

-- G or W is the last of these tokens.
abbrev pub IsBehindUnbounded : List Lexeme → Type 0
IsBehindUnbounded us = (before : List Lexeme) × (t : Lexeme) × (us ≡ before ++ t ∷ []) × ((t.kind ≡ K.Word W.GWord) ⊎ (t.kind ≡ K.Word W.WWord))

-- a token that cannot stand behind these begins a form of properties that is left out
pub data IsLeftOut (us : List Lexeme) (t : Lexeme) : Type 0 where
  a_left_out_form : Contains left_out_words t.kind → IsLeftOut us t
  a_nested_query : Contains query_words t.kind → IsInQuery us → IsLeftOut us t
  another_bound : t.kind ≡ K.Symbol S.AtMost → IsBehindUnbounded us → IsLeftOut us t

-- why a token cannot stand behind these tokens
pub data IsReason (us : List Lexeme) (t : Lexeme) : Reason → Type 0 where
  too_deep : Begins file (us ++ t ∷ []) → IsReason us t TooDeep
  left_out : (Begins file (us ++ t ∷ []) → ⊥) → IsLeftOut us t → IsReason us t PropertyLeftOut
  no_form : (Begins file (us ++ t ∷ []) → ⊥) → (IsLeftOut us t → ⊥) → IsReason us t Syntax

-- The fault is at the first token behind which the tokens are not sound any more. The end counts as a token, at this offset.
pub data IsGrammarFault (end : ℕ) (ts : List Lexeme) (f : Fault) : Type 0 where
  at_token : (us rest : List Lexeme) (t : Lexeme) → ts ≡ us ++ t ∷ rest → BeginsProperties us → (BeginsProperties (us ++ t ∷ []) → ⊥) →
      f.at ≡ t.at → IsReason us t f.reason → IsGrammarFault end ts f
  at_end : BeginsProperties ts → ((x : List WrittenProperty) → file ts x → ⊥) → f.at ≡ end → f.reason ≡ Syntax → IsGrammarFault end ts f

-- ---- texts

-- The bytes spell these properties.
pub record Spells (bytes : List ℕ) (x : List WrittenProperty) : Type 0 where
  pub tokens : List Lexeme
  pub are_tokens : Tokens bytes tokens
  pub spelled : file (map as_name tokens) x

-- These are all faults of the tokens of the bytes, or else, where they have none, all of the grammar.
pub data SyntaxFaults (bytes : List ℕ) : List Fault → Type 0 where
  of_tokens : (f : Fault) (fs : List Fault) → TokenFaults bytes (f ∷ fs) → SyntaxFaults bytes (f ∷ fs)
  of_grammar : (ts : List Lexeme) (f : Fault) → TokenFaults bytes [] → Tokens bytes ts → IsGrammarFault (length bytes) (map as_name ts) f →
      SyntaxFaults bytes (f ∷ [])
  none : (ts : List Lexeme) (x : List WrittenProperty) → TokenFaults bytes [] → Tokens bytes ts → file_within (map as_name ts) (map as_name ts) x →
      SyntaxFaults bytes []
