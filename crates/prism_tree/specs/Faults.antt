-- The one fault of a list of tokens that spells no file, and what a text spells.
use Rattle.std.specs.Prelude.{◌≡◌, ℕ, ◌<◌, true, false, List, [], ◌∷◌, ◌++◌, length, Contains, codes}
use Rattle.bridge_io.specs.declared.reason.Reason.{Reason}
use Rattle.bridge_io.specs.declared.reason.Reason.TheVariants.{Syntax, TooDeep, OtherKind, LeftOut}
use Rattle.bridge_io.specs.declared.reason.Fault.{Fault}
use Rattle.prism_lex.specs.declared.token.TokenKind.{TokenKind}
use Rattle.prism_lex.specs.declared.token.TokenKind.TheVariants as K
use Rattle.prism_lex.specs.declared.words.Reserved.TheVariants as W
use Rattle.prism_lex.specs.declared.symbols.Symbol.TheVariants as S
use Rattle.prism_lex.specs.Tokens.{Lexeme, Tokens, TokenFaults}
use Rattle.prism_tree.specs.Syntax.{Expression, File}
use Rattle.prism_tree.specs.Lang.{Lang, Begins}
use Rattle.prism_tree.specs.Grammar.{expr, int_too, file_over}

-- ---- the limit of 1,024 tokens

-- Those of these tokens that stand in the word are among its first 1,024.
abbrev pub IsEarly : List Lexeme → List Lexeme → Type 0
IsEarly us w = (a b : List Lexeme) (t : Lexeme) → w ≡ a ++ t ∷ b → Contains us t → length a < 1024

-- an expression that stands inside no other, in which none of these tokens is number 1,025 or a later one
unfoldable pub outer : List Lexeme → Lang Expression
outer us w e = expr w e × IsEarly us w

abbrev pub file : ℕ → Lang File
file end = file_over expr (int_too false) end

-- a file whose text has this length, and in which none of these tokens is number 1,025 or later of such an expression
abbrev pub file_within : ℕ → List Lexeme → Lang File
file_within end us = file_over (outer us) (int_too false) end

-- a file in which a variable may be an int without bounds
abbrev pub unbounded_file : ℕ → Lang File
unbounded_file end = file_over expr (int_too true) end

-- These tokens begin a file, and none of them is number 1,025 or later of an expression that stands inside no other.
abbrev pub IsSound : ℕ → List Lexeme → Type 0
IsSound end us = Begins (file_within end us) us

-- ---- the reasons

-- An item could stand behind these tokens.
abbrev pub ItemCanStand : ℕ → List Lexeme → Type 0
ItemCanStand end us = (t : Lexeme) → t.kind ≡ K.Word W.Module → Begins (file end) (us ++ t ∷ [])

-- the words of other kinds of models
abbrev pub kind_words : List TokenKind
kind_words =
    K.Word W.Dtmc ∷ K.Word W.Ctmc ∷ K.Word W.Pta ∷ K.Word W.Popta ∷ K.Word W.Pomdp ∷ K.Word W.Probabilistic
    ∷ K.Word W.Stochastic ∷ []

-- the words of forms that are left out
abbrev pub left_out_words : List TokenKind
left_out_words =
    K.Word W.System ∷ K.Word W.Clock ∷ K.Word W.Invariant ∷ K.Word W.Observable ∷ K.Word W.Observables
    ∷ K.Word W.Nondeterministic ∷ K.Word W.Func ∷ []

-- the functions that are left out
abbrev pub left_out_functions : List (List ℕ)
left_out_functions = codes "pow" ∷ codes "log" ∷ codes "round" ∷ codes "multi" ∷ []

-- What a token that cannot stand behind these tokens would begin. The kinds of the token tell these cases apart. The word
-- int begins an unbounded variable where a file with such variables could go on with it, but one of the profile cannot.
pub data WouldBegin (end : ℕ) (us : List Lexeme) (t : Lexeme) : Reason → Type 0 where
  another_kind : Contains kind_words t.kind → ItemCanStand end us → WouldBegin end us t OtherKind
  a_left_out_form : Contains left_out_words t.kind → WouldBegin end us t LeftOut
  an_unbounded_variable : t.kind ≡ K.Word W.Int → Begins (unbounded_file end) (us ++ t ∷ []) → WouldBegin end us t LeftOut
  a_left_out_function : t.kind ≡ K.Symbol S.LeftParenthesis → (a : List Lexeme) (s : Lexeme) → us ≡ a ++ s ∷ [] → s.kind ≡ K.Ident →
      Contains left_out_functions s.text → WouldBegin end us t LeftOut

-- why a token cannot stand behind these tokens
pub data IsReason (end : ℕ) (us : List Lexeme) (t : Lexeme) : Reason → Type 0 where
  too_deep : Begins (file end) (us ++ t ∷ []) → IsReason end us t TooDeep
  not_read : (r : Reason) → (Begins (file end) (us ++ t ∷ []) → ⊥) → WouldBegin end us t r → IsReason end us t r
  no_form : (Begins (file end) (us ++ t ∷ []) → ⊥) → ((r : Reason) → WouldBegin end us t r → ⊥) → IsReason end us t Syntax

-- The fault is at the first token behind which the tokens are not sound any more. The end counts as a token.
pub data IsGrammarFault (end : ℕ) (ts : List Lexeme) (f : Fault) : Type 0 where
  at_token : (us rest : List Lexeme) (t : Lexeme) → ts ≡ us ++ t ∷ rest → IsSound end us → (IsSound end (us ++ t ∷ []) → ⊥) →
      f.at ≡ t.at → IsReason end us t f.reason → IsGrammarFault end ts f
  at_end : IsSound end ts → ((x : File) → file end ts x → ⊥) → f.at ≡ end → f.reason ≡ Syntax → IsGrammarFault end ts f

-- ---- texts

-- The bytes spell the tree.
pub record Spells (bytes : List ℕ) (x : File) : Type 0 where
  pub tokens : List Lexeme
  pub are_tokens : Tokens bytes tokens
  pub spelled : file (length bytes) tokens x

-- These are all faults of the tokens of the bytes, or else, where they have none, all of the grammar.
pub data SyntaxFaults (bytes : List ℕ) : List Fault → Type 0 where
  of_tokens : (f : Fault) (fs : List Fault) → TokenFaults bytes (f ∷ fs) → SyntaxFaults bytes (f ∷ fs)
  of_grammar : (ts : List Lexeme) (f : Fault) → TokenFaults bytes [] → Tokens bytes ts → IsGrammarFault (length bytes) ts f →
      SyntaxFaults bytes (f ∷ [])
  none : (ts : List Lexeme) (x : File) → TokenFaults bytes [] → Tokens bytes ts → file_within (length bytes) ts ts x → SyntaxFaults bytes []
