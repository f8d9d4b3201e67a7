-- The reason that is told of a token that cannot stand where reading stopped, from the cause and the tokens before it. (This
-- project's own rule.)
use Rattle.std.specs.Prelude.{ℕ, Bool, true, false, ◌&&◌, List, [], ◌∷◌, if◌then◌else◌}
use Rattle.bridge_io.specs.declared.reason.Reason.{Reason}
use Rattle.bridge_io.specs.declared.reason.Reason.TheVariants.{Syntax, PropertyLeftOut}
use Rattle.bridge_io.specs.declared.reason.Refused.{Refused}
use Rattle.bridge_io.specs.declared.reason.Refused.TheVariants as R
use Rattle.prism_lex.specs.declared.token.TokenKind.{TokenKind}
use Rattle.prism_lex.specs.declared.token.TokenKind.TheVariants as K
use Rattle.prism_lex.specs.declared.words.Reserved.{Reserved}
use Rattle.prism_lex.specs.declared.words.Reserved.TheVariants as W
use Rattle.prism_lex.specs.declared.symbols.Symbol.{Symbol as PrismSymbol}
use Rattle.prism_lex.specs.declared.symbols.Symbol.TheVariants as S
use Rattle.prism_lex.specs.Tokens.{Lexeme}
use Rattle.prism_exprs.specs.declared.tokens.Kept.{Kept}
use Rattle.prism_exprs.specs.declared.tokens.Kept.TheVariants as H
use Rattle.prism_exprs.specs.declared.tokens.Cause.{Cause}
use Rattle.prop_grammar.specs.Faults.{IsGrammarFault}
use Rattle.prism_parse.specs.Reasons.{ends_with, unless_deep}
use Rattle.prop_reader.specs.Parts.{Refuses}

-- the words of forms that are left out, and those that begin a query
abbrev pub is_left_out : Reserved → Bool
is_left_out W.XWord = true
is_left_out W.SWord = true
is_left_out W.CWord = true
is_left_out W.IWord = true
is_left_out W.Const = true
is_left_out W.Label = true
is_left_out W.Formula = true
is_left_out W.Filter = true
is_left_out w = false

abbrev pub is_query : Reserved → Bool
is_query W.PWord = true
is_query W.RWord = true
is_query W.Pmax = true
is_query W.Pmin = true
is_query W.Rmax = true
is_query W.Rmin = true
is_query w = false

-- the words behind which no bound of steps stands
abbrev pub is_unbounded : TokenKind → Bool
is_unbounded (K.Word W.GWord) = true
is_unbounded (K.Word W.WWord) = true
is_unbounded (K.Word _) = false
is_unbounded K.Ident = false
is_unbounded K.Quoted = false
is_unbounded (K.Number _) = false
is_unbounded (K.Symbol _) = false
is_unbounded K.End = false

-- whether the last bracket is a left one
abbrev pub bracketed : Bool → TokenKind → Bool
bracketed b (K.Symbol S.LeftBracket) = true
bracketed b (K.Symbol S.RightBracket) = false
bracketed b (K.Word _) = b
bracketed b K.Ident = b
bracketed b K.Quoted = b
bracketed b (K.Number _) = b
bracketed b (K.Symbol _) = b
bracketed b K.End = b

abbrev pub in_query_from : Bool → List Lexeme → Bool
in_query_from b [] = b
in_query_from b (t ∷ ts) = in_query_from (bracketed b t.kind) ts

abbrev pub in_query : List Lexeme → Bool
in_query ts = in_query_from false ts

-- whether the last token is one of the words behind which no bound stands
abbrev pub behind_unbounded : List Lexeme → Bool
behind_unbounded ts = ends_with (λ t. is_unbounded t.kind) ts

abbrev pub left_out_if : Bool → Reason
left_out_if b = if b then PropertyLeftOut else Syntax

abbrev pub word_reason : Reserved → Bool → Reason
word_reason w inside = if is_left_out w then PropertyLeftOut else left_out_if (is_query w && inside)

abbrev pub is_at_most : PrismSymbol → Bool
is_at_most S.AtMost = true
is_at_most s = false

-- of a token that stands in a query or not, and behind such a word or not
abbrev pub form_reason : TokenKind → Bool → Bool → Reason
form_reason (K.Word w) inside unbounded = word_reason w inside
form_reason (K.Symbol s) inside unbounded = left_out_if (is_at_most s && unbounded)
form_reason K.Ident inside unbounded = Syntax
form_reason K.Quoted inside unbounded = Syntax
form_reason (K.Number _) inside unbounded = Syntax
form_reason K.End inside unbounded = Syntax

-- the same of tokens as they are kept
abbrev pub kept_reason : Kept → Bool → Bool → Reason
kept_reason (H.Word w) inside unbounded = word_reason w inside
kept_reason (H.Symbol s) inside unbounded = left_out_if (is_at_most s && unbounded)
kept_reason H.Ident inside unbounded = Syntax
kept_reason H.Quoted inside unbounded = Syntax
kept_reason (H.Number _) inside unbounded = Syntax

abbrev pub kept_unbounded : Kept → Bool
kept_unbounded (H.Word W.GWord) = true
kept_unbounded (H.Word W.WWord) = true
kept_unbounded (H.Word _) = false
kept_unbounded (H.Symbol _) = false
kept_unbounded H.Ident = false
kept_unbounded H.Quoted = false
kept_unbounded (H.Number _) = false

abbrev pub kept_bracketed : Bool → Kept → Bool
kept_bracketed b (H.Symbol S.LeftBracket) = true
kept_bracketed b (H.Symbol S.RightBracket) = false
kept_bracketed b (H.Word _) = b
kept_bracketed b (H.Symbol _) = b
kept_bracketed b H.Ident = b
kept_bracketed b H.Quoted = b
kept_bracketed b (H.Number _) = b

abbrev pub reason_at : Cause → List Lexeme → Lexeme → Reason
reason_at c us t = unless_deep c (form_reason t.kind (in_query us) (behind_unbounded us))

-- Where reading stopped at a token behind these, the fault is there, for this reason.
abbrev pub RefusedAtToken : Type 0
RefusedAtToken = (end : ℕ) (ts others : List Lexeme) (t : Lexeme) (c : Cause) (stop : Refuses ts (t ∷ others) c) → IsGrammarFault end ts (record { reason = reason_at c stop.before t; at = t.at })

-- Where it stopped behind all tokens, the fault is at the end.
abbrev pub RefusedAtEnd : Type 0
RefusedAtEnd = (end : ℕ) (ts : List Lexeme) (c : Cause) → Refuses ts [] c → IsGrammarFault end ts (record { reason = Syntax; at = end })

-- ---- the answer

-- want of memory may come always
abbrev pub IsRefusal : ℕ → List Lexeme → Refused → Type 0
IsRefusal end ts (R.Memory e) = Unit {0}
IsRefusal end ts (R.At f) = IsGrammarFault end ts f
