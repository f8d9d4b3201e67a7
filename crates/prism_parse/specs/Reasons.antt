-- The reason that is told of a token that cannot stand where reading stopped, from the cause and the token before it.
use Rattle.std.specs.Prelude.{Bool, true, false, ◌&&◌, ◌||◌, List, [], ◌∷◌, ℕ, codes, if◌then◌else◌}
use Rattle.std.specs.Str.{bytes_eq}
use Rattle.bridge_io.specs.declared.reason.Reason.{Reason}
use Rattle.bridge_io.specs.declared.reason.Reason.TheVariants.{Syntax, TooDeep, OtherKind, LeftOut}
use Rattle.prism_lex.specs.declared.token.TokenKind.{TokenKind}
use Rattle.prism_lex.specs.declared.token.TokenKind.TheVariants as K
use Rattle.prism_lex.specs.declared.words.Reserved.{Reserved}
use Rattle.prism_lex.specs.declared.words.Reserved.TheVariants as W
use Rattle.prism_lex.specs.declared.symbols.Symbol.{Symbol as PrismSymbol}
use Rattle.prism_lex.specs.declared.symbols.Symbol.TheVariants as S
use Rattle.prism_lex.specs.Tokens.{Lexeme}
use Rattle.prism_exprs.specs.declared.tokens.Cause.{Cause}
use Rattle.prism_exprs.specs.declared.tokens.Cause.TheVariants as C
use Rattle.prism_exprs.specs.declared.tokens.Kept.{Kept}
use Rattle.prism_exprs.specs.declared.tokens.Kept.TheVariants as H

-- the words of other kinds of models
abbrev pub is_kind_word : Reserved → Bool
is_kind_word W.Dtmc = true
is_kind_word W.Ctmc = true
is_kind_word W.Pta = true
is_kind_word W.Popta = true
is_kind_word W.Pomdp = true
is_kind_word W.Probabilistic = true
is_kind_word W.Stochastic = true
is_kind_word w = false

-- the words of forms that are left out
abbrev pub is_left_out : Reserved → Bool
is_left_out W.System = true
is_left_out W.Clock = true
is_left_out W.Invariant = true
is_left_out W.Observable = true
is_left_out W.Observables = true
is_left_out W.Nondeterministic = true
is_left_out W.Func = true
is_left_out w = false

abbrev pub is_int : Reserved → Bool
is_int W.Int = true
is_int w = false

abbrev pub left_out_reason : Bool → Reason
left_out_reason out = if out then LeftOut else Syntax

-- the reason of a word
abbrev pub word_reason : Cause → Reserved → Reason
word_reason C.Item w = if is_kind_word w then OtherKind else left_out_reason (is_left_out w)
word_reason C.Type w = if is_int w then LeftOut else left_out_reason (is_left_out w)
word_reason C.Form w = left_out_reason (is_left_out w)
word_reason C.Deep w = left_out_reason (is_left_out w)

abbrev pub is_open : PrismSymbol → Bool
is_open S.LeftParenthesis = true
is_open s = false

-- the reason of a token with which no file begins, and which may stand behind the name of a function that is left out
abbrev pub form_reason : Cause → TokenKind → Bool → Reason
form_reason c (K.Word w) called = word_reason c w
form_reason c (K.Symbol s) called = left_out_reason (is_open s && called)
form_reason c K.Ident called = Syntax
form_reason c K.Quoted called = Syntax
form_reason c (K.Number _) called = Syntax
form_reason c K.End called = Syntax

-- the same of a token as it is kept
abbrev pub kept_reason : Cause → Kept → Bool → Reason
kept_reason c (H.Word w) called = word_reason c w
kept_reason c (H.Symbol s) called = left_out_reason (is_open s && called)
kept_reason c H.Ident called = Syntax
kept_reason c H.Quoted called = Syntax
kept_reason c (H.Number _) called = Syntax

abbrev pub unless_deep : Cause → Reason → Reason
unless_deep C.Deep r = TooDeep
unless_deep C.Form r = r
unless_deep C.Item r = r
unless_deep C.Type r = r

-- the names of functions that are left out
abbrev pub is_left_out_text : List ℕ → Bool
is_left_out_text w = bytes_eq w (codes "pow") || (bytes_eq w (codes "log") || (bytes_eq w (codes "round") || bytes_eq w (codes "multi")))

abbrev pub is_ident : TokenKind → Bool
is_ident K.Ident = true
is_ident (K.Word _) = false
is_ident K.Quoted = false
is_ident (K.Number _) = false
is_ident (K.Symbol _) = false
is_ident K.End = false

abbrev pub is_left_out_name : Lexeme → Bool
is_left_out_name l = is_ident l.kind && is_left_out_text l.text

-- whether there is a last token, and it passes the test
abbrev pub ends_with : (Lexeme → Bool) → List Lexeme → Bool
ends_with p [] = false
ends_with p (t ∷ []) = p t
ends_with p (t ∷ u ∷ ts) = ends_with p (u ∷ ts)
