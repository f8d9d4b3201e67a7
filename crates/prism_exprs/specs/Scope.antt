-- Reading with the limit on expressions, and past it: what is told by the place where reading stops.
use Rattle.std.specs.Prelude.{◌≡◌, ℕ, ◌<◌, ◌≤◌, drop, Bool, true, false, List, [], ◌∷◌, ◌++◌, Option, Some, None, Contains, Result, Ok, Err}
use Rattle.prism_lex.specs.declared.token.TokenKind.{TokenKind}
use Rattle.prism_lex.specs.Tokens.{Lexeme}
use Rattle.prism_tree.specs.Syntax.{Expression, Range}
use Rattle.prism_tree.specs.Lang.{Lang, Begins}
use Rattle.prism_tree.specs.Grammar.{prim, expr, int_too}
use Rattle.prism_tree.specs.Faults.{IsEarly, outer}
use Rattle.prism_exprs.specs.declared.tokens.Tokens.{Tokens}
use Rattle.prism_exprs.specs.declared.tokens.Cause.{Cause}
use Rattle.prism_exprs.specs.declared.tokens.Cause.TheVariants as C
use Rattle.prism_exprs.specs.declared.tokens.Stop.{Stop}
use Rattle.prism_exprs.specs.declared.tokens.Stop.TheVariants.{Memory, At}
use Rattle.prism_exprs.specs.Kept.{seen}
use Rattle.prism_exprs.specs.Reading.{Reads, Dead}

-- One of the grammars in which the same tokens are read: the tokens that the limit of an expression speaks of, or no limit;
-- and whether a variable may be an int without bounds.
pub record Scope : Type 0 where
  pub counted : Option (List Lexeme)
  pub int_too : Bool

abbrev pub expressions_of : Option (List Lexeme) → Lang Expression
expressions_of None = expr
expressions_of (Some us) = outer us

-- the expressions that stand inside no other
abbrev pub expressions : Scope → Lang Expression
expressions s = expressions_of s.counted

-- the words of a language in which none of these tokens is number 1,025 or a later one
unfoldable pub early : List Lexeme → Lang Expression → Lang Expression
early us L w x = L w x × IsEarly us w

abbrev pub in_limit : Lang Expression → Option (List Lexeme) → Lang Expression
in_limit L None = L
in_limit L (Some us) = early us L

-- the operands that stand inside no other expression
abbrev pub prims : Scope → Lang Expression
prims s = in_limit (prim expr) s.counted

-- what else may stand behind the colon of a variable
abbrev pub also : Scope → Lang (Option Range)
also s = int_too s.int_too

-- The limit speaks of the first of these tokens.
abbrev pub IsCounted : Option (List Lexeme) → List Lexeme → Type 0
IsCounted None ts = ⊥
IsCounted (Some us) [] = ⊥
IsCounted (Some us) (t ∷ ts) = Contains us t

-- In this scope reading stops at these tokens, for this cause.
abbrev pub IsStopped : Cause → Scope → List Lexeme → Type 0
IsStopped C.Form s r = Unit {0}
IsStopped C.Item s r = Unit {0}
IsStopped C.Deep s r = IsCounted s.counted r
IsStopped C.Type s r = s.int_too ≡ false

-- In this scope the first of the tokens can stand there.
abbrev pub IsPassed : Cause → Scope → Type 0
IsPassed C.Form s = ⊥
IsPassed C.Item s = ⊥
IsPassed C.Deep s = s.counted ≡ None
IsPassed C.Type s = s.int_too ≡ true

-- There is a first token, and with it what stands before begins a word.
abbrev pub GoesOn : {A : Type 0} → Lang A → List Lexeme → List Lexeme → Type 0
GoesOn L u r = (t : Lexeme) × (others : List Lexeme) × (r ≡ t ∷ others) × Begins L (u ++ t ∷ [])

-- What stands before the rest begins a word; with one token more it begins none where the scope is stopped by the cause, and
-- begins one where the scope passes it.
pub record Halts (s : Scope) (c : Cause) {A : Type 0} (L : Lang A) (more : TokenKind → Bool) (ts rest : List Lexeme) : Type 0 where
  pub before : List Lexeme
  pub parts : ts ≡ before ++ rest
  pub begins : Begins L before
  pub dead : IsStopped c s rest → Dead L more before rest
  pub goes : IsPassed c s → GoesOn L before rest

abbrev pub StopsIn : {A : Type 0} → Scope → Lang A → (TokenKind → Bool) → List Lexeme → Stop → Type 0
StopsIn s L more ts Memory = Unit {0}
StopsIn s L more ts (At r c) = Halts s c L more ts (seen r)

-- what a function returned, seen by view, in each scope
abbrev pub ParsesIn : {X A : Type 0} → (X → A) → (Scope → Lang A) → (TokenKind → Bool) → List Lexeme → Result (X × Tokens) Stop → Type 0
ParsesIn view L more ts (Ok y) = (s : Scope) → Reads (L s) more ts (view y.0) (seen y.1)
ParsesIn view L more ts (Err e) = (s : Scope) → StopsIn s (L s) more ts e

-- Reading stopped because a token cannot stand there, or because of the limit.
abbrev pub IsPlainStop : Stop → Type 0
IsPlainStop Memory = Unit {0}
IsPlainStop (At r C.Form) = Unit {0}
IsPlainStop (At r C.Deep) = Unit {0}
IsPlainStop (At r C.Item) = ⊥
IsPlainStop (At r C.Type) = ⊥

-- These are the tokens behind the first few, and those are no more than 1,024.
abbrev pub IsWithin : ℕ → List Lexeme → List Lexeme → Type 0
IsWithin n ts rest = (n ≤ 1024) × (rest ≡ drop n ts)

-- The first few are more than 1,024, and reading stops at number 1,025.
abbrev pub IsPast : ℕ → List Lexeme → Stop → Type 0
IsPast n ts Memory = ⊥
IsPast n ts (At r c) = (1024 < n) × (seen r ≡ drop 1024 ts) × (c ≡ C.Deep)
