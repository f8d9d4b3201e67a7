-- What reading a whole list of tokens gives.
use Rattle.std.specs.Prelude.{◌≡◌, ℕ, List, [], ◌∷◌, ◌++◌, None, false, Result, Ok, Err}
use Rattle.prism_lex.specs.declared.token.TokenKind.TheVariants as K
use Rattle.prism_lex.specs.declared.words.Reserved.TheVariants as W
use Rattle.prism_lex.specs.Tokens.{Lexeme}
use Rattle.prism_tree.specs.declared.syntax.PrismFile.{PrismFile}
use Rattle.prism_tree.specs.Syntax.{File, file_of}
use Rattle.prism_tree.specs.Lang.{Lang, Begins}
use Rattle.prism_tree.specs.Grammar.{file_over}
use Rattle.prism_exprs.specs.declared.tokens.Cause.{Cause}
use Rattle.prism_exprs.specs.declared.tokens.Cause.TheVariants as C
use Rattle.prism_exprs.specs.declared.tokens.Stop.{Stop}
use Rattle.prism_exprs.specs.declared.tokens.Stop.TheVariants.{Memory, At}
use Rattle.prism_exprs.specs.Kept.{seen}
use Rattle.prism_exprs.specs.Scope.{Scope, expressions, also, IsStopped, IsPassed, GoesOn}

-- files whose text has this length, in a scope
abbrev pub file_in : ℕ → Scope → Lang File
file_in end s = file_over (expressions s) (also s) end

-- The list spells this value and no other.
pub record IsWhole {A : Type 0} (L : Lang A) (ts : List Lexeme) (x : A) : Type 0 where
  pub spells : L ts x
  pub only : (y : A) → L ts y → y ≡ x

-- the profile's grammar, without the limit on expressions
abbrev pub plain : Scope
plain = record { counted = None; int_too = false }

-- An item could stand behind these tokens.
abbrev pub TakesItem : Lang File → List Lexeme → Type 0
TakesItem L u = (t : Lexeme) → t.kind ≡ K.Word W.Module → Begins L (u ++ t ∷ [])

-- an item can stand there just where this is the cause
abbrev pub ItemIsCause : Cause → ℕ → List Lexeme → Type 0
ItemIsCause C.Item end u = TakesItem (file_in end plain) u
ItemIsCause C.Form end u = TakesItem (file_in end plain) u → ⊥
ItemIsCause C.Deep end u = TakesItem (file_in end plain) u → ⊥
ItemIsCause C.Type end u = TakesItem (file_in end plain) u → ⊥

-- The tokens before the rest begin a file in each scope; with one token more, or where none is left, they begin or are none
-- where the scope is stopped by the cause, and they begin one where it passes.
pub record Refuses (end : ℕ) (ts rest : List Lexeme) (c : Cause) : Type 0 where
  pub before : List Lexeme
  pub parts : ts ≡ before ++ rest
  pub begins : (s : Scope) → Begins (file_in end s) before
  pub ends : rest ≡ [] → (s : Scope) (x : File) → file_in end s ts x → ⊥
  pub first : (s : Scope) → IsStopped c s rest → (t : Lexeme) (others : List Lexeme) → rest ≡ t ∷ others → Begins (file_in end s) (before ++ t ∷ []) → ⊥
  pub goes : (s : Scope) → IsPassed c s → GoesOn (file_in end s) before rest
  pub item : ItemIsCause c end before

abbrev pub FileIn : ℕ → List Lexeme → Result PrismFile Stop → Type 0
FileIn end ts (Ok f) = (s : Scope) → IsWhole (file_in end s) ts (file_of f)
FileIn end ts (Err Memory) = Unit {0}
FileIn end ts (Err (At r c)) = Refuses end ts (seen r) c
