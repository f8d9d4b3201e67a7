-- The items of a file as the code holds them, and lists of items.
use Rattle.std.specs.Prelude.{◌≡◌, ◌≢◌, Bool, ◌||◌, List, [], ◌∷◌, ◌++◌, Result, Ok, Err}
use Rattle.prism_lex.specs.declared.token.TokenKind.{TokenKind}
use Rattle.prism_lex.specs.declared.token.TokenKind.TheVariants as K
use Rattle.prism_lex.specs.declared.words.Reserved.TheVariants as W
use Rattle.prism_lex.specs.Tokens.{Lexeme}
use Rattle.prism_tree.specs.declared.syntax.PrismFile.{PrismFile}
use Rattle.prism_tree.specs.Syntax.{File, const_of, var_of, formula_of, module_of, label_of, rewards_of}
use Rattle.prism_tree.specs.Lang.{Lang, folding}
use Rattle.prism_tree.specs.Grammar.{Section, a_const, a_global, a_formula, a_module, a_label, a_rewards, section, with_section, items}
use Rattle.prism_exprs.specs.declared.tokens.Cause.{Cause}
use Rattle.prism_exprs.specs.declared.tokens.Cause.TheVariants as C
use Rattle.prism_exprs.specs.declared.tokens.Stop.{Stop}
use Rattle.prism_exprs.specs.declared.tokens.Stop.TheVariants.{Memory, At}
use Rattle.prism_exprs.specs.declared.tokens.Tokens.{Tokens}
use Rattle.prism_exprs.specs.Kept.{seen}
use Rattle.prism_exprs.specs.Reading.{Dead, is_kind}
use Rattle.prism_exprs.specs.Scope.{Scope, expressions, also}
use Rattle.prism_items.specs.declared.sections.Section.{Section as Kept}
use Rattle.prism_items.specs.declared.sections.Section.TheVariants as V
use Rattle.prism_items.specs.Parts.{in_scope}

abbrev pub section_of : Kept → Section
section_of (V.Const c) = a_const (const_of c)
section_of (V.Global v) = a_global (var_of v)
section_of (V.Formula f) = a_formula (formula_of f)
section_of (V.Module m) = a_module (module_of m)
section_of (V.Label l) = a_label (label_of l)
section_of (V.Rewards r) = a_rewards (rewards_of r)

-- any number of items but Init, taken up into a file
abbrev pub sections_from : File → Scope → Lang File
sections_from f s = folding with_section (in_scope section s) f

-- any number of items, taken up into a file
abbrev pub items_from : File → Scope → Lang File
items_from f s = items (expressions s) (also s) f

-- the words that begin items but Init, from the last on
abbrev pub label_on : TokenKind → Bool
label_on k = is_kind (K.Word W.Label) k || is_kind (K.Word W.Rewards) k

abbrev pub module_on : TokenKind → Bool
module_on k = is_kind (K.Word W.Module) k || label_on k

abbrev pub formula_on : TokenKind → Bool
formula_on k = is_kind (K.Word W.Formula) k || module_on k

abbrev pub global_on : TokenKind → Bool
global_on k = is_kind (K.Word W.Global) k || formula_on k

abbrev pub is_item : TokenKind → Bool
is_item k = is_kind (K.Word W.Const) k || global_on k

-- the words that begin items
abbrev pub is_item_or_init : TokenKind → Bool
is_item_or_init k = is_kind (K.Word W.Init) k || is_item k

-- where reading stops inside an item
abbrev pub inside_cause : Cause → Cause
inside_cause C.Item = C.Form
inside_cause C.Form = C.Form
inside_cause C.Deep = C.Deep
inside_cause C.Type = C.Type

abbrev pub inside : Stop → Stop
inside Memory = Memory
inside (At r c) = At r (inside_cause c)

-- Reading stops behind some token, at a place where no item can stand.
pub record IsBlocked (L : Lang File) (more : TokenKind → Bool) (ts rest : List Lexeme) : Type 0 where
  pub before : List Lexeme
  pub parts : ts ≡ before ++ rest
  pub some : before ≢ []
  pub dead : (m : Lexeme) → m.kind ≡ K.Word W.Module → Dead L more before (m ∷ [])

-- Reading stops behind a list of items.
pub record IsBehind (L : Lang File) (ts rest : List Lexeme) : Type 0 where
  pub before : List Lexeme
  pub file : File
  pub parts : ts ≡ before ++ rest
  pub spells : L before file

-- where reading stops for a cause
abbrev pub IsPlaced : Cause → Lang File → (TokenKind → Bool) → List Lexeme → List Lexeme → Type 0
IsPlaced C.Item L more ts rest = IsBehind L ts rest
IsPlaced C.Form L more ts rest = IsBlocked L more ts rest
IsPlaced C.Deep L more ts rest = IsBlocked L more ts rest
IsPlaced C.Type L more ts rest = IsBlocked L more ts rest

abbrev pub Blocks : Lang File → (TokenKind → Bool) → List Lexeme → Result (PrismFile × Tokens) Stop → Type 0
Blocks L more ts (Ok y) = Unit {0}
Blocks L more ts (Err Memory) = Unit {0}
Blocks L more ts (Err (At r c)) = IsPlaced c L more ts (seen r)
