-- What names a text spells. (Identifiers and reserved words are those of the PRISM manual, "The PRISM language"; strings those
-- of RFC 8259, section 7; that a name may be written in either way is this project's own rule.)
use Rattle.std.specs.Prelude.{◌≡◌, ℕ, ◌≤◌, true, List, [], ◌∷◌, ◌++◌, length, Option, Some, None}
use Rattle.decimal_json.specs.Characters.{Characters, utf8_of}
use Rattle.decimal_json.specs.declared.tree.Json.{Json}
use Rattle.decimal_json.specs.declared.tree.Json.TheVariants as J
use Rattle.prism_lex.specs.Tokens.{is_name}
use Rattle.process_core.specs.Ready.{Name}

-- The text is a JSON string, without anything round it, of this value.
pub record IsString (w : List ℕ) (s : List ℕ) : Type 0 where
  pub characters : List ℕ
  pub inner : List ℕ
  pub text : w ≡ 34 ∷ (inner ++ 34 ∷ [])
  pub are : Characters characters inner
  pub value : s ≡ utf8_of characters

-- The text spells this name: itself, where it is an identifier or a reserved word of at most 255 bytes, or a JSON string.
pub data SpellsName (w : List ℕ) (x : Name) : Type 0 where
  plain : is_name w ≡ true → length w ≤ 255 → x ≡ w → SpellsName w x
  string : IsString w x → SpellsName w x

abbrev pub ReadsName : List ℕ → Option Name → Type 0
ReadsName w (Some x) = SpellsName w x
ReadsName w None = (x : Name) → SpellsName w x → ⊥

-- ---- the parts of it
abbrev pub ReadsString : List ℕ → Option Name → Type 0
ReadsString w (Some x) = IsString w x
ReadsString w None = (x : Name) → IsString w x → ⊥

abbrev pub string_of : Json → Option Name
string_of (J.Str at s) = Some s
string_of _ = None
