-- The text of a name spells it, where it is UTF-8 and has at most 255 bytes.
use Rattle.std.proofs.Common.{◌≡◌, ◌≤◌, Bool, true, false, length, if◌then◌else◌, refl}
use Rattle.std.specs.Str.{is_utf8}
use Rattle.std.proofs.lemmas.Str.{IsUtf8-from_ascii, IsUtf8-from_is_utf8, is_utf8-from_IsUtf8}
use Rattle.decimal_json.specs.Text.{quoted, escaped}
use Rattle.decimal_json.proofs.Escapes.{string_back}
use Rattle.prism_lex.specs.Tokens.{is_name}
use Rattle.prism_lex.proofs.NameTexts.{name_ascii}
use Rattle.process_core.specs.Ready.{Name}
use Rattle.process_texts.specs.Names.{SpellsName, plain, string}
use Rattle.process_texts.specs.Texts.{name_text}

pub record IsReadName (x : Name) : Type 0 where
  pub utf8 : is_utf8 x ≡ true
  pub short : length x ≤ 255

pub name_back : (x : Name) → IsReadName x → SpellsName (name_text x) x
name_back x h = by_test (is_name x) refl
  where
    by_test : (b : Bool) → is_name x ≡ b → SpellsName (if b then x else quoted x) x
    by_test true e = plain e h.short refl
    by_test false e = let r = string_back x (IsUtf8-from_is_utf8 x h.utf8) in string (record { characters = r.0; inner = escaped x; text = refl; are = r.1; value = r.2 })

pub identifier_read : (x : Name) → is_name x ≡ true → length x ≤ 255 → IsReadName x
identifier_read x n l = record { utf8 = is_utf8-from_IsUtf8 x (IsUtf8-from_ascii x (name_ascii x n)); short = l }
