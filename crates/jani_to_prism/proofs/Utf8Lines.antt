-- What comment lines are made of is UTF-8.
use Rattle.std.proofs.Common.{◌≡◌, ℕ, List, [], ◌∷◌, ◌++◌, refl, sym, subst, true}
use Rattle.std.specs.Prelude.{Result, Ok, Err, OnOk, is_ok, if◌then◌else◌}
use Rattle.std.specs.List.{list_all}
use Rattle.std.specs.Str.{IsUtf8, is_utf8}
use Rattle.std.proofs.lemmas.Bool.{and_parts}
use Rattle.std.proofs.lemmas.Str.{IsUtf8-append, IsUtf8-from_is_utf8}
use Rattle.decimal_json.specs.Strings.{is_plain, AllPlain}
use Rattle.decimal_json.specs.Text.{escaped, quoted}
use Rattle.decimal_json.proofs.Escapes.{string_back}
use Rattle.decimal_json.proofs.Passing.{plain_utf8}
use Rattle.process_texts.proofs.Reading.{string_utf8}

-- ---- pieces

all_plain : (w : List ℕ) → list_all is_plain w ≡ true → AllPlain w
all_plain [] e = tt
all_plain (c ∷ w) e = let p = and_parts (is_plain c) (list_all is_plain w) e in (p.0, all_plain w p.1)

-- one that stands in the code
pub known_utf8 : (w : List ℕ) → list_all is_plain w ≡ true → IsUtf8 w
known_utf8 w e = plain_utf8 w (all_plain w e)

-- the JSON string of a name
quoted_utf8 : (x : List ℕ) → is_utf8 x ≡ true → IsUtf8 (quoted x)
quoted_utf8 x h =
    let b = string_back x (IsUtf8-from_is_utf8 x h) in
    string_utf8 (quoted x) x (record { characters = b.0; inner = escaped x; text = refl; are = b.1; value = b.2 })

-- ---- one behind another

pub more_utf8 : (a b c : List ℕ) → c ≡ a ++ b → IsUtf8 b → IsUtf8 a → IsUtf8 c
more_utf8 a b c e h k = subst IsUtf8 (sym e) (IsUtf8-append a b k h)

pub name_utf8 : (a x b : List ℕ) → b ≡ a ++ quoted x → is_utf8 x ≡ true → IsUtf8 a → IsUtf8 b
name_utf8 a x b e h k = more_utf8 a (quoted x) b e (quoted_utf8 x h) k

-- ---- what a call wrote, if it did

module _ {T E : Type 0} where
  pub told_piece : (r : Result T E) (a b c : List ℕ) → IsUtf8 b → c ≡ (if is_ok r then a ++ b else a) → OnOk r (IsUtf8 a → IsUtf8 c)
  told_piece (Ok y) a b c h e = more_utf8 a b c e h
  told_piece (Err y) a b c h e = tt

  pub told_name : (r : Result T E) (a x b : List ℕ) → OnOk r (b ≡ a ++ quoted x) → OnOk r (is_utf8 x ≡ true) → OnOk r (IsUtf8 a → IsUtf8 b)
  told_name (Ok y) a x b e h = name_utf8 a x b e h
  told_name (Err y) a x b e h = tt

  pub told_then : (r : Result T E) (a b c : List ℕ) → (IsUtf8 a → IsUtf8 b) → OnOk r (IsUtf8 b → IsUtf8 c) → OnOk r (IsUtf8 a → IsUtf8 c)
  told_then (Ok y) a b c f g = λ h. g (f h)
  told_then (Err y) a b c f g = tt
