-- The texts of names: none has a line feed, and what spells a name is UTF-8 and no dash.
use Rattle.std.proofs.Common.{◌≡◌, ℕ, ◌+◌, ◌/◌, ◌%◌, ◌<◌, ◌≤◌, ◌||◌, nat_eq, nat_lt, List, [], ◌∷◌, ◌++◌, Bool, true, false, if◌then◌else◌, slice_index, refl, sym, ap, ap₂, ◌∙◌, arith, ltb-false}
use Rattle.std.specs.List.{list_all}
use Rattle.std.specs.Str.{is_utf8}
use Rattle.std.proofs.lemmas.Bool.{ne_eqb}
use Rattle.std.proofs.lemmas.Bool.Decides.{nat_tests}
use Rattle.std.proofs.lemmas.Str.{IsUtf8-from_ascii, is_utf8-from_IsUtf8}
use Rattle.basics.specs.Booleans.{first_true, second_true}
use Rattle.decimal_json.specs.Text.{hex_digit, escaped_byte, escaped, quoted}
use Rattle.prism_lex.specs.Automaton.{is_letter, is_digit}
use Rattle.prism_lex.specs.Tokens.{is_name}
use Rattle.prism_lex.proofs.NameTexts.{name_ascii}
use Rattle.process_core.specs.Ready.{Name}
use Rattle.process_texts.specs.Names.{SpellsName, plain, string}
use Rattle.process_texts.specs.Texts.{name_text}
use Rattle.process_texts.proofs.Reading.{string_utf8}
use Rattle.process_texts.proofs.StateTexts.{Lacks, lacks_join}

-- ---- no line feed
letter_above : (c : ℕ) → is_letter c ≡ true → 32 < c
letter_above c h = grind (arith, nat_tests)

part_above : (c : ℕ) → (is_letter c || is_digit c) ≡ true → 32 < c
part_above c h = grind (arith, nat_tests)

parts_lack : (w : List ℕ) → list_all (λ c. is_letter c || is_digit c) w ≡ true → Lacks 10 w
parts_lack [] h = refl
parts_lack (c ∷ w) h =
    let above = part_above c (first_true (is_letter c || is_digit c) _ h) in
    ap₂ (λ a b. a || b) (ne_eqb 10 c (λ e. (let f : 10 ≡ c = e in omega arith))) (parts_lack w (second_true (is_letter c || is_digit c) _ h))

plain_lacks : (x : Name) → is_name x ≡ true → Lacks 10 x
plain_lacks [] h = refl
plain_lacks (c ∷ x) h =
    let above = letter_above c (first_true (is_letter c) _ h) in
    ap₂ (λ a b. a || b) (ne_eqb 10 c (λ e. (let f : 10 ≡ c = e in omega arith))) (parts_lack x (second_true (is_letter c) _ h))

if_lacks : (b : Bool) (v w : List ℕ) → Lacks 10 v → (b ≡ false → Lacks 10 w) → Lacks 10 (if b then v else w)
if_lacks true v w h k = h
if_lacks false v w h k = k refl

hex_lacks : (n : ℕ) → nat_eq 10 (hex_digit n) ≡ false
hex_lacks n = by_test (nat_lt n 10)
  where
    by_test : (b : Bool) → nat_eq 10 (if b then 48 + n else 87 + n) ≡ false
    by_test true = ne_eqb 10 (48 + n) (λ e. (let f : 10 ≡ 48 + n = e in omega arith))
    by_test false = ne_eqb 10 (87 + n) (λ e. (let f : 10 ≡ 87 + n = e in omega arith))

byte_lacks : (c : ℕ) → Lacks 10 (escaped_byte c)
byte_lacks c =
    if_lacks (nat_eq c 34) _ _ refl
    (λ e. if_lacks (nat_eq c 92) _ _ refl
    (λ e. if_lacks (nat_eq c 8) _ _ refl
    (λ e. if_lacks (nat_eq c 12) _ _ refl
    (λ e. if_lacks (nat_eq c 10) _ _ refl
    (λ e. if_lacks (nat_eq c 13) _ _ refl
    (λ e. if_lacks (nat_eq c 9) _ _ refl
    (λ e. if_lacks (nat_lt c 32) _ _ (ap₂ (λ a b. a || (b || false)) (hex_lacks (c / 16)) (hex_lacks (c % 16)))
    (λ e. let above : 32 ≤ c = ltb-false c 32 e in ap (λ a. a || false) (ne_eqb 10 c (λ f. (let g : 10 ≡ c = f in omega arith)))))))))))

escaped_lacks : (s : List ℕ) → Lacks 10 (escaped s)
escaped_lacks [] = refl
escaped_lacks (c ∷ s) = lacks_join 10 (escaped_byte c) (escaped s) (byte_lacks c) (escaped_lacks s)

quoted_lacks : (s : List ℕ) → Lacks 10 (quoted s)
quoted_lacks s = lacks_join 10 (escaped s) (34 ∷ []) (escaped_lacks s) refl

pub name_lacks : (x : Name) → Lacks 10 (name_text x)
name_lacks x = by_test (is_name x) refl
  where
    by_test : (b : Bool) → is_name x ≡ b → Lacks 10 (if b then x else quoted x)
    by_test true e = plain_lacks x e
    by_test false e = quoted_lacks x

-- ---- UTF-8, and no dash
pub dash_no_name : is_name (45 ∷ []) ≡ true → ⊥
dash_no_name e = cc

pub spelled_utf8 : (w : List ℕ) (x : Name) → SpellsName w x → is_utf8 w ≡ true
spelled_utf8 w x (plain n l e) = is_utf8-from_IsUtf8 w (IsUtf8-from_ascii w (name_ascii w n))
spelled_utf8 w x (string s) = is_utf8-from_IsUtf8 w (string_utf8 w x s)

pub spelled_apart : (w : List ℕ) (x : Name) → SpellsName w x → w ≡ 45 ∷ [] → ⊥
spelled_apart w x (plain n l e) d = dash_no_name (ap is_name (sym d) ∙ n)
spelled_apart w x (string s) d = by_first (s.inner ++ 34 ∷ []) (sym s.text ∙ d)
  where
    by_first : (u : List ℕ) → 34 ∷ u ≡ 45 ∷ [] → ⊥
    by_first u f = let g : true ≡ false = ap (λ w. nat_eq 34 (slice_index w 0)) f in cc
