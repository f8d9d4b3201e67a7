-- What is read of a text as a name.
use Rattle.std.proofs.Common.{◌≡◌, ℕ, zero, suc, ◌<◌, true, false, List, [], ◌∷◌, ◌++◌, Option, Some, None, Result, Ok, Err, refl, sym, ap, subst, ◌∙◌, arith, IsUtf8, slice_index, lit<, IfOk}
use Rattle.bridge_io.specs.declared.reason.Fault.{Fault}
use Rattle.std.proofs.lemmas.Bool.Decides.{nat_tests}
use Rattle.std.proofs.lemmas.Str.{IsUtf8-append, IsUtf8-encode, IsUtf8-nil, IsUtf8-from_ascii}
use Rattle.decimal_json.specs.declared.tree.Json.{Json}
use Rattle.decimal_json.specs.declared.tree.Json.TheVariants as J
use Rattle.decimal_json.specs.Characters.{Characters, IsCharacter, IsUnit, plain, letter, unit, pair, short, is_hex}
use Rattle.decimal_json.specs.Faults.{IsJson, IsWhole, IsLeast}
use Rattle.decimal_json.specs.Proper.{SpellsValue, all_normal, normal_step, normal_member, bare, bare_step, bare_member_step}
use Rattle.decimal_json.specs.Text.{quoted, escaped, text_of, value_step, member_step}
use Rattle.decimal_json.specs.declared.tree.Json.TheFolds.{fold-roll-Json}
use Rattle.decimal_json.specs.declared.tree.Json.TheOpen as layer
use Rattle.process_texts.proofs.Quoted.{begins_string, read_string}
use Rattle.prism_lex.specs.Tokens.{is_name}
use Rattle.process_core.specs.Ready.{Name}
use Rattle.process_texts.specs.Names.{IsString, SpellsName, ReadsName, ReadsString, string_of}
use Rattle.process_texts.specs.Names as n
use Rattle.process_texts.proofs.Faultless.{no_fault, a_json}

-- ---- what is answered
str_of : (value : Json) (s : Name) → string_of value ≡ Some s → (at : ℕ) × (value ≡ J.Str at s)
str_of (J.Str at t) s e = let k : t ≡ s = cc in (at, ap (J.Str at) k)
str_of _ s e = absurd cc

pub string_told : (w u v : List ℕ) (value : Json) (r : Option Name) → w ≡ 34 ∷ u → w ≡ v ++ 34 ∷ [] → IsWhole w value → r ≡ string_of value → ReadsString w r
string_told w u v value r e f h k = subst (ReadsString w) (sym k) (by_value value h)
  where
    other : (value : Json) → IsWhole w value → string_of value ≡ None → (x : Name) → IsString w x → ⊥
    other value h none x s =
        let same : J.Str 0 x ≡ value = h.only (J.Str 0 x) _ (a_json w x s) in
        let z : ◌≡◌ {A = Option Name} (Some x) None = ap string_of same ∙ none in cc

    by_value : (value : Json) → IsWhole w value → ReadsString w (string_of value)
    by_value value h = by_case (string_of value) refl
      where
        by_case : (o : Option Name) → o ≡ string_of value → ReadsString w o
        by_case None e = other value h (sym e)
        by_case (Some s) e' = let k = str_of value s (sym e') in read_string w u v k.0 s h.tokens e f (subst (λ y. IsJson w y h.tokens) k.1 h.spells)

pub string_fault : (w : List ℕ) (f : Fault) → IsLeast w f.at f.reason → (x : Name) → IsString w x → ⊥
string_fault w f h x s = no_fault w x s f.at f.reason h.fault

-- ---- names

pub by_string : (w : List ℕ) (r : Option Name) → is_name w ≡ false → ReadsString w r → ReadsName w r
by_string w (Some x) h s = n.string s
by_string w None h s = λ x k. by_case x k
  where
    by_case : (x : Name) → SpellsName w x → ⊥
    by_case x (n.plain a b e) = let z : true ≡ false = sym a ∙ h in cc
    by_case x (n.string k) = s x k

pub by_string_result : {E : Type 0} (w : List ℕ) (r : Result (Option Name) E) → is_name w ≡ false → IfOk r (ReadsString w) → IfOk r (ReadsName w)
by_string_result w (Ok o) h k = by_string w o h k
by_string_result w (Err e) h k = k

-- ---- a string is UTF-8
hex_ascii : (c : ℕ) → is_hex c ≡ true → c < 128
hex_ascii c h = grind (arith, nat_tests)

short_ascii : (c x : ℕ) → short c ≡ Some x → c < 128
short_ascii c x h = grind (arith, nat_tests)

one_ascii : (c : ℕ) (w : List ℕ) → c < 128 → IsUtf8 w → IsUtf8 (c ∷ w)
one_ascii c w h k = IsUtf8-append (c ∷ []) w (IsUtf8-from_ascii (c ∷ []) (λ i. by_place i)) k
  where
    by_place : (i : ℕ) → slice_index (c ∷ []) i < 128
    by_place zero = h
    by_place (suc i) = omega arith

unit_utf8 : (w : List ℕ) (x : ℕ) → IsUnit w x → IsUtf8 w
unit_utf8 w x u =
    subst IsUtf8 (sym u.bytes) (one_ascii 92 _ (lit< tt) (one_ascii 117 _ (lit< tt) (one_ascii u.a _ (hex_ascii u.a u.first) (one_ascii u.b _ (hex_ascii u.b u.second)
    (one_ascii u.c _ (hex_ascii u.c u.third) (one_ascii u.d [] (hex_ascii u.d u.fourth) IsUtf8-nil))))))

character_utf8 : (w : List ℕ) (x : ℕ) → IsCharacter w x → IsUtf8 w
character_utf8 w x (plain s a b c e) = subst IsUtf8 (sym e) (IsUtf8-encode x s)
character_utf8 w x (letter c e h) = subst IsUtf8 (sym e) (one_ascii 92 _ (lit< tt) (one_ascii c [] (short_ascii c x h) IsUtf8-nil))
character_utf8 w x (unit u s) = unit_utf8 w x u
character_utf8 w x (pair v z h l e a b c d f g k) = subst IsUtf8 (sym e) (IsUtf8-append v z (unit_utf8 v h a) (unit_utf8 z l b))

characters_utf8 : (xs w : List ℕ) → Characters xs w → IsUtf8 w
characters_utf8 [] w h = subst IsUtf8 (sym h) IsUtf8-nil
characters_utf8 (x ∷ xs) w h = subst IsUtf8 (sym h.2) (IsUtf8-append h.0 h.1 (character_utf8 h.0 x h.3) (characters_utf8 xs h.1 h.4))

pub string_utf8 : (w s : List ℕ) → IsString w s → IsUtf8 w
string_utf8 w s h = subst IsUtf8 (sym h.text) (one_ascii 34 _ (lit< tt) (IsUtf8-append h.inner (34 ∷ []) (characters_utf8 h.characters h.inner h.are) (one_ascii 34 [] (lit< tt) IsUtf8-nil)))

pub normal_string : (at : ℕ) (s : List ℕ) → all_normal (J.Str at s) ≡ true
normal_string at s = ap all_normal (sym (J.rolls-Str at s)) ∙ fold-roll-Json _ _ normal_step normal_member (layer.Str at s)

pub text_string : (at : ℕ) (s : List ℕ) → text_of (J.Str at s) ≡ quoted s
text_string at s = ap text_of (sym (J.rolls-Str at s)) ∙ fold-roll-Json _ _ value_step member_step (layer.Str at s)

bare_string : (at : ℕ) (s : List ℕ) → bare (J.Str at s) ≡ J.Str 0 s
bare_string at s = ap bare (sym (J.rolls-Str at s)) ∙ fold-roll-Json _ _ bare_step bare_member_step (layer.Str at s)

pub written_string : (s text : List ℕ) → text ≡ text_of (J.Str 0 s) → SpellsValue text (J.Str 0 s) → IsString text s
written_string s text e h =
    let f = e ∙ text_string 0 s in
    let k = begins_string text (escaped s ++ 34 ∷ []) h.0 h.1 f h.2 in
    let g : J.Str 0 k.1 ≡ J.Str 0 s = sym (bare_string k.0 k.1) ∙ ap bare (sym k.2) ∙ h.3 ∙ bare_string 0 s in
    let same : k.1 ≡ s = cc in
    subst (IsString text) same (read_string text (escaped s ++ 34 ∷ []) (34 ∷ escaped s) k.0 k.1 h.1 f f (subst (λ y. IsJson text y h.1) k.2 h.2))

pub written_utf8 : (s text : List ℕ) → text ≡ text_of (J.Str 0 s) → SpellsValue text (J.Str 0 s) → IsUtf8 text
written_utf8 s text e h = string_utf8 text s (written_string s text e h)

pub copied_string : {E : Type 0} (s bytes text : List ℕ) (r : Result (List ℕ) E) → IfOk r (λ t. t ≡ text) → text ≡ bytes → IsString bytes s → IfOk r (λ t. SpellsName t s)
copied_string s bytes text (Ok t) h e k = n.string (subst (λ l. IsString l s) (sym (h ∙ e)) k)
copied_string s bytes text (Err f) h e k = h
