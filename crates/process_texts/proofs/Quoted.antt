-- A JSON text that begins with a quotation mark is a string with spaces behind it, and has no token that could break a limit.
use Rattle.std.proofs.Common.{◌≡◌, ◌⊎◌, ℕ, zero, suc, ◌==◌, Bool, true, false, List, [], ◌∷◌, ◌++◌, codes, refl, sym, ap, ap₂, subst, ◌∙◌, inl, inr, append_assoc, append-nil, eqb-true}
use Rattle.decimal_json.proofs.Once.{nexts_marks}
use Rattle.decimal_json.specs.declared.tree.Json.{Json}
use Rattle.decimal_json.specs.declared.tree.Json.TheVariants as J
use Rattle.decimal_json.specs.Lang.{Mark, Lang, Place, one_of, gives, here, next, ◌>>=◌, ◌or◌, many_with}
use Rattle.decimal_json.specs.Number.{nexts, number, is_number}
use Rattle.decimal_json.specs.Grammar.{is_space, ws, byte, word, chars, string, string_value, number_value, array, object, value_with, value_at, value, text}
use Rattle.decimal_json.specs.Faults.{IsJson, start}
use Rattle.process_texts.specs.Names.{IsString}

abbrev AllSpace : List ℕ → Type 0
AllSpace [] = Unit {0}
AllSpace (c ∷ w) = (is_space c ≡ true) × AllSpace w

-- ---- strings and spaces
byte_is : (k : ℕ) (p q : Place) (w : List ℕ) (c : ℕ) → byte k p w c q → (w ≡ k ∷ []) × (q.marks ≡ p.marks)
unfolding byte one_of next
byte_is k p q w c h = (h.0 ∙ ap (λ x. x ∷ []) (eqb-true c k h.1), ap (λ (r : Place). r.marks) h.2)

string_is : (p q : Place) (w s : List ℕ) → string p w s q → IsString w s × (q.marks ≡ p.marks)
unfolding string ◌>>=◌ chars gives
string_is p q w s h =
    let k = h.6 in
    let m = k.6 in
    let opens = byte_is 34 p h.3 h.1 h.0 h.5 in
    let shuts = byte_is 34 k.3 m.3 m.1 m.0 m.5 in (
      record {
        characters = k.5.0.0;
        inner = k.1;
        text = h.4 ∙ ap (λ l. l ++ h.2) opens.0 ∙ ap (λ l. 34 ∷ l) (k.4 ∙ ap (λ l. k.1 ++ l) (m.4 ∙ ap₂ (λ x y. x ++ y) shuts.0 m.6.0));
        are = k.5.0.1;
        value = m.6.1 ∙ k.5.0.2;
      },
      ap (λ (r : Place). r.marks) m.6.2 ∙ shuts.1 ∙ ap (λ (r : Place). r.marks) k.5.1 ∙ nexts_marks k.1 h.3 ∙ opens.1,
    )

-- a value that is this string
record IsText (p q : Place) (w : List ℕ) (x : Json) : Type 0 where
  at : ℕ
  name : List ℕ
  string : IsString w name
  value : x ≡ J.Str at name
  marks : q.marks ≡ p.marks

value_is : (p q : Place) (w : List ℕ) (x : Json) → string_value p w x q → IsText p q w x
unfolding string_value ◌>>=◌ here gives
value_is p q w x h =
    let k = h.6 in
    let s = string_is h.3 k.3 k.1 k.0 k.5 in
    record {
      at = h.0;
      name = k.0;
      string = subst (λ l. IsString l k.0) (sym (h.4 ∙ ap (λ l. l ++ h.2) h.5.0 ∙ k.4 ∙ ap (λ l. k.1 ++ l) k.6.0 ∙ append-nil k.1)) s.0;
      value = k.6.1;
      marks = ap (λ (r : Place). r.marks) k.6.2 ∙ s.1 ∙ ap (λ (r : Place). r.marks) h.5.2;
    }

spaces : (p q : Place) (w xs : List ℕ) → many_with (λ s _. s) (λ (_ : Unit {0}). one_of is_space) tt p w xs q → AllSpace w × (q.marks ≡ p.marks)
unfolding many_with one_of next
spaces p q w [] h = (subst AllSpace (sym h.0) tt, ap (λ (r : Place). r.marks) h.1)
spaces p q w (x ∷ xs) h =
    let s = spaces h.2 q h.1 xs h.5 in
    (subst AllSpace (sym (h.3 ∙ ap (λ l. l ++ h.1) h.4.0)) (h.4.1, s.0), s.1 ∙ ap (λ (r : Place). r.marks) h.4.2)

ws_is : (p q : Place) (w xs : List ℕ) → ws p w xs q → AllSpace w × (q.marks ≡ p.marks)
unfolding ws
ws_is p q w xs h = spaces p q w xs h

-- ---- what the first byte says
-- it is another byte than the quotation mark
record Other (w : List ℕ) : Type 0 where
  byte : ℕ
  rest : List ℕ
  text : w ≡ byte ∷ rest
  apart : (34 == byte) ≡ false

not_other : (w u z : List ℕ) → w ++ z ≡ 34 ∷ u → Other w → ⊥
not_other w u z e o =
    let f : o.byte ∷ (o.rest ++ z) ≡ 34 ∷ u = ap (λ l. l ++ z) (sym o.text) ∙ e in
    let g : 34 ≡ o.byte = cc in
    let no : true ≡ false = ap (λ b. 34 == b) g ∙ o.apart in cc

word_other : (b : ℕ) (bs : List ℕ) (make : ℕ → Json) (p q : Place) (w : List ℕ) (x : Json) → (34 == b) ≡ false → word (b ∷ bs) make p w x q → Other w
unfolding word ◌>>=◌ here
word_other b bs make p q w x a h =
    let k = h.6 in
    let m = k.5 in
    record { byte = b; rest = m.2 ++ k.2; text = h.4 ∙ ap (λ l. l ++ h.2) h.5.0 ∙ k.4 ∙ ap (λ l. l ++ k.2) (m.4 ∙ ap (λ l. l ++ m.2) (byte_is b h.3 m.3 m.1 m.0 m.5).0); apart = a }

array_other : (n : ℕ) (V : Lang Json) (p q : Place) (w : List ℕ) (x : Json) → array n V p w x q → Other w
unfolding array ◌>>=◌ here
array_other n V p q w x h = let k = h.6 in record { byte = 91; rest = k.2; text = h.4 ∙ ap (λ l. l ++ h.2) h.5.0 ∙ k.4 ∙ ap (λ l. l ++ k.2) (byte_is 91 h.3 k.3 k.1 k.0 k.5).0; apart = refl }

object_other : (n : ℕ) (V : Lang Json) (p q : Place) (w : List ℕ) (x : Json) → object n V p w x q → Other w
unfolding object ◌>>=◌ here
object_other n V p q w x h = let k = h.6 in record { byte = 123; rest = k.2; text = h.4 ∙ ap (λ l. l ++ h.2) h.5.0 ∙ k.4 ∙ ap (λ l. l ++ k.2) (byte_is 123 h.3 k.3 k.1 k.0 k.5).0; apart = refl }

number_apart : (c : ℕ) (t : List ℕ) → is_number (c ∷ t) ≡ true → (34 == c) ≡ false
number_apart c t h = by_test (34 == c) refl
  where
    by_test : (b : Bool) → (34 == c) ≡ b → (34 == c) ≡ false
    by_test false e = e
    by_test true e = let no : false ≡ true = ap (λ b. is_number (b ∷ t)) (eqb-true 34 c e) ∙ h in absurd cc

number_other : (p q : Place) (w : List ℕ) (x : Json) → number_value p w x q → Other w
unfolding number_value ◌>>=◌ here number
number_other p q w x h = by_text h.6.1 h.6.5.0 (h.4 ∙ ap (λ l. l ++ h.2) h.5.0 ∙ h.6.4)
  where
    by_text : (t : List ℕ) → is_number t ≡ true → w ≡ t ++ h.6.2 → Other w
    by_text [] n e = let no : false ≡ true = n in absurd cc
    by_text (c ∷ t) n e = record { byte = c; rest = t ++ h.6.2; text = e; apart = number_apart c t n }

with_first : (n : ℕ) (V : Lang Json) (p q : Place) (w : List ℕ) (x : Json) → value_with n V p w x q → string_value p w x q ⊎ Other w
unfolding value_with ◌or◌
with_first n V p q w x (inr h) = inr (number_other p q w x h)
with_first n V p q w x (inl (inr h)) = inr (object_other n V p q w x h)
with_first n V p q w x (inl (inl (inr h))) = inr (array_other n V p q w x h)
with_first n V p q w x (inl (inl (inl (inr h)))) = inl h
with_first n V p q w x (inl (inl (inl (inl (inr h))))) = inr (word_other 102 (codes "alse") (λ at. J.Truth at false) p q w x refl h)
with_first n V p q w x (inl (inl (inl (inl (inl (inr h)))))) = inr (word_other 116 (codes "rue") (λ at. J.Truth at true) p q w x refl h)
with_first n V p q w x (inl (inl (inl (inl (inl (inl h)))))) = inr (word_other 110 (codes "ull") J.Null p q w x refl h)

value_first : (k n : ℕ) (p q : Place) (w : List ℕ) (x : Json) → value_at k n p w x q → string_value p w x q ⊎ Other w
value_first zero n p q w x h = absurd h
value_first (suc k) n p q w x h = with_first n (value_at k (suc n)) p q w x h

-- ---- the whole text
-- a string with spaces behind it
record Spaced (w : List ℕ) (x : Json) (tokens : List Mark) : Type 0 where
  at : ℕ
  name : List ℕ
  middle : List ℕ
  behind : List ℕ
  text : w ≡ middle ++ behind
  string : IsString middle name
  last : AllSpace behind
  value : x ≡ J.Str at name
  none : tokens ≡ []

no_space : is_space 34 ≡ false
no_space = refl

spaced : (w u : List ℕ) (x : Json) (q : Place) → w ≡ 34 ∷ u → text start w x q → Spaced w x q.marks
unfolding text value ◌>>=◌ gives
spaced w u x q e h = by_before h.1 before.0 h.4
  where
    before : AllSpace h.1 × (h.3.marks ≡ start.marks)
    before = ws_is start h.3 h.1 h.0 h.5

    rest : h.2 ≡ h.6.1 ++ h.6.6.1
    rest = let k = h.6 in let m = k.6 in k.4 ∙ ap (λ l. k.1 ++ l) (m.4 ∙ ap (λ l. m.1 ++ l) m.6.0 ∙ append-nil m.1)

    by_first : w ≡ h.6.1 ++ h.6.6.1 → string_value h.3 h.6.1 h.6.0 h.6.3 ⊎ Other h.6.1 → Spaced w x q.marks
    by_first f (inr o) = absurd (not_other h.6.1 u h.6.6.1 (sym f ∙ e) o)
    by_first f (inl s) =
        let k = h.6 in
        let m = k.6 in
        let t = value_is h.3 k.3 k.1 k.0 s in
        let behind = ws_is k.3 m.3 m.1 m.0 m.5 in
        record {
          at = t.at;
          name = t.name;
          middle = k.1;
          behind = m.1;
          text = f;
          string = t.string;
          last = behind.0;
          value = m.6.1 ∙ t.value;
          none = ap (λ (r : Place). r.marks) m.6.2 ∙ behind.1 ∙ t.marks ∙ before.1;
        }

    by_before : (b : List ℕ) → AllSpace b → w ≡ b ++ h.2 → Spaced w x q.marks
    by_before [] a f = by_first (f ∙ rest) (value_first h.6.5.0 0 h.3 h.6.3 h.6.1 h.6.0 h.6.5.1)
    by_before (c ∷ b) a f =
        let c_is : c ≡ 34 = (let g : c ∷ (b ++ h.2) ≡ 34 ∷ u = sym f ∙ e in cc) in
        let no : true ≡ false = sym a.0 ∙ ap is_space c_is ∙ no_space in absurd cc

json_spaced : (w u : List ℕ) (x : Json) (tokens : List Mark) → w ≡ 34 ∷ u → IsJson w x tokens → Spaced w x tokens
json_spaced w u x tokens e h = subst (Spaced w x) h.marks (spaced w u x h.end e h.spells)

pub begins_string : (w u : List ℕ) (x : Json) (tokens : List Mark) → w ≡ 34 ∷ u → IsJson w x tokens → (at : ℕ) × (s : List ℕ) × (x ≡ J.Str at s)
begins_string w u x tokens e h = let s = json_spaced w u x tokens e h in (s.at, s.name, s.value)

pub no_tokens : (w u : List ℕ) (x : Json) (tokens : List Mark) → w ≡ 34 ∷ u → IsJson w x tokens → tokens ≡ []
no_tokens w u x tokens e h = (json_spaced w u x tokens e h).none

-- ---- nothing stands behind it
last_or : (l : List ℕ) → (l ≡ []) ⊎ ((k : List ℕ) × (c : ℕ) × (l ≡ k ++ c ∷ []))
last_or [] = inl refl
last_or (c ∷ l) = inr (by_rest c l)
  where
    by_rest : (c : ℕ) (l : List ℕ) → (k : List ℕ) × (d : ℕ) × (c ∷ l ≡ k ++ d ∷ [])
    by_rest c [] = ([], c, refl)
    by_rest c (d ∷ l) = let r = by_rest d l in (c ∷ r.0, r.1, ap (λ x. c ∷ x) r.2)

all_space_last : (w : List ℕ) (c : ℕ) → AllSpace (w ++ c ∷ []) → is_space c ≡ true
all_space_last [] c h = h.0
all_space_last (x ∷ w) c h = all_space_last w c h.1

last_same : (v w : List ℕ) (c d : ℕ) → v ++ c ∷ [] ≡ w ++ d ∷ [] → c ≡ d
last_same v w c d e = sym (last_of v c) ∙ ap last e ∙ last_of w d
  where
    last : List ℕ → ℕ
    last [] = 0
    last (x ∷ []) = x
    last (x ∷ (y ∷ l)) = last (y ∷ l)

    last_of : (v : List ℕ) (c : ℕ) → last (v ++ c ∷ []) ≡ c
    last_of [] c = refl
    last_of (x ∷ []) c = refl
    last_of (x ∷ (y ∷ v)) c = last_of (y ∷ v) c

pub read_string : (w u v : List ℕ) (at : ℕ) (s : List ℕ) (tokens : List Mark) → w ≡ 34 ∷ u → w ≡ v ++ 34 ∷ [] → IsJson w (J.Str at s) tokens → IsString w s
read_string w u v at s tokens e f h = ends (last_or t.behind)
  where
    t : Spaced w (J.Str at s) tokens
    t = json_spaced w u (J.Str at s) tokens e h

    same : t.name ≡ s
    same = let g : J.Str at s ≡ J.Str t.at t.name = t.value in cc

    ends : (t.behind ≡ []) ⊎ ((k : List ℕ) × (c : ℕ) × (t.behind ≡ k ++ c ∷ [])) → IsString w s
    ends (inl z) = subst (λ l. IsString l s) (sym (t.text ∙ ap (λ l. t.middle ++ l) z ∙ append-nil t.middle)) (subst (IsString t.middle) same t.string)
    ends (inr r) =
        let space = all_space_last r.0 r.1 (subst AllSpace r.2 t.last) in
        let both : (t.middle ++ r.0) ++ r.1 ∷ [] ≡ v ++ 34 ∷ [] = append_assoc t.middle r.0 (r.1 ∷ []) ∙ ap (λ l. t.middle ++ l) (sym r.2) ∙ sym t.text ∙ f in
        let no : true ≡ false = sym space ∙ ap is_space (last_same (t.middle ++ r.0) v r.1 34 both) ∙ no_space in absurd cc
