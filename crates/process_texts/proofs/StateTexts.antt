-- The text of a state within the bound has no space and no line feed, and is UTF-8.
use Rattle.std.proofs.Common.{◌≡◌, ℕ, zero, suc, ◌^◌, ◌<◌, ◌&&◌, ◌||◌, not, nat_eq, nat_lt, nat_abs, ℤ, pos, negsuc, List, [], ◌∷◌, ◌++◌, map, Bool, true, false, codes, decimal, if◌then◌else◌, lit<, refl, ap₂, ◌∙◌, arith, ltb-true}
use Rattle.std.specs.List.{list_any, slice_index, AllByRecursion as Each}
use Rattle.std.specs.Str.{is_utf8}
use Rattle.std.specs.Fmt.{signed_decimal}
use Rattle.std.specs.Str.Parse.{AllDigits}
use Rattle.std.proofs.lemmas.Bool.{ne_eqb}
use Rattle.std.proofs.lemmas.Fmt.{decimal_is_IsNumeral}
use Rattle.std.proofs.lemmas.List.Folds.{list_any-append}
use Rattle.std.proofs.lemmas.Str.{IsUtf8-from_ascii, is_utf8-from_IsUtf8}
use Rattle.std.proofs.lemmas.Str.Parse.{tells_digits}
use Rattle.basics.specs.Booleans.{first_false, second_false}
use Rattle.basics.specs.Each.{each_join}
use Rattle.frac_core.specs.Fraction.{Fraction, is_whole, is_wide}
use Rattle.decimal_json.specs.Text.{behind_commas, with_commas}
use Rattle.op_trees.specs.declared.tree.Value.{Value}
use Rattle.op_trees.specs.declared.tree.Value.TheVariants as V
use Rattle.process_core.specs.Ready.{Values}
use Rattle.process_texts.specs.Given.{is_wide_value}
use Rattle.process_texts.specs.Texts.{truth_text, value_text, state_text}

-- a byte doesn't stand in a text
abbrev pub Lacks : ℕ → List ℕ → Type 0
Lacks m w = list_any (nat_eq m) w ≡ false

pub lacks_join : (m : ℕ) (v w : List ℕ) → Lacks m v → Lacks m w → Lacks m (v ++ w)
lacks_join m v w h k = list_any-append (nat_eq m) v w ∙ ap₂ (λ a b. a || b) h k

-- ---- visible characters
abbrev AreVisible : List ℕ → Type 0
AreVisible w = Each (λ c. (32 < c) × (c < 128)) w

visible_lacks : (m : ℕ) → m < 33 → (w : List ℕ) → AreVisible w → Lacks m w
visible_lacks m l [] h = refl
visible_lacks m l (c ∷ w) h = let above = h.0.0 in ap₂ (λ a b. a || b) (ne_eqb m c (λ e. (let f : m ≡ c = e in omega arith))) (visible_lacks m l w h.1)

truth_visible : (b : Bool) → AreVisible (truth_text b)
truth_visible true = ((lit< tt, lit< tt), ((lit< tt, lit< tt), ((lit< tt, lit< tt), ((lit< tt, lit< tt), tt))))
truth_visible false = ((lit< tt, lit< tt), ((lit< tt, lit< tt), ((lit< tt, lit< tt), ((lit< tt, lit< tt), ((lit< tt, lit< tt), tt)))))

digits_visible : (ds : List ℕ) → AllDigits 10 ds → AreVisible ds
digits_visible [] h = tt
digits_visible (b ∷ ds) h = let k = (tells_digits.parts b ds h).0 in let low = k.0 in let high = k.1 in ((omega arith, omega arith), digits_visible ds h.1)

decimal_visible : (n : ℕ) → n < 2 ^ 62 → AreVisible (decimal n)
decimal_visible n h = digits_visible (decimal n) (decimal_is_IsNumeral n (omega arith)).0.1

signed_visible : (z : ℤ) → nat_abs z < 2 ^ 62 → AreVisible (signed_decimal z)
signed_visible (pos k) h = decimal_visible k h
signed_visible (negsuc k) h = ((lit< tt, lit< tt), decimal_visible (suc k) h)

small_parts : (x : Fraction) → is_wide x ≡ false → (nat_abs x.num < 2 ^ 62) × (x.den < 2 ^ 62)
small_parts x e = by_tests (nat_lt (nat_abs x.num) (2 ^ 62)) (nat_lt x.den (2 ^ 62)) refl refl e
  where
    by_tests : (a b : Bool) → nat_lt (nat_abs x.num) (2 ^ 62) ≡ a → nat_lt x.den (2 ^ 62) ≡ b → not (a && b) ≡ false → (nat_abs x.num < 2 ^ 62) × (x.den < 2 ^ 62)
    by_tests true true f g k = (ltb-true _ _ f, ltb-true _ _ g)
    by_tests true false f g k = absurd cc
    by_tests false b f g k = absurd cc

value_visible : (v : Value) → is_wide_value v ≡ false → AreVisible (value_text v)
value_visible (V.Truth b) h = truth_visible b
value_visible (V.Number x) h =
    let small = small_parts x h in
    each_join (λ c. (32 < c) × (c < 128)) (signed_decimal x.num) _ (signed_visible x.num small.0) (by_test (is_whole x) (decimal_visible x.den small.1))
  where
    by_test : (b : Bool) → AreVisible (decimal x.den) → AreVisible (if b then [] else codes "/" ++ decimal x.den)
    by_test true h = tt
    by_test false h = ((lit< tt, lit< tt), h)

behind_visible : (s : Values) → list_any is_wide_value s ≡ false → AreVisible (behind_commas (map value_text s))
behind_visible [] h = tt
behind_visible (v ∷ s) h =
    ((lit< tt, lit< tt), each_join (λ c. (32 < c) × (c < 128)) (value_text v) (behind_commas (map value_text s)) (value_visible v (first_false (is_wide_value v) _ h)) (behind_visible s (second_false (is_wide_value v) _ h)))

inner_visible : (s : Values) → list_any is_wide_value s ≡ false → AreVisible (with_commas (map value_text s))
inner_visible [] h = tt
inner_visible (v ∷ s) h =
    each_join (λ c. (32 < c) × (c < 128)) (value_text v) (behind_commas (map value_text s)) (value_visible v (first_false (is_wide_value v) _ h)) (behind_visible s (second_false (is_wide_value v) _ h))

state_visible : (s : Values) → list_any is_wide_value s ≡ false → AreVisible (state_text s)
state_visible s h = ((lit< tt, lit< tt), each_join (λ c. (32 < c) × (c < 128)) (with_commas (map value_text s)) (codes ")") (inner_visible s h) ((lit< tt, lit< tt), tt))

pub state_no_feed : (s : Values) → list_any is_wide_value s ≡ false → Lacks 10 (state_text s)
state_no_feed s h = visible_lacks 10 (lit< tt) (state_text s) (state_visible s h)

pub state_no_space : (s : Values) → list_any is_wide_value s ≡ false → Lacks 32 (state_text s)
state_no_space s h = visible_lacks 32 (lit< tt) (state_text s) (state_visible s h)

visible_ascii : (w : List ℕ) → AreVisible w → (i : ℕ) → slice_index w i < 128
visible_ascii [] h i = lit< tt
visible_ascii (c ∷ w) h zero = h.0.1
visible_ascii (c ∷ w) h (suc i) = visible_ascii w h.1 i

pub state_utf8 : (s : Values) → list_any is_wide_value s ≡ false → is_utf8 (state_text s) ≡ true
state_utf8 s h = is_utf8-from_IsUtf8 _ (IsUtf8-from_ascii _ (visible_ascii (state_text s) (state_visible s h)))
