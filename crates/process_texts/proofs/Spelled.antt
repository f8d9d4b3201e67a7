-- The texts that spell states are those that a program reads.
use Rattle.std.proofs.Common.{◌≡◌, ℕ, ◌^◌, ◌<◌, ◌≤◌, ◌==◌, ◌&&◌, ◌||◌, min, Bool, true, false, not, List, [], ◌∷◌, ◌++◌, drop, length, slice_index, Option, Some, None, nat_abs, nat_lt, refl, sym, ap, ap₂, subst, ◌∙◌, arith, append-nil, if◌then◌else◌, lt-ltb, ltb-true, eqb-true, lit≤}
use Rattle.std.specs.List.{list_any}
use Rattle.std.specs.Char.{digit_value}
use Rattle.std.specs.Str.Parse.{IsNumeral, AllDigits, digits_value}
use Rattle.std.proofs.lemmas.List.{append_cancel_right}
use Rattle.std.proofs.lemmas.Bool.Decides.{nat_tests}
use Rattle.frac_core.specs.Fraction.{whole, signed, is_wide}
use Rattle.op_trees.specs.declared.tree.Value.{Value}
use Rattle.op_trees.specs.declared.tree.Value.TheVariants as V
use Rattle.process_core.specs.Ready.{Values}
use Rattle.decimal_json.specs.Text.{with_commas, behind_commas}
use Rattle.process_texts.specs.Texts.{truth_text}
use Rattle.process_texts.specs.Forms.{truth_of, digits_of, sign_text, IsSigned}
use Rattle.process_texts.specs.Given.{is_wide_value}
use Rattle.process_texts.specs.States.{IsItem, truth, number, AreItems, SpellsState, item_of, truth_or, small_number, has_minus, bare, both, values_of, parts, cons_first}
use Rattle.process_texts.proofs.Ratios.{from_some, numeral_true, size_of}
use Rattle.process_texts.proofs.Values.{truth_some, Unsigned, numeral_unsigned, signed_of}
use Rattle.process_texts.proofs.Items.{item_is}
use Rattle.basics.specs.Booleans.{first_false, second_false}
use Rattle.process_texts.proofs.Numbers.{first_low}
use Rattle.prism_lex.specs.Numbers.{is_number}

-- ---- commas
parts_some : (w : List ℕ) → (p : List ℕ) × (ps : List (List ℕ)) × (parts w ≡ p ∷ ps)
parts_some [] = ([], [], refl)
parts_some (b ∷ w) = by_test (parts_some w) (b == 44) refl
  where
    by_test : ((p : List ℕ) × (ps : List (List ℕ)) × (parts w ≡ p ∷ ps)) → (z : Bool) → z ≡ (b == 44) → (p : List ℕ) × (ps : List (List ℕ)) × ((if z then [] ∷ parts w else cons_first b (parts w)) ≡ p ∷ ps)
    by_test ih true e = ([], parts w, refl)
    by_test ih false e = (b ∷ ih.0, ih.1, ap (cons_first b) ih.2)

pub commas_parts : (w : List ℕ) → with_commas (parts w) ≡ w
commas_parts [] = refl
commas_parts (b ∷ w) = by_test (commas_parts w) (parts_some w) (b == 44) refl
  where
    by_test : with_commas (parts w) ≡ w → ((p : List ℕ) × (ps : List (List ℕ)) × (parts w ≡ p ∷ ps)) → (z : Bool) → z ≡ (b == 44) → with_commas (if z then [] ∷ parts w else cons_first b (parts w)) ≡ b ∷ w
    by_test ih s true e = ap behind_commas s.2 ∙ ap (λ l. 44 ∷ l) (sym (ap with_commas s.2) ∙ ih) ∙ ap (λ x. x ∷ w) (sym (eqb-true b 44 (sym e)))
    by_test ih s false e = ap (λ l. with_commas (cons_first b l)) s.2 ∙ ap (λ l. b ∷ l) (sym (ap with_commas s.2) ∙ ih)

abbrev NoComma : List ℕ → Type 0
NoComma [] = Unit {0}
NoComma (b ∷ w) = ((b == 44) ≡ false) × NoComma w

part_alone : (w : List ℕ) → NoComma w → parts w ≡ w ∷ []
part_alone [] h = refl
part_alone (b ∷ w) h = ap₂ (λ z l. if z then [] ∷ l else cons_first b l) h.0 (part_alone w h.1)

part_before : (w x : List ℕ) → NoComma w → parts (w ++ 44 ∷ x) ≡ w ∷ parts x
part_before [] x h = refl
part_before (b ∷ w) x h = ap₂ (λ z l. if z then [] ∷ l else cons_first b l) h.0 (part_before w x h.1)

digit_no_comma : (c : ℕ) → digit_value c < 10 → (c == 44) ≡ false
digit_no_comma c h = grind (arith, nat_tests)

digits_no_comma : (ds : List ℕ) → AllDigits 10 ds → NoComma ds
digits_no_comma [] h = tt
digits_no_comma (c ∷ ds) h = (digit_no_comma c h.0, digits_no_comma ds h.1)

item_no_comma : (w : List ℕ) (v : Value) → IsItem w v → NoComma w
item_no_comma w v (truth true e f) = subst NoComma (sym e) (refl, (refl, (refl, (refl, tt))))
item_no_comma w v (truth false e f) = subst NoComma (sym e) (refl, (refl, (refl, (refl, (refl, tt)))))
item_no_comma w v (number true ds e n f) = subst NoComma (sym e) (refl, digits_no_comma ds n.1)
item_no_comma w v (number false ds e n f) = subst NoComma (sym e) (digits_no_comma ds n.1)

pub parts_commas : (p : List ℕ) (ps : List (List ℕ)) (vs : Values) → AreItems (p ∷ ps) vs → parts (with_commas (p ∷ ps)) ≡ p ∷ ps
parts_commas p ps [] h = absurd h
parts_commas p [] (v ∷ vs) h = ap parts (append-nil p) ∙ part_alone p (item_no_comma p v h.0)
parts_commas p (q ∷ ps) (v ∷ vs) h = part_before p (q ++ behind_commas ps) (item_no_comma p v h.0) ∙ ap (λ l. p ∷ l) (parts_commas q ps vs h.1)

-- ---- items
pub narrow_below : (m : Bool) (n : ℕ) → is_wide (whole (signed m n)) ≡ false → n < 2 ^ 62
narrow_below m n h = by_test (nat_lt (nat_abs (signed m n)) (2 ^ 62)) refl h
  where
    by_test : (b : Bool) → nat_lt (nat_abs (signed m n)) (2 ^ 62) ≡ b → not (b && nat_lt 1 (2 ^ 62)) ≡ false → n < 2 ^ 62
    by_test true e k = subst (λ x. x < 2 ^ 62) (size_of m n) (ltb-true _ _ e)
    by_test false e k = absurd cc

below_narrow : (m : Bool) (n : ℕ) → n < 2 ^ 62 → is_wide (whole (signed m n)) ≡ false
below_narrow m n h = ap (λ b. not (b && nat_lt 1 (2 ^ 62))) (lt-ltb _ _ (subst (λ x. x < 2 ^ 62) (sym (size_of m n)) h))

pub no_truth : (w : List ℕ) → slice_index w 0 < 58 → truth_of w ≡ None
no_truth w h = by_case (truth_of w) refl
  where
    late : (b : Bool) → w ≡ truth_text b → truth_of w ≡ None
    late true e = let k : slice_index w 0 ≡ 116 = ap (λ l. slice_index l 0) e in let no : ⊥ = omega arith in absurd no
    late false e = let k : slice_index w 0 ≡ 102 = ap (λ l. slice_index l 0) e in let no : ⊥ = omega arith in absurd no

    by_case : (o : Option Bool) → o ≡ truth_of w → truth_of w ≡ None
    by_case None e = sym e
    by_case (Some b) e = late b (truth_some w b (sym e))

digit_below : (c : ℕ) → digit_value c < 10 → c < 58
digit_below c h = grind (arith, nat_tests)

pub signed_first : (m : Bool) (ds : List ℕ) → IsNumeral 10 ds → slice_index (sign_text m ++ ds) 0 < 58
signed_first true ds n = omega arith
signed_first false [] n = let k = n.0 in omega arith
signed_first false (c ∷ ds) n = digit_below c n.1.0

is_signed : (w : List ℕ) (m : Bool) (ds : List ℕ) → w ≡ sign_text m ++ ds → IsNumeral 10 ds → IsSigned w m ds
is_signed w m ds e n = signed_of w ds m e (subst Unsigned (append-nil ds) (numeral_unsigned ds [] n))

held_value : (ds : List ℕ) → IsNumeral 10 ds → digits_value 10 ds < 2 ^ 62 → digits_of ds ≡ Some (digits_value 10 ds)
held_value ds n h = ap (λ b. if b then Some (min (digits_value 10 ds) (10 ^ 38)) else None) (numeral_true ds n) ∙ ap Some (min_small (digits_value 10 ds) (2 ^ 62) (10 ^ 38) h (lit≤ tt))
  where
    min_small : (a b c : ℕ) → a < b → b ≤ c → min a c ≡ a
    min_small a b c h k = omega arith

item_read : (w : List ℕ) (v : Value) → IsItem w v → is_wide_value v ≡ false → item_of w ≡ Some v
item_read w v (truth true e f) h = ap item_of e ∙ ap Some (sym f)
item_read w v (truth false e f) h = ap item_of e ∙ ap Some (sym f)
item_read w v (number m ds e n f) h =
    let small = narrow_below m (digits_value 10 ds) (sym (ap is_wide_value f) ∙ h) in
    item_is w ds m (digits_value 10 ds) (no_truth w (subst (λ l. slice_index l 0 < 58) (sym e) (signed_first m ds n))) (is_signed w m ds e n) (held_value ds n small) small ∙ ap Some (sym f)

minus_back : (w : List ℕ) → w ≡ sign_text (has_minus w) ++ bare w
minus_back w = by_test (has_minus w) refl
  where
    front : (w : List ℕ) → slice_index w 0 ≡ 45 → w ≡ 45 ∷ drop 1 w
    front [] e = absurd cc
    front (c ∷ w) e = ap (λ x. x ∷ w) e

    by_test : (b : Bool) → has_minus w ≡ b → w ≡ sign_text b ++ (if b then drop 1 w else w)
    by_test true e = front w (eqb-true (slice_index w 0) 45 e)
    by_test false e = refl

item_told : (w : List ℕ) (v : Value) → item_of w ≡ Some v → IsItem w v × (is_wide_value v ≡ false)
item_told w v h = by_truth (truth_of w) refl h
  where
    by_size : (n : ℕ) → digits_of (bare w) ≡ Some n → (z : Bool) → nat_lt n (2 ^ 62) ≡ z → (if z then Some (V.Number (whole (signed (has_minus w) n))) else None) ≡ Some v → IsItem w v × (is_wide_value v ≡ false)
    by_size n d false k e = absurd cc
    by_size n d true k e =
        let s = from_some (bare w) n d in
        let small : n < 2 ^ 62 = ltb-true n (2 ^ 62) k in
        let same : n ≡ digits_value 10 (bare w) = exact n (digits_value 10 (bare w)) (2 ^ 62) (10 ^ 38) s.held small (lit≤ tt) in
        let f : V.Number (whole (signed (has_minus w) n)) ≡ v = cc in (
          number (has_minus w) (bare w) (minus_back w) s.numeral (sym f ∙ ap (λ x. V.Number (whole (signed (has_minus w) x))) same),
          ap is_wide_value (sym f) ∙ below_narrow (has_minus w) n small,
        )
      where
        exact : (n a b c : ℕ) → n ≡ min a c → n < b → b ≤ c → n ≡ a
        exact n a b c e h k = omega arith

    by_digits : (o : Option ℕ) → digits_of (bare w) ≡ o → small_number (has_minus w) o ≡ Some v → IsItem w v × (is_wide_value v ≡ false)
    by_digits None d e = absurd cc
    by_digits (Some n) d e = by_size n d (nat_lt n (2 ^ 62)) refl e

    by_truth : (o : Option Bool) → o ≡ truth_of w → truth_or o (small_number (has_minus w) (digits_of (bare w))) ≡ Some v → IsItem w v × (is_wide_value v ≡ false)
    by_truth (Some b) t e = let f : V.Truth b ≡ v = cc in (truth b (truth_some w b (sym t)) (sym f), ap is_wide_value (sym f))
    by_truth None t e = by_digits (digits_of (bare w)) refl e

-- ---- all items
both_read : (r : Option Value) (rs : Option Values) (v : Value) (vs : Values) → r ≡ Some v → rs ≡ Some vs → both r rs ≡ Some (v ∷ vs)
both_read r rs v vs e f = ap₂ both e f

items_read : (ws : List (List ℕ)) (vs : Values) → AreItems ws vs → list_any is_wide_value vs ≡ false → values_of ws ≡ Some vs
items_read [] [] h n = refl
items_read [] (v ∷ vs) h n = absurd h
items_read (w ∷ ws) [] h n = absurd h
items_read (w ∷ ws) (v ∷ vs) h n = both_read (item_of w) (values_of ws) v vs (item_read w v h.0 (first_false (is_wide_value v) _ n)) (items_read ws vs h.1 (second_false (is_wide_value v) _ n))

items_told : (ws : List (List ℕ)) (vs : Values) → values_of ws ≡ Some vs → AreItems ws vs × (list_any is_wide_value vs ≡ false)
items_told [] [] h = (tt, refl)
items_told [] (v ∷ vs) h = absurd cc
items_told (w ∷ ws) vs h = by_item (items_told ws) (item_of w) refl (values_of ws) refl h
  where
    by_item : ((us : Values) → values_of ws ≡ Some us → AreItems ws us × (list_any is_wide_value us ≡ false)) → (r : Option Value) → item_of w ≡ r → (rs : Option Values) → values_of ws ≡ rs → both r rs ≡ Some vs → AreItems (w ∷ ws) vs × (list_any is_wide_value vs ≡ false)
    by_item ih None e rs f k = absurd cc
    by_item ih (Some v) e None f k = absurd cc
    by_item ih (Some v) e (Some us) f k =
        let g : v ∷ us ≡ vs = cc in
        let a = item_told w v e in
        let b = ih us f in
        subst (λ l. AreItems (w ∷ ws) l × (list_any is_wide_value l ≡ false)) g ((a.0, b.0), ap₂ (λ x y. x || y) a.1 b.1)

-- ---- in parentheses
pub record Within (w inner : List ℕ) : Type 0 where
  pub text : w ≡ 40 ∷ (inner ++ 41 ∷ [])

pub spelled : (w inner : List ℕ) (vs : Values) → Within w inner → Some vs ≡ values_of (parts inner) → SpellsState w vs × (list_any is_wide_value vs ≡ false)
spelled w inner vs h e =
    let k = items_told (parts inner) vs (sym e) in
    (record { items = parts inner; text = h.text ∙ ap (λ l. 40 ∷ (l ++ 41 ∷ [])) (sym (commas_parts inner)); are = k.0 }, k.1)

pub unread : (w inner : List ℕ) → Within w inner → 0 < length inner → None ≡ values_of (parts inner) → (s : Values) → SpellsState w s → list_any is_wide_value s ≡ true
unread w inner h some none s k = by_wide (list_any is_wide_value s) refl
  where
    inner_is : inner ≡ with_commas k.items
    inner_is = append_cancel_right inner (with_commas k.items) (41 ∷ []) (let e : 40 ∷ (inner ++ 41 ∷ []) ≡ 40 ∷ (with_commas k.items ++ 41 ∷ []) = sym h.text ∙ k.text in cc)

    by_items : (items : List (List ℕ)) → AreItems items s → inner ≡ with_commas items → list_any is_wide_value s ≡ false → list_any is_wide_value s ≡ true
    by_items [] a e n = let m = ap length e in absurd (omega arith)
    by_items (p ∷ ps) a e n = let f : ◌≡◌ {A = Option Values} None (Some s) = none ∙ ap (λ l. values_of (parts l)) e ∙ ap values_of (parts_commas p ps s a) ∙ items_read (p ∷ ps) s a n in absurd cc

    by_wide : (b : Bool) → list_any is_wide_value s ≡ b → list_any is_wide_value s ≡ true
    by_wide true e = e
    by_wide false e = by_items k.items k.are inner_is e

pub within_of : (w bytes rest inner : List ℕ) (x y : ℕ) → bytes ≡ w → bytes ≡ x ∷ rest → x ≡ 40 → rest ≡ inner ++ y ∷ [] → y ≡ 41 → Within w inner
within_of w bytes rest inner x y a b e f g = record { text = sym a ∙ b ∙ ap₂ (λ z l. z ∷ l) e (f ∙ ap (λ z. inner ++ z ∷ []) g) }

pub some_length : (l : List ℕ) → (length l == 0) ≡ false → 0 < length l
some_length [] h = absurd cc
some_length (x ∷ l) h = omega arith

-- ---- first bytes
pub number_first : (m : Bool) (u : List ℕ) → is_number u ≡ true → slice_index (sign_text m ++ u) 0 < 58
number_first true u h = omega arith
number_first false [] h = omega arith
number_first false (b ∷ u) h = first_low b u h

pub signed_front : (m : Bool) (x y : List ℕ) → IsNumeral 10 x → slice_index (sign_text m ++ (x ++ y)) 0 < 58
signed_front true x y n = omega arith
signed_front false [] y n = let k = n.0 in omega arith
signed_front false (c ∷ x) y n = digit_below c n.1.0
