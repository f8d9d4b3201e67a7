-- A text spells one value, state or name at most.
use Rattle.std.proofs.Common.{◌≡◌, ℕ, suc, ◌<◌, ◌||◌, Bool, true, false, List, [], ◌∷◌, ◌++◌, length, slice_index, take, drop, codes, Option, Some, refl, sym, ap, ap₂, subst, ◌∙◌, arith, append-nil}
use Rattle.std.specs.List.{position_or_len}
use Rattle.std.specs.Str.Parse.{digits_value}
use Rattle.std.proofs.lemmas.List.{append_cancel_right}
use Rattle.frac_core.specs.Fraction.{whole, signed, fraction}
use Rattle.op_trees.specs.declared.tree.Value.{Value}
use Rattle.op_trees.specs.declared.tree.Value.TheVariants as V
use Rattle.process_core.specs.Ready.{Values, Name}
use Rattle.decimal_json.specs.declared.tree.Json.TheVariants as J
use Rattle.decimal_json.specs.Laws as json
use Rattle.decimal_json.specs.Text.{with_commas, behind_commas}
use Rattle.frac_core.specs.Decimal.{decimal_value}
use Rattle.std.proofs.Common.{◌==◌}
use Rattle.frac_core.specs.Numeral.{is_beyond, worth}
use Rattle.prism_lex.specs.Numbers.{is_number}
use Rattle.prism_lex.specs.Tokens.{is_name}
use Rattle.process_texts.specs.Texts.{truth_text}
use Rattle.process_texts.specs.Forms.{truth_of, sign_text}
use Rattle.process_texts.specs.Given.{IsValue, truth, literal, ratio, is_long}
use Rattle.process_texts.specs.States as s
use Rattle.process_texts.specs.States.{IsItem, AreItems, SpellsState, parts}
use Rattle.process_texts.specs.Names as n
use Rattle.process_texts.specs.Names.{SpellsName, IsString}
use Rattle.basics.specs.Lists.{append_left}
use Rattle.process_texts.proofs.Numbers.{no_slash_in_number}
use Rattle.process_texts.proofs.Values.{number_unsigned, sign_once, signed_of, truth_back, truth_none, numeral_unsigned, place_of_slash, front_of, behind_of, Unsigned}
use Rattle.process_texts.proofs.Spelled.{parts_commas, no_truth, signed_first, number_first, signed_front}
use Rattle.process_texts.proofs.Faultless.{a_json}

-- ---- truth values
same_truth : (w : List ℕ) (a b : Bool) → w ≡ truth_text a → w ≡ truth_text b → a ≡ b
same_truth w a b h k = let e : ◌≡◌ {A = Option Bool} (Some a) (Some b) = sym (truth_back a) ∙ ap truth_of (sym h ∙ k) ∙ truth_back b in cc

-- ---- a sign
signs : (w u v : List ℕ) (a b : Bool) → w ≡ sign_text a ++ u → w ≡ sign_text b ++ v → Unsigned u → Unsigned v → (a ≡ b) × (u ≡ v)
signs w u v a b h k x y = sign_once w u v a b (signed_of w v b k y) h x

-- ---- values
pub one_value : (w : List ℕ) (v u : Value) (a b : Bool) → IsValue w v a → IsValue w u b → (v ≡ u) × (a ≡ b)
one_value w v u a b (truth x e f g) (truth y h k l) = (f ∙ ap V.Truth (same_truth w x y e h) ∙ sym k, g ∙ sym l)
one_value w v u a b (truth x e f g) (literal m z h k) = absurd (truth_none w x (no_truth w (subst (λ l. slice_index l 0 < 58) (sym h) (number_first m z k.number))) e)
one_value w v u a b (truth x e f g) (ratio m x' y h k) = absurd (truth_none w x (no_truth w (subst (λ l. slice_index l 0 < 58) (sym h) (signed_front m x' (codes "/" ++ y) k.top))) e)
one_value w v u a b (literal m z h k) (truth x e f g) = absurd (truth_none w x (no_truth w (subst (λ l. slice_index l 0 < 58) (sym h) (number_first m z k.number))) e)
one_value w v u a b (ratio m x' y h k) (truth x e f g) = absurd (truth_none w x (no_truth w (subst (λ l. slice_index l 0 < 58) (sym h) (signed_front m x' (codes "/" ++ y) k.top))) e)
one_value w v u a b (literal m z h k) (literal o y i l) =
    let q = signs w z y m o h i (number_unsigned z k.number) (number_unsigned y l.number) in (
      k.value ∙ ap₂ (λ c x. V.Number (decimal_value (record (worth x) { negative = c }))) q.0 q.1 ∙ sym l.value,
      k.limit ∙ ap is_beyond q.1 ∙ sym l.limit,
    )
one_value w v u a b (literal m z h k) (ratio o x y i l) =
    let q = signs w z (x ++ 47 ∷ y) m o h i (number_unsigned z k.number) (numeral_unsigned x (47 ∷ y) l.top) in
    absurd (no_slash_in_number x y (ap is_number (sym q.1) ∙ k.number))
one_value w v u a b (ratio o x y i l) (literal m z h k) =
    let q = signs w z (x ++ 47 ∷ y) m o h i (number_unsigned z k.number) (numeral_unsigned x (47 ∷ y) l.top) in
    absurd (no_slash_in_number x y (ap is_number (sym q.1) ∙ k.number))
one_value w v u a b (ratio m x y h k) (ratio o x' y' i l) =
    let q = signs w (x ++ 47 ∷ y) (x' ++ 47 ∷ y') m o h i (numeral_unsigned x (47 ∷ y) k.top) (numeral_unsigned x' (47 ∷ y') l.top) in
    let p : length x ≡ length x' = sym (place_of_slash x y k.top.1) ∙ ap (position_or_len (λ b. b == 47)) q.1 ∙ place_of_slash x' y' l.top.1 in
    let e : x ≡ x' = sym (front_of x y) ∙ ap₂ take p q.1 ∙ front_of x' y' in
    let f : y ≡ y' = sym (behind_of x y) ∙ ap₂ drop (ap suc p) q.1 ∙ behind_of x' y' in (
      k.value ∙ ap (λ c. V.Number (fraction (signed c (digits_value 10 x)) (digits_value 10 y))) q.0 ∙ ap₂ (λ t r. V.Number (fraction (signed o (digits_value 10 t)) (digits_value 10 r))) e f ∙ sym l.value,
      k.limit ∙ ap₂ (λ t r. is_long t || is_long r) e f ∙ sym l.limit,
    )

-- ---- states
one_item : (w : List ℕ) (v u : Value) → IsItem w v → IsItem w u → v ≡ u
one_item w v u (s.truth a e f) (s.truth b h k) = f ∙ ap V.Truth (same_truth w a b e h) ∙ sym k
one_item w v u (s.truth a e f) (s.number m ds h i k) = absurd (truth_none w a (no_truth w (subst (λ l. slice_index l 0 < 58) (sym h) (signed_first m ds i))) e)
one_item w v u (s.number m ds h i k) (s.truth a e f) = absurd (truth_none w a (no_truth w (subst (λ l. slice_index l 0 < 58) (sym h) (signed_first m ds i))) e)
one_item w v u (s.number m ds h i k) (s.number o es j x y) =
    let q = signs w ds es m o h j (subst Unsigned (append-nil ds) (numeral_unsigned ds [] i)) (subst Unsigned (append-nil es) (numeral_unsigned es [] x)) in
    k ∙ ap₂ (λ c l. V.Number (whole (signed c (digits_value 10 l)))) q.0 q.1 ∙ sym y

one_items : (ws : List (List ℕ)) (vs us : Values) → AreItems ws vs → AreItems ws us → vs ≡ us
one_items [] [] [] h k = refl
one_items [] [] (u ∷ us) h k = absurd k
one_items [] (v ∷ vs) us h k = absurd h
one_items (w ∷ ws) [] us h k = absurd h
one_items (w ∷ ws) (v ∷ vs) [] h k = absurd k
one_items (w ∷ ws) (v ∷ vs) (u ∷ us) h k = ap₂ (λ x l. x ∷ l) (one_item w v u h.0 k.0) (one_items ws vs us h.1 k.1)

no_empty_item : (v : Value) → IsItem [] v → ⊥
no_empty_item v (s.truth true e f) = cc
no_empty_item v (s.truth false e f) = cc
no_empty_item v (s.number true ds e i f) = cc
no_empty_item v (s.number false ds e i f) = let k = i.0 in let m = ap length e in omega arith

inner_of : (w : List ℕ) (t : Values) (k : SpellsState w t) (inner : List ℕ) → w ≡ 40 ∷ (inner ++ 41 ∷ []) → inner ≡ with_commas k.items
inner_of w t k inner e = append_cancel_right inner (with_commas k.items) (41 ∷ []) (let f : 40 ∷ (inner ++ 41 ∷ []) ≡ 40 ∷ (with_commas k.items ++ 41 ∷ []) = sym e ∙ k.text in cc)

same_items : (as_ bs : List (List ℕ)) (vs us : Values) → AreItems as_ vs → AreItems bs us → with_commas as_ ≡ with_commas bs → as_ ≡ bs
same_items [] [] vs us h k e = refl
same_items [] (b ∷ bs) vs [] h k e = absurd k
same_items [] (b ∷ bs) vs (u ∷ us) h k e = let z : b ≡ [] = append_left b (behind_commas bs) (sym e) in absurd (no_empty_item u (subst (λ l. IsItem l u) z k.0))
same_items (a ∷ as_) [] [] us h k e = absurd h
same_items (a ∷ as_) [] (v ∷ vs) us h k e = let z : a ≡ [] = append_left a (behind_commas as_) e in absurd (no_empty_item v (subst (λ l. IsItem l v) z h.0))
same_items (a ∷ as_) (b ∷ bs) vs us h k e = sym (parts_commas a as_ vs h) ∙ ap parts e ∙ parts_commas b bs us k

pub one_state : (w : List ℕ) (t r : Values) → SpellsState w t → SpellsState w r → t ≡ r
one_state w t r h k =
    let e = same_items h.items k.items t r h.are k.are (inner_of w r k (with_commas h.items) h.text) in
    one_items h.items t r h.are (subst (λ l. AreItems l r) (sym e) k.are)

-- ---- names
pub one_name : json.OneValue → (w : List ℕ) (x y : Name) → SpellsName w x → SpellsName w y → x ≡ y
one_name one w x y (n.plain a b e) (n.plain c d f) = e ∙ sym f
one_name one w x y (n.plain a b e) (n.string k) = absurd (let z : false ≡ true = sym (ap is_name k.text) ∙ a in cc)
one_name one w x y (n.string k) (n.plain a b e) = absurd (let z : false ≡ true = sym (ap is_name k.text) ∙ a in cc)
one_name one w x y (n.string h) (n.string k) = let e : J.Str 0 x ≡ J.Str 0 y = (one w (J.Str 0 x) (J.Str 0 y) _ _ (a_json w x h) (a_json w y k)).0 in cc
