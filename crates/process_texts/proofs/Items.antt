-- The parts of a text between commas, one more at a time.
use Rattle.std.proofs.Common.{◌≡◌, ◌⊎◌, ℕ, zero, suc, ◌+◌, ◌^◌, ◌<◌, ◌≤◌, ◌==◌, Bool, true, false, not, List, [], ◌∷◌, ◌++◌, take, drop, length, slice_index, Option, Some, None, Result, Ok, ℤ, cond, refl, sym, ap, ap₂, subst, subst₂, ◌∙◌, arith, append_assoc, add-one, if◌then◌else◌, take_all, length-drop, lt-ltb, lit<, inl, inr}
use Rattle.std.specs.List.{position_or_len}
use Rattle.std.proofs.Math.Nat.{eq-or-lt_of_le}
use Rattle.std.proofs.lemmas.Bool.{ne_eqb}
use Rattle.frac_core.specs.Fraction.{Fraction, whole, signed, fraction}
use Rattle.frac_core.specs.Laws.{fraction_self}
use Rattle.frac_core.specs.Results.{narrow, narrow_small}
use Rattle.frac_core.specs.declared.fraction.FracFail.{FracFail}
use Rattle.op_trees.specs.declared.tree.Value.{Value}
use Rattle.op_trees.specs.declared.tree.Value.TheVariants as V
use Rattle.process_core.specs.Ready.{Values}
use Rattle.process_texts.specs.Forms.{truth_of, digits_of, IsSigned}
use Rattle.process_texts.specs.States.{item_of, truth_or, small_number, has_minus, bare, both, values_of, parts, cons_first}
use Rattle.process_texts.proofs.Ratios.{size_of}

-- ---- one part
module _ (w rest : List ℕ) where
  pub minus_is : (minus : Bool) → IsSigned w minus rest → has_minus w ≡ minus
  minus_is true s = ap (λ l. slice_index l 0 == 45) s.text
  minus_is false s = ne_eqb (slice_index w 0) 45 (s.bare refl)

  pub bare_is : (minus : Bool) → IsSigned w minus rest → bare w ≡ rest
  bare_is true s = ap bare s.text
  bare_is false s = ap (λ b. if b then drop 1 w else w) (minus_is false s) ∙ s.text

pub item_is : (w rest : List ℕ) (minus : Bool) (n : ℕ) → truth_of w ≡ None → IsSigned w minus rest → digits_of rest ≡ Some n → n < 2 ^ 62 → item_of w ≡ Some (V.Number (whole (signed minus n)))
item_is w rest minus n t s d h =
    ap (λ x. truth_or x (small_number (has_minus w) (digits_of (bare w)))) t
    ∙ ap₂ small_number (minus_is w rest minus s) (ap digits_of (bare_is w rest minus s) ∙ d)
    ∙ ap (λ b. if b then Some (V.Number (whole (signed minus n))) else None) (lt-ltb n (2 ^ 62) h)

pub whole_answer : (m : Bool) (n : ℕ) (top : ℤ) (r : Result Fraction FracFail) → n < 2 ^ 62 → top ≡ signed m n → r ≡ narrow (fraction top 1) → r ≡ Ok (whole (signed m n))
whole_answer m n top r h e k =
    k ∙ ap (λ z. narrow (fraction z 1)) e ∙ ap narrow (fraction_self (whole (signed m n)))
    ∙ narrow_small (whole (signed m n)) (subst (λ x. x < 2 ^ 62) (sym (size_of m n)) h) (lit< tt)

-- ---- the parts
pub one_part : (w : List ℕ) → length w ≤ position_or_len (λ b. b == 44) w → parts w ≡ w ∷ []
one_part [] h = refl
one_part (b ∷ w) h = by_test (one_part w) (b == 44) refl h
  where
    by_test : (length w ≤ position_or_len (λ b. b == 44) w → parts w ≡ w ∷ []) → (z : Bool) → z ≡ (b == 44) → length (b ∷ w) ≤ cond (not z) (1 + position_or_len (λ b. b == 44) w) 0 → (if z then [] ∷ parts w else cons_first b (parts w)) ≡ (b ∷ w) ∷ []
    by_test ih true e k = let no : ⊥ = omega arith in absurd no
    by_test ih false e k = ap (cons_first b) (ih (omega arith))

pub first_part : (w : List ℕ) (n : ℕ) → n ≡ position_or_len (λ b. b == 44) w → n < length w → parts w ≡ take n w ∷ parts (drop (n + 1) w)
first_part [] n e h = absurd (omega arith)
first_part (b ∷ w) n e h = by_test (first_part w) (b == 44) refl n e h
  where
    by_test : ((n : ℕ) → n ≡ position_or_len (λ b. b == 44) w → n < length w → parts w ≡ take n w ∷ parts (drop (n + 1) w)) → (z : Bool) → z ≡ (b == 44) → (n : ℕ) → n ≡ cond (not z) (1 + position_or_len (λ b. b == 44) w) 0 → n < length (b ∷ w) → (if z then [] ∷ parts w else cons_first b (parts w)) ≡ take n (b ∷ w) ∷ parts (drop (n + 1) (b ∷ w))
    by_test ih true e zero k l = refl
    by_test ih true e (suc n) k l = absurd cc
    by_test ih false e zero k l = let no : ⊥ = omega arith in absurd no
    by_test ih false e (suc n) k l =
        ap (cons_first b) (ih n (omega arith) (omega arith)) ∙ ap (λ m. (b ∷ take n w) ∷ parts m) (ap (λ m. drop m w) (add-one n) ∙ ap (λ m. drop m (b ∷ w)) (let g : suc (suc n) ≡ suc n + 1 = omega arith in g))

-- values before those that are left
pub with_front : List Value → Option Values → Option Values
with_front xs None = None
with_front xs (Some ys) = Some (xs ++ ys)

front_none : (r : Option Values) → with_front [] r ≡ r
unfolding with_front
front_none None = refl
front_none (Some ys) = refl

front_more : (xs : List Value) (v : Value) (r : Option Values) → with_front xs (both (Some v) r) ≡ with_front (xs ++ v ∷ []) r
unfolding with_front
front_more xs v None = refl
front_more xs v (Some ys) = ap Some (sym (append_assoc xs (v ∷ []) ys))

-- what a loop keeps: the values of the text are those so far and those of the rest
pub record AreRead (text : List ℕ) (xs : List Value) (rest : List ℕ) : Type 0 where
  pub shorter : length rest ≤ length text
  pub same : values_of (parts text) ≡ with_front xs (values_of (parts rest))

pub none_read : (text : List ℕ) → AreRead text [] text
none_read text = record { shorter = omega arith; same = sym (front_none (values_of (parts text))) }

module _ (text : List ℕ) (xs : List Value) (rest : List ℕ) (h : AreRead text xs rest) (n : ℕ) (p : n ≡ position_or_len (λ b. b == 44) rest) where
  first_item : (r : Option Value) → n ≤ length rest → r ≡ item_of (take n rest) → (vs : Option Values) × (values_of (parts rest) ≡ both r vs)
  first_item r b e = by_case (eq-or-lt_of_le b)
    where
      by_case : (n ≡ length rest) ⊎ (n < length rest) → (vs : Option Values) × (values_of (parts rest) ≡ both r vs)
      by_case (inr l) = (values_of (parts (drop (n + 1) rest)), ap values_of (first_part rest n p l) ∙ ap (λ x. both x (values_of (parts (drop (n + 1) rest)))) (sym e))
      by_case (inl l) = (Some [], ap values_of (one_part rest (omega arith)) ∙ ap (λ x. both (item_of x) (Some [])) (sym (take_all n rest (omega arith))) ∙ ap (λ x. both x (Some [])) (sym e))

  pub no_item : n ≤ length rest → None ≡ item_of (take n rest) → None ≡ values_of (parts text)
  unfolding with_front
  no_item b e = let k = first_item None b e in sym (h.same ∙ ap (with_front xs) k.1)

  pub last_item : (v : Value) → n ≡ length rest → Some v ≡ item_of (take n rest) → Some (xs ++ v ∷ []) ≡ values_of (parts text)
  unfolding with_front
  last_item v l e = sym (h.same ∙ ap (with_front xs) (ap values_of (one_part rest (omega arith)) ∙ ap (λ x. both (item_of x) (Some [])) (sym (take_all n rest (omega arith))) ∙ ap (λ x. both x (Some [])) (sym e)))

  next_item : (v : Value) → n < length rest → Some v ≡ item_of (take n rest) → AreRead text (xs ++ v ∷ []) (drop (n + 1) rest)
  next_item v l e = record {
    shorter = let k = h.shorter in let m = length-drop (n + 1) rest in omega arith;
    same = h.same ∙ ap (λ r. with_front xs r) (ap values_of (first_part rest n p l) ∙ ap (λ x. both x (values_of (parts (drop (n + 1) rest)))) (sym e)) ∙ front_more xs v (values_of (parts (drop (n + 1) rest)));
  }

  pub item_after : (v : Value) (ys : List Value) (more : List ℕ) → n < length rest → Some v ≡ item_of (take n rest) → ys ≡ xs ++ v ∷ [] → more ≡ drop (n + 1) rest → AreRead text ys more
  item_after v ys more l e f g = subst₂ (AreRead text) (sym f) (sym g) (next_item v l e)
