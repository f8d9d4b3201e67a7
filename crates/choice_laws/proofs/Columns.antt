-- A state whose columns stand in another order: what is read of it and written to it.
use Rattle.std.specs.Prelude.{◌≡◌, ◌⊎◌, ◌++◌, ℕ, zero, suc, ◌+◌, ◌<◌, ◌≤◌, List, [], ◌∷◌, map, length, Bool, true, false, not, ◌||◌, cond, Some, if◌then◌else◌, nat_eq, get_or, slice_get, slice_set}
use Rattle.std.specs.List.{All}
use Rattle.std.proofs.Common.{inl, inr, refl, sym, ap, ap₂, ◌∙◌, arith, eq-eqb, count_by, subst, flat_map}
use Rattle.std.proofs.lemmas.Bool.{ne_eqb, eqb-true, or_right, both_ways}
use Rattle.std.proofs.lemmas.List.Sums.{sum_by-cons}
use Rattle.std.proofs.lemmas.List.Elements.{All-nil, All-cons, All-weaker, All-head, All-tail}
use Rattle.basics.specs.Numbers.{nat_eq-self}
use Rattle.op_trees.specs.declared.tree.Value.{Value}
use Rattle.process_core.specs.Process.{IsIn}
use Rattle.process_core.specs.Product.{map_agree_in}
use Rattle.process_core.specs.Ready.{Values}
use Rattle.choice_laws.proofs.Members.{not_counted, in_left, in_right, in_either}
use Rattle.choice_laws.specs.Columns.{at_start, value_at, counting, state_by, slot, stands}

-- ---- numbers from one on
pub length-counting : (k m : ℕ) → length (counting k m) ≡ m
length-counting k zero = refl
length-counting k (suc m) = ap suc (length-counting (k + 1) m)

pub counting_at : (k m i : ℕ) → i < m → slice_get (counting k m) i ≡ Some (k + i)
counting_at k zero i l = absurd (let no : ⊥ = omega arith in no)
counting_at k (suc m) zero l = let e : k ≡ k + 0 = omega arith in ap (λ j. Some j) e
counting_at k (suc m) (suc i) l = counting_at (k + 1) m i (omega arith) ∙ (let e : (k + 1) + i ≡ k + suc i = omega arith in ap (λ j. Some j) e)

-- a list as what stands at each number
pub listed : {X : Type 0} (d : X) (k : ℕ) (xs : List X) (g : ℕ → X) → ((i : ℕ) → i < length xs → g (k + i) ≡ get_or xs i d) → xs ≡ map g (counting k (length xs))
listed d k [] g h = refl
listed d k (x ∷ xs) g h =
    ap₂ (λ a l. a ∷ l) (sym (ap g (let e : k ≡ k + 0 = omega arith in e) ∙ h 0 (omega arith)))
    (listed d (k + 1) xs g (λ i l. ap g (let e : (k + 1) + i ≡ k + suc i = omega arith in e) ∙ h (suc i) (omega arith)))

-- ---- reading
-- a column that doesn't stand there is at its start
pub value_absent : (cols : List ℕ) (s : Values) (j : ℕ) → stands cols j ≡ false → value_at cols s j ≡ at_start
value_absent [] s j h = refl
value_absent (c ∷ cols) [] j h = refl
value_absent (c ∷ cols) (v ∷ s) j h = by_test (nat_eq c j) h (value_absent cols s j)
  where
    by_test : (b : Bool) → (b || stands cols j) ≡ false → (stands cols j ≡ false → value_at cols s j ≡ at_start) → (if b then v else value_at cols s j) ≡ at_start
    by_test true h ih = absurd cc
    by_test false h ih = ih h

from_counting : (k n : ℕ) → All (λ j. k ≤ j) (counting k n)
from_counting k zero = All-nil (λ j. k ≤ j)
from_counting k (suc n) =
    All-cons (λ j. k ≤ j) k (counting (k + 1) n) (let l : k ≤ k = omega arith in l)
    (All-weaker (λ j. k + 1 ≤ j) (λ j. k ≤ j) (λ j l. omega arith) (counting (k + 1) n) (from_counting (k + 1) n))

pub got-counting : {X : Type 0} (f : ℕ → X) (k n i : ℕ) → i < n → slice_get (map f (counting k n)) i ≡ Some (f (k + i))
got-counting f k zero i l = absurd (omega arith)
got-counting f k (suc n) zero l = let e : k ≡ k + 0 = omega arith in ap (λ j. Some (f j)) e
got-counting f k (suc n) (suc i) l = got-counting f (k + 1) n i (omega arith) ∙ (let e : (k + 1) + i ≡ k + suc i = omega arith in ap (λ j. Some (f j)) e)

-- the state has the value of the column
pub read_at : (cols : List ℕ) (n : ℕ) (s : Values) (i : ℕ) → i < n → slice_get (state_by cols n s) i ≡ Some (value_at cols s i)
read_at cols n s i l = got-counting (value_at cols s) 0 n i l ∙ (let e : 0 + i ≡ i = omega arith in ap (λ j. Some (value_at cols s j)) e)

-- ---- writing

pub set-counting : {X : Type 0} (f : ℕ → X) (v : X) (k n i : ℕ) → i < n →
    slice_set (map f (counting k n)) i v ≡ map (λ j. if nat_eq (k + i) j then v else f j) (counting k n)
set-counting f v k zero i l = absurd (omega arith)
set-counting f v k (suc n) zero l =
    ap₂ (λ x r. x ∷ r) (ap (λ b. if b then v else f k) (sym (eq-eqb (k + 0) k (omega arith))))
    (map_agree_in f (λ j. if nat_eq (k + 0) j then v else f j) (counting (k + 1) n)
    (All-weaker (λ j. k + 1 ≤ j) (λ j. f j ≡ (if nat_eq (k + 0) j then v else f j)) (λ j l. ap (λ b. if b then v else f j) (sym (ne_eqb (k + 0) j (λ e. omega arith)))) (counting (k + 1) n) (from_counting (k + 1) n)))
set-counting f v k (suc n) (suc i) l =
    ap₂ (λ x r. x ∷ r) (ap (λ b. if b then v else f k) (sym (ne_eqb (k + suc i) k (λ e. omega arith))))
    (set-counting f v (k + 1) n i (omega arith)
    ∙ (let e : (k + 1) + i ≡ k + suc i = omega arith in ap (λ m. map (λ j. if nat_eq m j then v else f j) (counting (k + 1) n)) e))

pub value-set : (cols : List ℕ) (s : Values) (j : ℕ) (v : Value) (i : ℕ) → length s ≡ length cols → stands cols j ≡ true →
    value_at cols (slice_set s (slot cols j) v) i ≡ (if nat_eq j i then v else value_at cols s i)
value-set [] s j v i l h = absurd cc
value-set (c ∷ cols) [] j v i l h = absurd (let e : 0 ≡ suc (length cols) = l in omega arith)
value-set (c ∷ cols) (u ∷ s) j v i l h = by_test (nat_eq c j) refl h (value-set cols s j v i (omega arith))
  where
    by_case : (c j i : ℕ) (v u w : Value) → c ≡ j → (if nat_eq c i then v else w) ≡ (if nat_eq j i then v else (if nat_eq c i then u else w))
    by_case c j i v u w e = ap (λ n. if nat_eq n i then v else w) e ∙ by_bool (nat_eq j i) (nat_eq c i) (ap (λ n. nat_eq n i) (sym e))
      where
        by_bool : (a b : Bool) → a ≡ b → (if a then v else w) ≡ (if a then v else (if b then u else w))
        by_bool true b e = refl
        by_bool false true e = absurd cc
        by_bool false false e = refl

    apart : (c j i : ℕ) → nat_eq c j ≡ false → nat_eq c i ≡ true → nat_eq j i ≡ false
    apart c j i h k = ne_eqb j i (λ e. differ h (eq-eqb c j (eqb-true c i k ∙ sym e)))
      where
        differ : nat_eq c j ≡ false → nat_eq c j ≡ true → ⊥
        differ h k = absurd cc

    swapped : (a b : Bool) (u v w : Value) → (b ≡ true → a ≡ false) → (if b then u else (if a then v else w)) ≡ (if a then v else (if b then u else w))
    swapped true true u v w h = absurd (let e = h refl in cc)
    swapped true false u v w h = refl
    swapped false true u v w h = refl
    swapped false false u v w h = refl

    by_test : (b : Bool) → nat_eq c j ≡ b → (b || stands cols j) ≡ true →
        (stands cols j ≡ true → value_at cols (slice_set s (slot cols j) v) i ≡ (if nat_eq j i then v else value_at cols s i)) →
        value_at (c ∷ cols) (slice_set (u ∷ s) (cond (not b) (1 + slot cols j) 0) v) i ≡ (if nat_eq j i then v else (if nat_eq c i then u else value_at cols s i))
    by_test true e k ih = by_case c j i v u (value_at cols s i) (eqb-true c j e)
    by_test false e k ih =
        (let n : 1 + slot cols j ≡ suc (slot cols j) = omega arith in ap (λ m. value_at (c ∷ cols) (slice_set (u ∷ s) m v) i) n)
        ∙ ap (λ x. if nat_eq c i then u else x) (ih k)
        ∙ swapped (nat_eq j i) (nat_eq c i) u v (value_at cols s i) (apart c j i e)

-- a write to a column is one to its place
pub written_at : (cols : List ℕ) (n : ℕ) (s : Values) (j : ℕ) (v : Value) → length s ≡ length cols → stands cols j ≡ true → j < n →
    slice_set (state_by cols n s) j v ≡ state_by cols n (slice_set s (slot cols j) v)
written_at cols n s j v l h m =
    set-counting (value_at cols s) v 0 n j m
    ∙ (let e : 0 + j ≡ j = omega arith in ap (λ k. map (λ i. if nat_eq k i then v else value_at cols s i) (counting 0 n)) e)
    ∙ map_agree_in (λ i. if nat_eq j i then v else value_at cols s i) (value_at cols (slice_set s (slot cols j) v)) (counting 0 n)
    (λ k d x. sym (value-set cols s j v (get_or (counting 0 n) k d) l h))

-- a write of the start to a column that doesn't stand there changes nothing
pub written_absent : (cols : List ℕ) (n : ℕ) (s : Values) (j : ℕ) → stands cols j ≡ false → j < n → slice_set (state_by cols n s) j at_start ≡ state_by cols n s
written_absent cols n s j h m =
    set-counting (value_at cols s) at_start 0 n j m
    ∙ (let e : 0 + j ≡ j = omega arith in ap (λ k. map (λ i. if nat_eq k i then at_start else value_at cols s i) (counting 0 n)) e)
    ∙ map_agree_in (λ i. if nat_eq j i then at_start else value_at cols s i) (value_at cols s) (counting 0 n)
    (λ k d x. let i = get_or (counting 0 n) k d in by_test i (nat_eq j i) refl)
  where
    by_test : (i : ℕ) (b : Bool) → nat_eq j i ≡ b → (if b then at_start else value_at cols s i) ≡ value_at cols s i
    by_test i true e = sym (ap (value_at cols s) (sym (eqb-true j i e)) ∙ value_absent cols s j h)
    by_test i false e = refl

-- ---- columns that stand there
pub below_stands : (k m j : ℕ) → k ≤ j → j < k + m → stands (counting k m) j ≡ true
below_stands k zero j l h = absurd (let no : ⊥ = omega arith in no)
below_stands k (suc m) j l h = by_test (nat_eq k j) refl (below_stands (k + 1) m j)
  where
    by_test : (b : Bool) → nat_eq k j ≡ b → (k + 1 ≤ j → j < (k + 1) + m → stands (counting (k + 1) m) j ≡ true) → (b || stands (counting (k + 1) m) j) ≡ true
    by_test true e f = refl
    by_test false e f = f (apart (λ g. differ (eq-eqb k j g))) (omega arith)
      where
        differ : nat_eq k j ≡ true → ⊥
        differ x = absurd cc

        apart : (k ≡ j → ⊥) → k + 1 ≤ j
        apart f = omega (arith, f)

pub stands_below : (k m j : ℕ) → stands (counting k m) j ≡ true → j < k + m
stands_below k zero j h = absurd cc
stands_below k (suc m) j h = by_test (nat_eq k j) refl h (stands_below (k + 1) m j)
  where
    by_test : (b : Bool) → nat_eq k j ≡ b → (b || stands (counting (k + 1) m) j) ≡ true → (stands (counting (k + 1) m) j ≡ true → j < (k + 1) + m) → j < k + suc m
    by_test true e h f = let s = eqb-true k j e in omega arith
    by_test false e h f = let l = f h in omega arith

pub stands_in : (P : ℕ → Type 0) (js : List ℕ) → All P js → (j : ℕ) → stands js j ≡ true → P j
stands_in P [] h j k = absurd cc
stands_in P (i ∷ js) h j k = by_test (nat_eq i j) refl k (stands_in P js (All-tail P i js h) j)
  where
    by_test : (b : Bool) → nat_eq i j ≡ b → (b || stands js j) ≡ true → (stands js j ≡ true → P j) → P j
    by_test true e k f = subst P (eqb-true i j e) (All-head P i js h)
    by_test false e k f = f k

-- what stands in the slot of a column
pub slot_at : {X : Type 0} (f : ℕ → X) (js : List ℕ) (j : ℕ) (d : X) → stands js j ≡ true → get_or (map f js) (slot js j) d ≡ f j
slot_at f [] j d h = absurd cc
slot_at f (i ∷ js) j d h = by_test (nat_eq i j) refl h (slot_at f js j d)
  where
    by_test : (b : Bool) → nat_eq i j ≡ b → (b || stands js j) ≡ true → (stands js j ≡ true → get_or (map f js) (slot js j) d ≡ f j) →
        get_or (f i ∷ map f js) (cond (not b) (1 + slot js j) 0) d ≡ f j
    by_test true e h ih = ap f (eqb-true i j e)
    by_test false e h ih = (let o : 1 + slot js j ≡ suc (slot js j) = omega arith in ap (λ k. get_or (f i ∷ map f js) k d) o) ∙ ih h

pub value_at-map : (g : ℕ → Value) (js : List ℕ) (j : ℕ) → stands js j ≡ true → value_at js (map g js) j ≡ g j
value_at-map g [] j h = absurd cc
value_at-map g (i ∷ js) j h = by_test (nat_eq i j) refl h (value_at-map g js j)
  where
    by_test : (b : Bool) → nat_eq i j ≡ b → (b || stands js j) ≡ true → (stands js j ≡ true → value_at js (map g js) j ≡ g j) → (if b then g i else value_at js (map g js) j) ≡ g j
    by_test true e h ih = ap g (eqb-true i j e)
    by_test false e h ih = ih h

-- ---- what stands in each column tells the state
abbrev pub times_of : ℕ → List ℕ → ℕ
times_of j js = count_by (λ c. nat_eq c j) js

pub read_back : (js : List ℕ) (s : Values) → length s ≡ length js → All (λ j. times_of j js ≤ 1) js → map (value_at js s) js ≡ s
read_back [] [] l h = refl
read_back [] (u ∷ s) l h = absurd (let no : ⊥ = omega arith in no)
read_back (j ∷ js) [] l h = absurd (let no : ⊥ = omega arith in no)
read_back (j ∷ js) (u ∷ s) l h =
    let first = All-head (λ i. times_of i (j ∷ js) ≤ 1) j js h in
    let one : times_of j (j ∷ js) ≡ 1 + times_of j js = sum_by-cons (λ c. cond (nat_eq c j) 1 0) j js ∙ ap (λ b. cond b 1 0 + times_of j js) (nat_eq-self j) in
    let none : times_of j js ≡ 0 = omega arith in
    let apart = not_counted (λ c. nat_eq c j) js none in
    ap₂ (λ a r. a ∷ r) (ap (λ b. if b then u else value_at js s j) (nat_eq-self j))
    (map_agree_in (value_at (j ∷ js) (u ∷ s)) (value_at js s) js
    (λ k d m. let i = get_or js k d in ap (λ b. if b then u else value_at js s i) (ne_eqb j i (λ e. both_ways (nat_eq i j) (apart k d m) (eq-eqb i j (sym e)))))
    ∙ read_back js s (omega arith)
    (λ k d m.
    let i = get_or js k d in
    let more = sum_by-cons (λ c. cond (nat_eq c i) 1 0) j js in
    let here = All-tail (λ i. times_of i (j ∷ js) ≤ 1) j js h k d m in
    omega arith))

-- ---- members of a walk over columns
pub record Comes {X : Type 0} (x : X) (g : ℕ → List X) (js : List ℕ) : Type 0 where
  pub from : ℕ
  pub there : stands js from ≡ true
  pub among : IsIn x (g from)

pub comes : {X : Type 0} (x : X) (g : ℕ → List X) (js : List ℕ) → IsIn x (flat_map g js) → Comes x g js
comes x g [] h = absurd h
comes x g (j ∷ js) h = by_part (in_either x (g j) (flat_map g js) h) (comes x g js)
  where
    by_part : IsIn x (g j) ⊎ IsIn x (flat_map g js) → (IsIn x (flat_map g js) → Comes x g js) → Comes x g (j ∷ js)
    by_part (inl k) f = record { from = j; there = ap (λ b. b || stands js j) (nat_eq-self j); among = k }
    by_part (inr k) f = let r = f k in record { from = r.from; there = or_right (nat_eq j r.from) (stands js r.from) r.there; among = r.among }

pub goes : {X : Type 0} (x : X) (g : ℕ → List X) (js : List ℕ) (j : ℕ) → stands js j ≡ true → IsIn x (g j) → IsIn x (flat_map g js)
goes x g [] j h k = absurd cc
goes x g (i ∷ js) j h k = by_test (nat_eq i j) refl h (goes x g js j)
  where
    by_test : (b : Bool) → nat_eq i j ≡ b → (b || stands js j) ≡ true → (stands js j ≡ true → IsIn x (g j) → IsIn x (flat_map g js)) → IsIn x (g i ++ flat_map g js)
    by_test true e h f = in_left x (g i) (flat_map g js) (subst (λ m. IsIn x (g m)) (sym (eqb-true i j e)) k)
    by_test false e h f = in_right x (g i) (flat_map g js) (f h k)
