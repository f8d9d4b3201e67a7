-- States carried to JANI and back, and what holds of their values.
use Rattle.std.proofs.Common.{◌≡◌, ℕ, zero, suc, ◌+◌, ◌<◌, ◌&&◌, not, nat_eq, List, [], ◌∷◌, map, length, Bool, true, false, IsTrue, Option, Some, None, if◌then◌else◌, get_or, slice_get, slice_set, replicate, refl, sym, ap, ◌∙◌, subst, arith}
use Rattle.std.specs.List.{All, AllByRecursion as Each}
use Rattle.std.proofs.lemmas.List.{length-map}
use Rattle.frac_core.specs.Fraction.{is_whole, is_wide}
use Rattle.op_trees.specs.declared.tree.Value.{Value}
use Rattle.op_trees.specs.declared.tree.Value.TheVariants as V
use Rattle.process_core.specs.Process.{SameAt}
use Rattle.process_core.specs.Product.{map_agree_in}
use Rattle.process_core.specs.Ready.{Values, Name}
use Rattle.process_core.specs.Steps.{Process, IsProcess, seen_by}
use Rattle.choice_laws.specs.Columns.{at_start, value_at, counting, state_by}
use Rattle.choice_laws.proofs.Columns.{read_at, set-counting, read_back}
use Rattle.carry_maps.specs.declared.map.CarryMap.{CarryMap}
use Rattle.carry_maps.specs.Maps.{column_number, column_numbers, jani_state, prism_state, IsMap}

-- ---- reading
pub got : {X : Type 0} (xs : List X) (i : ℕ) (x d : X) → slice_get xs i ≡ Some x → get_or xs i d ≡ x
got [] i x d h = absurd cc
got (y ∷ xs) zero x d h = cc
got (y ∷ xs) (suc i) x d h = got xs i x d h

pub got_none : {X : Type 0} (xs : List X) (i : ℕ) (d : X) → slice_get xs i ≡ None → get_or xs i d ≡ d
got_none [] i d h = refl
got_none (y ∷ xs) zero d h = absurd cc
got_none (y ∷ xs) (suc i) d h = got_none xs i d h

pub read_state : (cols : List ℕ) (n : ℕ) (s : Values) (i : ℕ) → i < n → get_or (state_by cols n s) i at_start ≡ value_at cols s i
read_state cols n s i l = got (state_by cols n s) i (value_at cols s i) at_start (read_at cols n s i l)

read_all : (cols : List ℕ) (n : ℕ) (s : Values) (js : List ℕ) → All (λ j. j < n) js → map (λ i. get_or (state_by cols n s) i at_start) js ≡ map (value_at cols s) js
read_all cols n s js h = map_agree_in (λ i. get_or (state_by cols n s) i at_start) (value_at cols s) js (λ k d l. read_state cols n s (get_or js k d) (h k d l))

pub carried_back : (m : CarryMap) (n : ℕ) (s : Values) → IsMap m (length s) n → prism_state m (jani_state m n s) ≡ s
carried_back m n s h =
    read_all (column_numbers m) n s (column_numbers m) h.below
    ∙ read_back (column_numbers m) s (sym (length-map m.columns (column_number (length m.locations)) ∙ h.each)) h.differ

-- a state of the JANI process comes from one of the PRISM process, which is the one that it is carried to
module _ (m : CarryMap) (p j : Process) (label : Option Name → Option Name) (lawful : IsProcess p) (columns : IsMap m (length p.columns) (length j.columns))
    (same : SameAt (seen_by p) (seen_by j) label (jani_state m (length j.columns))) (u : Values) (is : IsTrue (j.is_state u)) where
  from : (s : Values) × IsTrue (p.is_state s) × (jani_state m (length j.columns) s ≡ u)
  from = same.onto u is

  its_own : prism_state m u ≡ from.0
  its_own = ap (prism_state m) (sym from.2) ∙ carried_back m (length j.columns) from.0 (subst (λ k. IsMap m k (length j.columns)) (sym (lawful.columns from.0 from.1)) columns)

  pub prism_state_is : IsTrue (p.is_state (prism_state m u))
  prism_state_is = subst (λ s. IsTrue (p.is_state s)) (sym its_own) from.1

  pub carried_there : jani_state m (length j.columns) (prism_state m u) ≡ u
  carried_there = ap (jani_state m (length j.columns)) its_own ∙ from.2

-- ---- as it is computed
pub no_columns : (k n : ℕ) → map (value_at [] []) (counting k n) ≡ replicate n at_start
no_columns k zero = refl
no_columns k (suc n) = ap (λ xs. at_start ∷ xs) (no_columns (k + 1) n)

pub one_column : (c n : ℕ) (cs : List ℕ) (v : Value) (s : Values) → c < n → slice_set (state_by cs n s) c v ≡ state_by (c ∷ cs) n (v ∷ s)
one_column c n cs v s l =
    set-counting (value_at cs s) v 0 n c l
    ∙ (let e : 0 + c ≡ c = omega arith in ap (λ k. map (λ i. if nat_eq k i then v else value_at cs s i) (counting 0 n)) e)

-- ---- whole numbers within the bound
abbrev pub is_plain : Value → Bool
is_plain (V.Truth b) = true
is_plain (V.Number x) = is_whole x && not (is_wide x)

abbrev pub ArePlain : Values → Type 0
ArePlain s = Each (λ v. is_plain v ≡ true) s

value_plain : (cols : List ℕ) (s : Values) (i : ℕ) → ArePlain s → is_plain (value_at cols s i) ≡ true
value_plain [] s i h = refl
value_plain (c ∷ cols) [] i h = refl
value_plain (c ∷ cols) (v ∷ s) i h = by_test (nat_eq c i) (value_plain cols s i h.1)
  where
    by_test : (b : Bool) → is_plain (value_at cols s i) ≡ true → is_plain (if b then v else value_at cols s i) ≡ true
    by_test true k = h.0
    by_test false k = k

each_plain : (f : ℕ → Value) → ((i : ℕ) → is_plain (f i) ≡ true) → (is : List ℕ) → ArePlain (map f is)
each_plain f h [] = tt
each_plain f h (i ∷ is) = (h i, each_plain f h is)

get_plain : (u : Values) (i : ℕ) → ArePlain u → is_plain (get_or u i at_start) ≡ true
get_plain [] i h = refl
get_plain (v ∷ u) zero h = h.0
get_plain (v ∷ u) (suc i) h = get_plain u i h.1

pub jani_plain : (m : CarryMap) (n : ℕ) (s : Values) → ArePlain s → ArePlain (jani_state m n s)
jani_plain m n s h = each_plain (value_at (column_numbers m) s) (λ i. value_plain (column_numbers m) s i h) (counting 0 n)

pub prism_plain : (m : CarryMap) (u : Values) → ArePlain u → ArePlain (prism_state m u)
prism_plain m u h = each_plain (λ i. get_or u i at_start) (λ i. get_plain u i h) (column_numbers m)
