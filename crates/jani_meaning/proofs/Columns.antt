-- Columns and states: how many there are, that assignments in range keep states, and that locations have no fault.
use Rattle.std.specs.Prelude.{◌≡◌, ℕ, zero, suc, ◌+◌, ◌-◌, ◌≤◌, List, [], ◌∷◌, ◌++◌, map, length, pos, Bool, true, false, not, ◌&&◌, cond, IsTrue, Option, Some, None, nat_lt, unwrap_or, slice_get, is_some, ◌||◌, if◌then◌else◌}
use Rattle.std.specs.List.{list_any, position_or_len}
use Rattle.std.specs.Ordering.{MatchOrdering}
use Rattle.std.specs.declared.cmp.Ordering.{Ordering}
use Rattle.std.specs.declared.cmp.Ordering.TheVariants as C
use Rattle.std.proofs.Common.{refl, sym, ap, ap₂, subst, ◌∙◌, arith, ltb-true, length-append, append_assoc}
use Rattle.std.proofs.lemmas.Int.{ints}
use Rattle.std.proofs.lemmas.List.{length-map}
use Rattle.std.proofs.lemmas.Bool.{and_from, and_parts}
use Rattle.process_core.specs.States.{state_set, fits_value}
use Rattle.basics.specs.Booleans.{second_true, both_not, first_false, second_false}
use Rattle.bridge_io.specs.declared.reason.Named.{Named}
use Rattle.frac_core.specs.Fraction.{Fraction, nought, whole, compare, is_whole}
use Rattle.frac_core.specs.Order.{AtMost, AtMost-whole, Below, Below_not-AtMost, compare_ranks, compare_is}
use Rattle.op_trees.specs.Seen.{Seen, known}
use Rattle.op_trees.specs.declared.tree.Value.{Value}
use Rattle.op_trees.specs.declared.tree.Value.TheVariants as V
use Rattle.process_core.specs.Ready.{Values, Name}
use Rattle.process_core.specs.Distribution.{KeepsStates}
use Rattle.basics.specs.Lists.{append_both, append_left}
use Rattle.jani_tree.specs.Syntax.{Expression, Automaton, File, element_names}
use Rattle.process_core.specs.Instance.{Between, Column, is_in, is_state, is_above, is_greater, numbered, column_faults, constant_faults, only_if, domain_at, fits_in, domain_faults, value_faults, first_faults, no_condition}
use Rattle.op_trees.specs.Names.{is_called}
use Rattle.jani_meaning.specs.LoopLaws.{element_count}
use Rattle.jani_meaning.specs.Elements.{elements, location_number, first_number, initial_number, lasting, has_several_starts}
use Rattle.jani_meaning.specs.Scene.{counted, location_column, column, constant_names, columns_of, scene, first_location, begins_anywhere, has_condition}
use Rattle.jani_meaning.specs.Moment.{location_write, names_in, is_among, begins_here, begin_here, restriction_seen}
use Rattle.jani_meaning.specs.Laws.{StatesHaveColumns, LocationsHaveNoFault, NoConditionIsTrue}

-- ---- how many values a state has
pub state_length : (cs : List Column) (s : Values) → IsTrue (is_state cs s) → length s ≡ length cs
state_length [] [] h = refl
state_length [] (v ∷ s) h = absurd cc
state_length (c ∷ cs) [] h = absurd cc
state_length (c ∷ cs) (v ∷ s) h = ap suc (state_length cs s (second_true (is_in c.domain v) (is_state cs s) h))

pub states_have_columns : (file : File) → StatesHaveColumns file
states_have_columns file v s h =
    state_length (columns_of file v) s h
    ∙ length-append (map location_column (elements file)) (map (λ o. column (constant_names file v) o.var) (lasting file))
    ∙ ap₂ (λ a b. a + b) (length-map (elements file) location_column ∙ element_count file) (length-map (lasting file) (λ o. column (constant_names file v) o.var))

-- ---- locations are within their range
pub not_above : (x y : Fraction) → AtMost x y → is_above x y ≡ false
not_above x y h = by_answer (compare x y) (compare_ranks x y)
  where
    by_answer : (r : Ordering) → MatchOrdering r (Below x y) (x ≡ y) (Below y x) → is_greater r ≡ false
    by_answer C.Less b = refl
    by_answer C.Equal e = refl
    by_answer C.Greater b = absurd (Below_not-AtMost y x b h)

pub not_above_whole : (k m : ℕ) → k ≤ m → is_above (whole (pos k)) (whole (pos m)) ≡ false
not_above_whole k m h = not_above (whole (pos k)) (whole (pos m)) (AtMost-whole (pos k) (pos m) (omega (arith, ints)))

pub has_count : (k m : ℕ) → k ≤ m → is_in (Between (counted 0) (counted m)) (V.Number (whole (pos k))) ≡ true
has_count k m h =
    both_not (is_above (whole (pos 0)) (whole (pos k))) (is_above (whole (pos k)) (whole (pos m))) (not_above_whole 0 k (omega arith)) (not_above_whole k m h)

pub place_within : (b : Bool) (k n : ℕ) → b ≡ nat_lt k n → unwrap_or (cond b (Some k) None) 0 ≤ n - 1
place_within true k n e = let h = ltb-true k n (sym e) in omega arith
place_within false k n e = omega arith

pub location_within : (a : Automaton) (x : Name) → location_number a x ≤ length a.locations - 1
location_within a x =
    let k = position_or_len (λ l. is_called x l.name) a.locations in
    place_within (nat_lt k (length a.locations)) k (length a.locations) refl

first_within : (a : Automaton) (ns : List Named) → first_number a ns ≤ length a.locations - 1
first_within a [] = omega arith
first_within a (n ∷ ns) = location_within a n.name

-- the columns of the elements come first
pub domain_of_location : (as_ : List Automaton) (rest : List Column) (i : ℕ) (a : Automaton) → slice_get as_ i ≡ Some a →
    domain_at (map location_column as_ ++ rest) i ≡ (location_column a).domain
domain_of_location [] rest i a e = absurd cc
domain_of_location (b ∷ bs) rest zero a e = ap (λ o. (location_column (unwrap_or o b)).domain) e
domain_of_location (b ∷ bs) rest (suc i) a e = domain_of_location bs rest i a e

pub keeps_location : (cs : List Column) (i : ℕ) (a : Automaton) (x : Name) → domain_at cs i ≡ (location_column a).domain →
    KeepsStates (is_state cs) (location_write i (location_number a x))
keeps_location cs i a x d =
    let n = location_number a x in
    record {
      keeps = λ s v k e f. state_set cs s i v k (fits_value (domain_at cs i) (counted n).value v e
          (subst (λ r. fits_in r (counted n).value ≡ true) (sym d) (has_count n (length a.locations - 1) (location_within a x))));
    }

-- ---- locations have no fault
neither : {X : Type 0} (b c : Bool) (x y : X) → b ≡ false → c ≡ true → only_if b x ++ only_if (not b && not c) y ≡ []
neither true c x y h k = absurd cc
neither false true x y h k = refl
neither false false x y h k = absurd cc

-- the range of a location has no fault
range_sound : (i : ℕ) (a : Automaton) → domain_faults i (location_column a).domain ≡ []
range_sound i a =
    append_left (domain_faults i (location_column a).domain) (value_faults i (location_column a).domain (counted 0).value)
    (let m = length a.locations - 1 in
    neither (is_above (whole (pos 0)) (whole (pos m))) (is_in (location_column a).domain (V.Number (whole (pos 0)))) _ _ (not_above_whole 0 m (omega arith)) (has_count 0 m (omega arith)))

location_faults : (r : Bool) (i : ℕ) (a : Automaton) → column_faults r i (location_column a) ≡ []
location_faults r i a = by_first r (has_several_starts a)
  where
    by_first : (r b : Bool) → domain_faults i (location_column a).domain ++ first_faults r i (location_column a).domain (first_location a b) ≡ []
    by_first true b = append_both (domain_faults i (location_column a).domain) [] (range_sound i a) refl
    by_first false true = append_both (domain_faults i (location_column a).domain) [] (range_sound i a) refl
    by_first false false =
        let m = length a.locations - 1 in
        neither (is_above (whole (pos 0)) (whole (pos m))) (is_in (location_column a).domain (V.Number (whole (pos (initial_number a))))) _ _
        (not_above_whole 0 m (omega arith)) (has_count (initial_number a) m (first_within a a.initial))

all_locations : (r : Bool) (i : ℕ) (as_ : List Automaton) → numbered (column_faults r) i (map location_column as_) ≡ []
all_locations r i [] = refl
all_locations r i (a ∷ as_) = ap₂ (λ p q. p ++ q) (location_faults r i a) (all_locations r (i + 1) as_)

pub numbered-append : {X Y : Type 0} (f : ℕ → X → List Y) (i : ℕ) (xs ys : List X) → numbered f i (xs ++ ys) ≡ numbered f i xs ++ numbered f (i + length xs) ys
numbered-append f i [] ys = ap (λ n. numbered f n ys) (omega arith)
numbered-append f i (x ∷ xs) ys =
    ap (λ l. f i x ++ l) (numbered-append f (i + 1) xs ys ∙ ap (λ n. numbered f (i + 1) xs ++ numbered f n ys) (omega arith))
    ∙ sym (append_assoc (f i x) (numbered f (i + 1) xs) (numbered f (i + suc (length xs)) ys))

pub numbered_at : {X Y : Type 0} (f : ℕ → X → List Y) (i n : ℕ) (xs ys : List X) → i + length xs ≡ n → numbered f i (xs ++ ys) ≡ numbered f i xs ++ numbered f n ys
numbered_at f i n xs ys e = numbered-append f i xs ys ∙ ap (λ m. numbered f i xs ++ numbered f m ys) e

pub locations_have_no_fault : (file : File) → LocationsHaveNoFault file
locations_have_no_fault file v =
    let places = map location_column (elements file) in
    let r = has_condition file in
    let vars = map (λ o. column (constant_names file v) o.var) (lasting file) in
    ap (λ l. numbered constant_faults 0 (scene file v).constants ++ l)
    (numbered-append (column_faults r) 0 places vars
    ∙ ap₂ (λ p n. p ++ numbered (column_faults r) n vars) (all_locations r 0 (elements file))
    (let e = length-map (elements file) location_column in let f = element_count file in omega arith))

-- ---- the only value of the location of an automaton with one location
not_greater : (o : Ordering) → not (is_greater o) ≡ true → C.Greater ≡ o → ⊥
not_greater C.Less h e = absurd cc
not_greater C.Equal h e = absurd cc
not_greater C.Greater h e = absurd cc

by_order : (q : Fraction) (o : Ordering) → MatchOrdering o (Below q nought) (q ≡ nought) (Below nought q) → not (is_greater o) ≡ true → not (is_above nought q) ≡ true → q ≡ nought
by_order q C.Less m h k = absurd (not_greater (compare nought q) k (compare_is nought q C.Greater m))
by_order q C.Equal m h k = m
by_order q C.Greater m h k = absurd cc

pub only_nought : (u : Value) → is_in (Between (counted 0) (counted 0)) u ≡ true → u ≡ V.Number nought
only_nought (V.Truth b) h = absurd cc
only_nought (V.Number q) h =
    let p = and_parts (is_whole q) (not (is_above nought q) && not (is_above q nought)) h in
    let r = and_parts (not (is_above nought q)) (not (is_above q nought)) p.1 in
    ap V.Number (by_order q (compare q nought) (compare_ranks q nought) r.1 r.0)

-- ---- a file without an initial condition
anywhere : (s : Values) (i : ℕ) (as_ : List Automaton) → list_any has_several_starts as_ ≡ false → begin_here s i as_ ≡ true
anywhere s i [] h = refl
anywhere s i (a ∷ as_) h =
    and_from (begins_here s i a) (begin_here s (i + 1) as_) (ap (λ b. not b || is_among s i a a.initial) (first_false (has_several_starts a) (list_any has_several_starts as_) h))
    (anywhere s (i + 1) as_ (second_false (has_several_starts a) (list_any has_several_starts as_) h))

none_seen : (names : Name → Seen) (o : Option Expression) → is_some o ≡ false → restriction_seen names o ≡ no_condition
none_seen names None h = refl
none_seen names (Some e) h = absurd cc

pub no_condition_is_true : (file : File) → NoConditionIsTrue file
no_condition_is_true file v s h =
    let several = list_any has_several_starts (elements file) in
    let rest = several || list_any begins_anywhere (lasting file) in
    ap (λ b. if b then restriction_seen (names_in file v s (length (element_names file))) file.restrict else known (Some (V.Truth false)))
    (anywhere s 0 (elements file) (first_false several (list_any begins_anywhere (lasting file)) (second_false (is_some file.restrict) rest h)))
    ∙ none_seen (names_in file v s (length (element_names file))) file.restrict (first_false (is_some file.restrict) rest h)
