-- What the locations of a file without faults give to transient variables, and how those begin.
use Rattle.std.specs.Prelude.{◌≡◌, ℕ, ◌+◌, List, [], ◌∷◌, ◌++◌, map, Bool, true, false, not, ◌&&◌, ◌||◌, cond, Option, Some, None, is_some, bytes_eq, slice_get, unwrap_or, if◌then◌else◌}
use Rattle.std.specs.List.{find, filter, flat_map, list_any, All, AllByRecursion as OfAll}
use Rattle.std.specs.Option.{option_map, option_or as or_else}
use Rattle.std.proofs.Common.{refl, sym, ap, ap₂, ◌∙◌}
use Rattle.std.proofs.lemmas.Bool.{eqb-true, and_parts, and_from, or_left, not-false, both_ways, false_from_ne_true, or_right, not-true}
use Rattle.std.proofs.lemmas.Option.{same_Some}
use Rattle.std.proofs.Math.Bool.{and-true}
use Rattle.std.proofs.lemmas.List.Elements.{All-from_recursion}
use Rattle.basics.specs.Texts.{bytes_eq-true}
use Rattle.basics.specs.Options.{none_of, if_some}
use Rattle.basics.specs.Each.{each_then, each_with, each_rest, each_join, empty_each}
use Rattle.basics.specs.Members.{any_agree, found_passes}
use Rattle.basics.specs.Lists.{append_right, append_left, IsNotEmpty as HasItems}
use Rattle.bridge_io.specs.declared.reason.Named.{Named}
use Rattle.bridge_io.specs.declared.reason.Reason.TheVariants.{TransientInitial, TransientTwoAutomata}
use Rattle.frac_core.specs.declared.decimal.Decimal.{Decimal}
use Rattle.frac_core.specs.Decimal.{decimal_value, ten_to}
use Rattle.frac_core.specs.Fraction.{whole, nought, signed, times}
use Rattle.frac_core.specs.Laws.{times_comm, times_nought}
use Rattle.op_trees.specs.Tree.{Truth, Number, Name as At, One, Two, Three}
use Rattle.op_trees.specs.declared.tree.Ty.TheVariants as T
use Rattle.op_trees.specs.Names.{offset_of}
use Rattle.choice_laws.proofs.Walks.{any-flat_map, any-filter}
use Rattle.process_core.specs.Instance.{numbered}
use Rattle.jani_tree.specs.Form.{IsGiven, VarRead}
use Rattle.jani_tree.specs.Syntax.{Element as Part}
use Rattle.jani_meaning.specs.Loops.{with_loops}
use Rattle.jani_meaning.specs.LoopLaws.{same_name}
use Rattle.jani_tree.specs.Syntax.{Expression, VarKind, boolean, integer, number, real_bounded, one_sided, bounded, Var, Write, Location, Automaton, File}
use Rattle.basics.specs.Mapped.{any_mapped}
use Rattle.name_rules.proofs.Plain.{no_fault}
use Rattle.jani_check.specs.Things.{Name, is_called, kind_type, const_thing, var_thing, const_called, var_called, global_thing, is_transient}
use Rattle.jani_check.specs.Demands.{var_demands, location_demands, edge_demands}
use Rattle.jani_check.specs.NameFaults.{is_among, var_names, automaton_names, unless_known}
use Rattle.jani_check.specs.TypeFaults.{targets}
use Rattle.jani_check.specs.ProfileFaults.{is_first, first_fault, start_faults, given_by, given_again, given_after}
use Rattle.jani_check.specs.Faults.{IsChecked}
use Rattle.jani_check.proofs.Known.{found}
use Rattle.jani_meaning.specs.Elements as jani
use Rattle.jani_meaning.specs.Elements.{Owned, owned_by, is_boolean, is_label, is_structure, labels, structures, location_number}
use Rattle.prism_translation.specs.Elements.{Element, elements, may_use}
use Rattle.prism_translation.specs.Marks.{Given, given_by as given_values}
use Rattle.prism_translation.specs.Sound.{KnownExpression, AtMostOne, is_some_given, SoundLocations, given_there, HasOneGiver, StartsWithTruth, StartsWithNought, MarksAreSound}
use Rattle.prism_translation.proofs.Lists.{of_front, to_map, of_numbered, any-numbered}
use Rattle.prism_translation.proofs.Distinct.{AreDistinct, not_among, stands_first, found_itself}
use Rattle.prism_translation.proofs.Scopes.{own_vars, const_names}
use Rattle.prism_translation.proofs.Clean.{IsJudged, names_apart_outside, elements_once, starts_outside, given_once}
use Rattle.prism_translation.proofs.Elements.{IsElement, element, elements_are, parts_known, judged_element, is_automaton, called_alike}
use Rattle.prism_translation_laws.proofs.KnownValues.{locations_known}
use Rattle.prism_translation_laws.proofs.Rewards.{one_each, one_write}

-- ---- first values
nought_digits : (d : Decimal) → d.digits ≡ 0 → decimal_value d ≡ nought
unfolding decimal_value
nought_digits d h =
    ap (λ n. times (whole (signed d.negative n)) (ten_to d.exponent)) h
    ∙ by_sign d.negative
    ∙ times_comm nought (ten_to d.exponent)
    ∙ times_nought (ten_to d.exponent)
  where
    by_sign : (b : Bool) → times (whole (signed b 0)) (ten_to d.exponent) ≡ times nought (ten_to d.exponent)
    by_sign true = refl
    by_sign false = refl

-- a variable that begins as it has to
record Begins (x : Var) : Type 0 where
  starts : start_faults x ≡ []
  given : x.transient ≡ true → IsGiven x.start

first_of_transient : (x : Var) → x.transient ≡ true → Begins x → (e : Expression) × (x.start ≡ Some e) × (is_first (kind_type x.kind) e ≡ true)
first_of_transient x t b = by_start x.start refl (b.given t) (sym (ap (λ c. if c then flat_map (first_fault (kind_type x.kind)) (if_some x.start) else []) t) ∙ b.starts)
  where
    by_start : (o : Option Expression) → x.start ≡ o → IsGiven o → flat_map (first_fault (kind_type x.kind)) (if_some o) ≡ [] → (e : Expression) × (x.start ≡ Some e) × (is_first (kind_type x.kind) e ≡ true)
    by_start None q g f = absurd g
    by_start (Some e) q g f =
        (e, q, not-false (is_first (kind_type x.kind) e) (no_fault (not (is_first (kind_type x.kind) e)) (offset_of e) TransientInitial (append_left (first_fault (kind_type x.kind) e) [] f)))

label_first : (o : Owned) (k : VarKind) (e : Expression) → is_boolean k ≡ true → is_first (kind_type k) e ≡ true → o.var.start ≡ Some e → StartsWithTruth o
label_first o boolean (Truth at b) h f q = record { at = at; truth = b; is = q }
label_first o boolean (Number at d) h f q = absurd cc
label_first o boolean (At at x) h f q = absurd cc
label_first o boolean (One at p a) h f q = absurd cc
label_first o boolean (Two at p a b) h f q = absurd cc
label_first o boolean (Three at p a b c) h f q = absurd cc
label_first o integer e h f q = absurd cc
label_first o number e h f q = absurd cc
label_first o real_bounded e h f q = absurd cc
label_first o one_sided e h f q = absurd cc
label_first o (bounded low high) e h f q = absurd cc

int_first : (o : Owned) (e : Expression) → is_first T.Int e ≡ true → o.var.start ≡ Some e → StartsWithNought o
int_first o (Truth at b) f q = absurd cc
int_first o (Number at d) f q = record { at = at; literal = d; nought_is = nought_digits d (eqb-true d.digits 0 f); is = q }
int_first o (At at x) f q = absurd cc
int_first o (One at p a) f q = absurd cc
int_first o (Two at p a b) f q = absurd cc
int_first o (Three at p a b c) f q = absurd cc

real_first : (o : Owned) (e : Expression) → is_first T.Real e ≡ true → o.var.start ≡ Some e → StartsWithNought o
real_first o (Truth at b) f q = absurd cc
real_first o (Number at d) f q = record { at = at; literal = d; nought_is = nought_digits d (eqb-true d.digits 0 f); is = q }
real_first o (At at x) f q = absurd cc
real_first o (One at p a) f q = absurd cc
real_first o (Two at p a b) f q = absurd cc
real_first o (Three at p a b c) f q = absurd cc

reward_first : (o : Owned) (k : VarKind) (e : Expression) → is_boolean k ≡ false → is_first (kind_type k) e ≡ true → o.var.start ≡ Some e → StartsWithNought o
reward_first o boolean e h f q = absurd cc
reward_first o integer e h f q = int_first o e f q
reward_first o number e h f q = real_first o e f q
reward_first o real_bounded e h f q = real_first o e f q
reward_first o one_sided e h f q = int_first o e f q
reward_first o (bounded low high) e h f q = int_first o e f q

-- those that pass a test
of_passing : {A : Type 0} (P : A → Type 0) (test : A → Bool) (xs : List A) → OfAll (λ x. test x ≡ true → P x) xs → OfAll P (filter test xs)
of_passing P test [] p = tt
of_passing P test (x ∷ xs) p = by_test (test x) refl (of_passing P test xs p.1)
  where
    by_test : (b : Bool) → test x ≡ b → OfAll P (filter test xs) → OfAll P (cond b (x ∷ filter test xs) (filter test xs))
    by_test true e q = (p.0 e, q)
    by_test false e q = q

-- ---- what is given once
-- loops give nothing
looped_gives : (xs : List Named) (a : Automaton) → given_by (with_loops xs a) ≡ given_by a
looped_gives [] a = refl
looped_gives (x ∷ xs) a = refl

-- what an element's locations give to a name
gives : (x : Name) (el : Element) → is_some_given (given_values x el) ≡ is_among (given_by el.automaton) x
gives x el =
    some_is (given_values x el)
    ∙ any-numbered (λ (g : Given). true) (λ i (l : Location). map (λ w. record { element = el; location = i; value = w.value }) (filter (λ w. is_called x w.target) l.values))
    (λ l. list_any (λ w. is_called x w.target) l.values)
    (λ i l. any_mapped (λ (w : Write). record { element = el; location = i; value = w.value }) (λ (g : Given). true) (λ w. true) (λ w. refl) (filter (λ w. is_called x w.target) l.values)
    ∙ any-filter (λ w. true) (λ w. is_called x w.target) l.values
    ∙ any_agree (λ w. is_called x w.target && true) (λ w. is_called x w.target) (λ w. and-true (is_called x w.target)) l.values)
    0 el.automaton.locations
    ∙ sym (any-flat_map (is_called x) (λ (l : Location). targets l.values) el.automaton.locations
    ∙ any_agree (λ (l : Location). list_any (is_called x) (targets l.values)) (λ (l : Location). list_any (λ w. is_called x w.target) l.values) (λ l. any_mapped (λ (w : Write). w.target) (is_called x) (λ w. is_called x w.target) (λ w. refl) l.values) el.automaton.locations)
  where
    some_is : (gs : List Given) → is_some_given gs ≡ list_any (λ g. true) gs
    some_is [] = refl
    some_is (g ∷ gs) = refl

module _ (file : File) (x : Name) (transient : is_transient (global_thing file x) ≡ true) where
  not_again : (earlier : Name → Bool) → earlier x ≡ true → (ns : List Named) → OfAll (λ n. given_again (global_thing file) earlier n ≡ []) ns → is_among ns x ≡ false
  not_again earlier e [] h = refl
  not_again earlier e (n ∷ ns) h = by_test (bytes_eq n.name x) refl (not_again earlier e ns h.1)
    where
      by_test : (b : Bool) → bytes_eq n.name x ≡ b → is_among ns x ≡ false → (b || is_among ns x) ≡ false
      by_test false f k = k
      by_test true f k =
          let same = bytes_eq-true n.name x f in
          absurd (both_ways (is_transient (global_thing file n.name) && earlier n.name) (no_fault (is_transient (global_thing file n.name) && earlier n.name) n.at TransientTwoAutomata h.0)
          (ap (λ y. is_transient (global_thing file y) && earlier y) same ∙ and_from _ _ transient e))

  later_gives_none : (earlier : Name → Bool) (as_ : List Automaton) → given_after (global_thing file) earlier as_ ≡ [] → earlier x ≡ true → (n : Name) (b : Automaton) → find (λ c. is_called n c.name) as_ ≡ Some b →
      is_among (given_by b) x ≡ false
  later_gives_none earlier [] h e n b f = absurd cc
  later_gives_none earlier (c ∷ as_) h e n b f = by_test (is_called n c.name) f (later_gives_none (λ y. earlier y || is_among (given_by c) y) as_ (append_right (flat_map (given_again (global_thing file) earlier) (given_by c)) _ h) (or_left (earlier x) (is_among (given_by c) x) e) n b)
    where
      by_test : (t : Bool) → cond t (Some c) (find (λ c. is_called n c.name) as_) ≡ Some b → (find (λ c. is_called n c.name) as_ ≡ Some b → is_among (given_by b) x ≡ false) → is_among (given_by b) x ≡ false
      by_test true g ih =
          ap (λ a. is_among (given_by a) x) (sym (same_Some c b g))
          ∙ not_again earlier e (given_by c) (empty_each (given_again (global_thing file) earlier) (given_by c) (append_left (flat_map (given_again (global_thing file) earlier) (given_by c)) _ h))
      by_test false g ih = ih g

  -- two automata that give it values have one name
  one_gives : (earlier : Name → Bool) (as_ : List Automaton) → given_after (global_thing file) earlier as_ ≡ [] → (n m : Name) (a b : Automaton) → find (λ c. is_called n c.name) as_ ≡ Some a →
      find (λ c. is_called m c.name) as_ ≡ Some b → is_among (given_by a) x ≡ true → is_among (given_by b) x ≡ true → n ≡ m
  one_gives earlier [] h n m a b f g p q = absurd cc
  one_gives earlier (c ∷ as_) h n m a b f g p q =
      let rest = append_right (flat_map (given_again (global_thing file) earlier) (given_by c)) _ h in
      by_tests (is_called n c.name) refl (is_called m c.name) refl f g rest (λ i j. one_gives (λ y. earlier y || is_among (given_by c) y) as_ rest n m a b i j p q)
    where
      seen : Name → Bool
      seen y = earlier y || is_among (given_by c) y

      given_here : (a : Automaton) → c ≡ a → is_among (given_by a) x ≡ true → seen x ≡ true
      given_here a e k = or_right (earlier x) (is_among (given_by c) x) (ap (λ z. is_among (given_by z) x) e ∙ k)

      by_tests : (s : Bool) → is_called n c.name ≡ s → (t : Bool) → is_called m c.name ≡ t → cond s (Some c) (find (λ c. is_called n c.name) as_) ≡ Some a → cond t (Some c) (find (λ c. is_called m c.name) as_) ≡ Some b →
          given_after (global_thing file) (λ y. earlier y || is_among (given_by c) y) as_ ≡ [] →
          (find (λ c. is_called n c.name) as_ ≡ Some a → find (λ c. is_called m c.name) as_ ≡ Some b → n ≡ m) → n ≡ m
      by_tests true u true v i j rest ih = sym (bytes_eq-true c.name.name n u) ∙ bytes_eq-true c.name.name m v
      by_tests true u false v i j rest ih =
          absurd (both_ways (is_among (given_by b) x) (later_gives_none (λ y. earlier y || is_among (given_by c) y) as_ rest (given_here a (same_Some c a i) p) m b j) q)
      by_tests false u true v i j rest ih =
          absurd (both_ways (is_among (given_by a) x) (later_gives_none (λ y. earlier y || is_among (given_by c) y) as_ rest (given_here b (same_Some c b j) q) n a i) p)
      by_tests false u false v i j rest ih = ih i j

module _ (file : File) (c : IsChecked file) where
  -- ---- locations
  number_is : (el : Element) → IsElement file el → (i : ℕ) (l : Location) → slice_get el.automaton.locations i ≡ Some l → location_number el.automaton l.name.name ≡ i
  number_is el is i l e = ap (λ o. unwrap_or o 0) (stands_first (λ (l : Location). l.name) el.automaton.locations (judged_element file c el is).locations i l e)

  location_values : (el : Element) → IsElement file el → OfAll (λ l. OfAll (λ x. KnownExpression file el.number x.value) l.values) el.automaton.locations
  location_values el is =
      let j = judged_element file c el is in
      let a = el.automaton in
      locations_known file el.number j.names a.locations j.form.locations
      (of_front (IsJudged file (own_vars file el.number)) (flat_map location_demands a.locations) (flat_map edge_demands a.edges)
      (each_rest (IsJudged file (own_vars file el.number)) (flat_map var_demands a.variables) (flat_map location_demands a.locations ++ flat_map edge_demands a.edges) j.demands))

  given_one : (l : Location) → AreDistinct (targets l.values) → (x : Name) → AtMostOne (filter (λ y. is_called x y.target) l.values)
  given_one l h x = one_write (λ y. is_called x y.target) l.values (λ y z e f. bytes_eq-true y.target.name x e ∙ sym (bytes_eq-true z.target.name x f)) h

  locations_sound : (el : Element) → IsElement file el → SoundLocations file el
  locations_sound el is = record {
    named = number_is el is;
    known =
        All-from_recursion (λ l. All (λ x. KnownExpression file el.number x.value) l.values) el.automaton.locations
        (each_then (λ l. OfAll (λ x. KnownExpression file el.number x.value) l.values) (λ l. All (λ x. KnownExpression file el.number x.value) l.values)
        (λ l h. All-from_recursion (λ x. KnownExpression file el.number x.value) l.values h) el.automaton.locations (location_values el is));
    once =
        All-from_recursion (λ l. (x : Name) → AtMostOne (filter (λ y. is_called x y.target) l.values)) el.automaton.locations
        (each_then (λ l. AreDistinct (targets l.values)) (λ l. (x : Name) → AtMostOne (filter (λ y. is_called x y.target) l.values)) given_one el.automaton.locations (judged_element file c el is).values);
  }

  -- ---- variables
  -- what a global variable's name stands for
  global_found : (v : Var) → var_called file.variables v.name.name ≡ Some v → is_among (var_names file.variables) v.name.name ≡ true → is_transient (global_thing file v.name.name) ≡ v.transient
  global_found v e there =
      ap₂ (λ a b. is_transient (or_else (option_map const_thing a) (option_map var_thing b)))
      (none_of (const_called file v.name.name)
      (found (λ d. is_called v.name.name d.name) file.constants
      ∙ sym (any_mapped (λ d. d.name) (is_called v.name.name) (λ d. is_called v.name.name d.name) (λ d. refl) file.constants)
      ∙ false_from_ne_true (is_among (const_names file) v.name.name)
      (λ k. both_ways (is_among (var_names file.variables) v.name.name) (not_among (var_names file.variables) (const_names file) (names_apart_outside file c).outside v.name.name k) there)))
      e
      ∙ by_test v.transient
    where
      by_test : (b : Bool) → is_transient (Some (var_thing (record v { transient = b }))) ≡ b
      by_test true = refl
      by_test false = refl

  record FineOwned (o : Owned) : Type 0 where
    begins : Begins o.var
    stands : o.owner ≡ None → is_transient (global_thing file o.var.name.name) ≡ o.var.transient

  vars_begin : (xs : List Var) → OfAll (VarRead HasItems) xs → OfAll (λ x. start_faults x ≡ []) xs → OfAll Begins xs
  vars_begin xs p s = each_with (VarRead HasItems) (λ x. start_faults x ≡ []) Begins (λ x f e. record { starts = e; given = f.begins }) xs p s

  global_stands : OfAll (λ (v : Var). is_transient (global_thing file v.name.name) ≡ v.transient) file.variables
  global_stands =
      each_with (λ (v : Var). var_called file.variables v.name.name ≡ Some v) (λ (v : Var). is_among (var_names file.variables) v.name.name ≡ true) (λ (v : Var). is_transient (global_thing file v.name.name) ≡ v.transient)
      (λ v e t. global_found v e t) file.variables
      (found_itself (λ (v : Var). v.name) file.variables (names_apart_outside file c).globals)
      (each_then (λ (v : Var). var_called file.variables v.name.name ≡ Some v) (λ (v : Var). is_among (var_names file.variables) v.name.name ≡ true)
      (λ v e. any_mapped (λ (u : Var). u.name) (is_called v.name.name) (λ u. is_called v.name.name u.name) (λ u. refl) file.variables ∙ sym (found (λ u. is_called v.name.name u.name) file.variables) ∙ ap is_some e) file.variables
      (found_itself (λ (v : Var). v.name) file.variables (names_apart_outside file c).globals))

  global_fine : OfAll FineOwned (owned_by None file.variables)
  global_fine =
      to_map FineOwned (λ x. record { owner = None; var = x }) file.variables
      (each_with Begins (λ (v : Var). is_transient (global_thing file v.name.name) ≡ v.transient) (λ x. FineOwned (record { owner = None; var = x })) (λ x b e. record { begins = b; stands = λ n. e }) file.variables
      (vars_begin file.variables c.form.variables (starts_outside file c)) global_stands)

  element_fine : (el : Element) → IsElement file el → OfAll FineOwned (owned_by (Some el.number) el.automaton.variables)
  element_fine el is =
      let j = judged_element file c el is in
      to_map FineOwned (λ x. record { owner = Some el.number; var = x }) el.automaton.variables
      (each_then Begins (λ x. FineOwned (record { owner = Some el.number; var = x })) (λ x b. record { begins = b; stands = λ n. absurd cc }) el.automaton.variables
      (vars_begin el.automaton.variables j.form.variables j.starts))

  variables_fine : OfAll FineOwned (jani.variables file)
  variables_fine =
      each_join FineOwned (owned_by None file.variables) (numbered (λ i a. owned_by (Some i) a.variables) 0 (jani.elements file)) global_fine
      (of_numbered (IsElement file) FineOwned (λ i a. record { number = i; automaton = a }) (λ i a. owned_by (Some i) a.variables)
      (λ i a is. element_fine (record { number = i; automaton = a }) is) 0 (jani.elements file) (elements_are file c))

  label_starts : (o : Owned) → FineOwned o → is_label o ≡ true → StartsWithTruth o
  label_starts o f h =
      let both = and_parts o.var.transient (is_boolean o.var.kind) h in
      let e = first_of_transient o.var both.0 f.begins in
      label_first o o.var.kind e.0 both.1 e.2 e.1

  structure_starts : (o : Owned) → FineOwned o → is_structure o ≡ true → StartsWithNought o
  structure_starts o f h =
      let both = and_parts o.var.transient (not (is_boolean o.var.kind)) h in
      let e = first_of_transient o.var both.0 f.begins in
      reward_first o o.var.kind e.0 (not-true (is_boolean o.var.kind) both.1) e.2 e.1

  labels_start : All StartsWithTruth (labels file)
  labels_start =
      All-from_recursion StartsWithTruth (labels file)
      (of_passing StartsWithTruth is_label (jani.variables file) (each_then FineOwned (λ o. is_label o ≡ true → StartsWithTruth o) label_starts (jani.variables file) variables_fine))

  structures_start : All StartsWithNought (structures file)
  structures_start =
      All-from_recursion StartsWithNought (structures file)
      (of_passing StartsWithNought is_structure (jani.variables file) (each_then FineOwned (λ o. is_structure o ≡ true → StartsWithNought o) structure_starts (jani.variables file) variables_fine))

  -- ---- elements have names that differ
  called_name : (el : Element) → (is : IsElement file el) → is.part.name.name ≡ el.automaton.name.name
  called_name el is =
      sym (bytes_eq-true is.own.name.name is.part.name.name (found_passes (λ a. is_called is.part.name.name a.name) file.automata is.own is.found))
      ∙ sym (ap (λ (a : Automaton). a.name.name) is.looped ∙ ap (λ (n : Named). n.name) (same_name is.part.enable is.own))

  abbrev element_name : Element → Named
  element_name el = el.automaton.name

  abbrev IsKnownPart : Part → Type 0
  IsKnownPart e = unless_known (is_among (automaton_names file)) e.name ≡ []

  own_name : (e : Part) → IsKnownPart e → (jani.element_automaton file e).name.name ≡ e.name.name
  own_name e k =
      let a = is_automaton file e.name k in
      ap (λ (n : Named). n.name) (same_name e.enable (jani.automaton_called file e.name))
      ∙ ap (λ (b : Automaton). b.name.name) (called_alike file e.name a.0 a.1) ∙ bytes_eq-true a.0.name.name e.name.name (found_passes (λ a. is_called e.name.name a.name) file.automata a.0 a.1)

  same_names : (k : ℕ) (es : List Part) → OfAll IsKnownPart es → (x : Name) →
      is_among (map element_name (numbered (element file) k (map (jani.element_automaton file) es))) x ≡ is_among (map (λ e. e.name) es) x
  same_names k [] h x = refl
  same_names k (e ∷ es) h x = ap₂ (λ a b. a || b) (ap (λ y. bytes_eq y x) (own_name e h.0)) (same_names (k + 1) es h.1 x)

  names_once : (k : ℕ) (es : List Part) → OfAll IsKnownPart es → AreDistinct (map (λ e. e.name) es) → AreDistinct (map element_name (numbered (element file) k (map (jani.element_automaton file) es)))
  names_once k [] h d = tt
  names_once k (e ∷ es) h d = (
    same_names (k + 1) es h.1 (jani.element_automaton file e).name.name ∙ ap (is_among (map (λ e. e.name) es)) (own_name e h.0) ∙ d.0,
    names_once (k + 1) es h.1 d.1,
  )

  -- ---- one gives
  one_giver : (o : Owned) → FineOwned o → is_structure o ≡ true → HasOneGiver file o
  one_giver o f h =
      one_each element_name (IsElement file) (λ el. is_some_given (given_there file o el)) (elements file) (by_owner o.owner refl) (elements_are file c)
      (names_once 0 file.elements (parts_known file c) (elements_once file c))
    where
      -- loops give nothing, so the automaton gives what the element does
      own_gives : (el : Element) (is : IsElement file el) → is_among (given_by is.own) o.var.name.name ≡ is_some_given (given_values o.var.name.name el)
      own_gives el is =
          ap (λ gs. is_among gs o.var.name.name) (sym (ap given_by is.looped ∙ looped_gives is.part.enable is.own)) ∙ sym (gives o.var.name.name el)

      within : (b : Bool) (gs : List Given) → is_some_given (if b then gs else []) ≡ true → (b ≡ true) × (is_some_given gs ≡ true)
      within true gs e = (refl, e)
      within false gs e = absurd cc

      by_owner : (w : Option ℕ) → o.owner ≡ w → (a b : Element) → IsElement file a → IsElement file b → is_some_given (given_there file o a) ≡ true → is_some_given (given_there file o b) ≡ true →
          a.automaton.name.name ≡ b.automaton.name.name
      by_owner None e a b p q u v =
          let here = within (may_use a.number o.owner) (given_values o.var.name.name a) u in
          let there = within (may_use b.number o.owner) (given_values o.var.name.name b) v in
          sym (called_name a p)
          ∙ one_gives file o.var.name.name (f.stands e ∙ (and_parts o.var.transient (not (is_boolean o.var.kind)) h).0) (λ x. false) file.automata (given_once file c) p.part.name.name q.part.name.name p.own q.own
          p.found q.found (own_gives a p ∙ here.1) (own_gives b q ∙ there.1)
          ∙ called_name b q
      by_owner (Some k) e a b p q u v =
          let here = within (may_use a.number o.owner) (given_values o.var.name.name a) u in
          let there = within (may_use b.number o.owner) (given_values o.var.name.name b) v in
          let left = eqb-true a.number k (sym (ap (may_use a.number) e) ∙ here.0) in
          let right = eqb-true b.number k (sym (ap (may_use b.number) e) ∙ there.0) in
          sym (called_name a p)
          ∙ ap (λ (e : Part). e.name.name) (same_Some p.part q.part (sym p.stands ∙ ap (slice_get file.elements) (left ∙ sym right) ∙ q.stands))
          ∙ called_name b q

  one_givers : All (HasOneGiver file) (structures file)
  one_givers =
      All-from_recursion (HasOneGiver file) (structures file)
      (of_passing (HasOneGiver file) is_structure (jani.variables file) (each_then FineOwned (λ o. is_structure o ≡ true → HasOneGiver file o) one_giver (jani.variables file) variables_fine))

  pub marks_are_sound : MarksAreSound file
  marks_are_sound = record {
    locations = All-from_recursion (SoundLocations file) (elements file) (each_then (IsElement file) (SoundLocations file) locations_sound (elements file) (elements_are file c));
    truths = labels_start;
    noughts = structures_start;
    one_giver = one_givers;
  }
