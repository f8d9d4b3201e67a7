-- Guards that would be too long: an element has one edge more with an action that it accepts everywhere, at each location, than its automaton
-- has, since names stand once in a file without faults.
use Rattle.std.specs.Prelude.{◌≡◌, ℕ, suc, ◌+◌, ◌<◌, ◌≤◌, List, [], ◌∷◌, ◌++◌, map, length, get_or, drop, Bool, true, false, ◌||◌, ◌&&◌, cond, Option, Some, None, nat_lt, unwrap_or}
use Rattle.std.specs.Borrow.{Bor}
use Rattle.std.specs.List.{filter, find, flat_map, list_any, AllByRecursion as OfAll}
use Rattle.std.specs.Option.{option_map}
use Rattle.std.proofs.Common.{refl, sym, ap, ap₂, subst, ◌∙◌, arith, length-append, map-id}
use Rattle.std.proofs.lemmas.Bool.{or_parts}
use Rattle.std.proofs.lemmas.List.{length-map, at_drop_all}
use Rattle.std.proofs.lemmas.List.Elements.{filter-append}
use Rattle.basics.specs.Each.{each_then, each_with, empty_each, map_each, none_each}
use Rattle.basics.specs.Lists.{append_parts, drop_item}
use Rattle.basics.specs.Members.{any_never}
use Rattle.basics.specs.Mapped.{any_mapped}
use Rattle.basics.specs.Texts.{bytes_eq-self, bytes_eq-true, bytes_eq_comm}
use Rattle.bridge_io.specs.declared.reason.Named.{Named}
use Rattle.bridge_io.specs.declared.reason.Reason.TheVariants.{TwiceNamed}
use Rattle.op_trees.specs.Names.{is_called}
use Rattle.process_core.specs.Ready.{Name}
use Rattle.name_rules.specs.declared.map.NameMap.{NameMap}
use Rattle.name_rules.specs.Names.{is_among, under}
use Rattle.jani_tree.specs.declared.syntax.JaniAutomaton.{JaniAutomaton}
use Rattle.jani_tree.specs.declared.syntax.JaniEdge.{JaniEdge}
use Rattle.jani_tree.specs.declared.syntax.JaniLocation.{JaniLocation}
use Rattle.jani_tree.specs.Syntax.{Automaton, Edge, Element, File, Location, automaton_of, location_of}
use Rattle.jani_check.specs.NameFaults.{automaton_names, doubled, doubled_after, doubled_in, doubled_names, global_names, location_names, name_faults, repeated_enabled, var_names}
use Rattle.jani_meaning.specs.Elements.{element_automaton, nothing_called}
use Rattle.jani_meaning.specs.Loops.{has_name, is_with, loop_at, loops, with_loops}
use Rattle.jani_loops.specs.Looped.{lent_edge}
use Rattle.jani_loops.proofs.Made.{chosen_twice}
use Rattle.prism_translation.specs.Refused.{has_crowd, has_long_guard, is_crowded_at}
use Rattle.prism_translation.proofs.Distinct.{AreDistinct, called, distinct_names, names}
use Rattle.edge_tables.specs.Counts.{edges_at}
use Rattle.prism_targets.specs.Crowds.{crowded_by, has_many, has_many_edges}

-- ---- whether some member passes a test, told of those that are left
pub any_later : {A : Type 0} (f : A → Bool) (total : Bool) (xs : List A) (i : ℕ) (x : A) → i < length xs → x ≡ get_or xs i x → list_any f (drop i xs) ≡ total → f x ≡ false →
    list_any f (drop (i + 1) xs) ≡ total
any_later f total xs i x h e so_far not_it = sym (ap (λ b. b || list_any f (drop (i + 1) xs)) not_it) ∙ sym (ap (list_any f) (drop_item xs i x h e)) ∙ so_far

pub any_here : {A : Type 0} (f : A → Bool) (total : Bool) (xs : List A) (i : ℕ) (x : A) → i < length xs → x ≡ get_or xs i x → list_any f (drop i xs) ≡ total → f x ≡ true → true ≡ total
any_here f total xs i x h e so_far it = sym (ap (λ b. b || list_any f (drop (i + 1) xs)) it) ∙ sym (ap (list_any f) (drop_item xs i x h e)) ∙ so_far

pub any_nowhere : {A : Type 0} (f : A → Bool) (total : Bool) (xs : List A) (i : ℕ) → length xs ≤ i → list_any f (drop i xs) ≡ total → false ≡ total
any_nowhere f total xs i h so_far = sym (at_drop_all (list_any f) xs i h) ∙ so_far

any_each : {A : Type 0} (f g : A → Bool) (xs : List A) → OfAll (λ x. f x ≡ g x) xs → list_any f xs ≡ list_any g xs
any_each f g [] h = refl
any_each f g (x ∷ xs) h = ap₂ (λ b c. b || c) h.0 (any_each f g xs h.1)

-- ---- the edges of one location
pub same_counts : (es : List Edge) (ls : List JaniLocation) (t : Name → List (Bor JaniEdge)) → ((n : Name) → map lent_edge (t n) ≡ filter (λ e. is_called n e.location) es) →
    list_any (λ l. nat_lt 1023 (length (t l.name.name))) ls ≡ list_any (λ l. nat_lt 1023 (length (edges_at l es))) (map location_of ls)
same_counts es [] t h = refl
same_counts es (l ∷ ls) t h =
    ap₂ (λ b c. b || c) (ap (nat_lt 1023) (sym (length-map (t l.name.name) lent_edge) ∙ ap length (h l.name.name))) (same_counts es ls t h)

-- where none of them stands with so many, no location has so many
first_kept : {A : Type 0} (p q : A → Bool) (x : A) (xs ys : List A) → list_any q xs ≡ false → filter p xs ≡ x ∷ ys → (p x ≡ true) × (q x ≡ false)
first_kept p q x [] ys h e = absurd cc
first_kept p q x (z ∷ zs) ys h e = let both = or_parts (q z) (list_any q zs) h in by_test (p z) refl e both.0 (first_kept p q x zs ys both.1)
  where
    by_test : (b : Bool) → p z ≡ b → cond b (z ∷ filter p zs) (filter p zs) ≡ x ∷ ys → q z ≡ false → (filter p zs ≡ x ∷ ys → (p x ≡ true) × (q x ≡ false)) → (p x ≡ true) × (q x ≡ false)
    by_test true k e f rest = let same : z ≡ x = cc in subst (λ y. (p y ≡ true) × (q y ≡ false)) same (k, f)
    by_test false k e f rest = rest e

pub none_together : (es : List (Bor JaniEdge)) (ls : List JaniLocation) (t : Name → List (Bor JaniEdge)) → ((n : Name) → map lent_edge (t n) ≡ filter (λ e. is_called n e.location) (map lent_edge es)) →
    list_any (λ e. nat_lt 1023 (length (t e.now.location.name))) es ≡ false → list_any (λ l. nat_lt 1023 (length (t l.name.name))) ls ≡ false
none_together es [] t h none = refl
none_together es (l ∷ ls) t h none =
    ap₂ (λ b c. b || c)
    (ap (nat_lt 1023) (sym (length-map (t l.name.name) lent_edge) ∙ ap length (h l.name.name)) ∙ by_list (filter (λ e. is_called l.name.name e.location) (map lent_edge es)) refl)
    (none_together es ls t h none)
  where
    crowd : Edge → Bool
    crowd e = nat_lt 1023 (length (t e.location.name))

    by_list : (fs : List Edge) → filter (λ e. is_called l.name.name e.location) (map lent_edge es) ≡ fs → nat_lt 1023 (length fs) ≡ false
    by_list [] e = refl
    by_list (f ∷ fs) e =
        let it = first_kept (λ e. is_called l.name.name e.location) crowd f (map lent_edge es) fs (any_mapped lent_edge crowd (λ e. nat_lt 1023 (length (t e.now.location.name))) (λ e. refl) es ∙ none) e in
        ap (nat_lt 1023)
        (ap length (sym e) ∙ sym (ap length (h l.name.name)) ∙ length-map (t l.name.name) lent_edge ∙ ap (λ n. length (t n)) (sym (bytes_eq-true f.location.name l.name.name it.0)))
        ∙ it.1

pub together_first : (a b : Bool) → (a ≡ false → b ≡ false) → (a && b) ≡ b
together_first true b h = refl
together_first false b h = sym (h refl)

-- no more pass a test than there are
kept_few : {A : Type 0} (p : A → Bool) (xs : List A) → length (filter p xs) ≤ length xs
kept_few p [] = omega arith
kept_few p (x ∷ xs) = by_test (p x) (kept_few p xs)
  where
    by_test : (b : Bool) → length (filter p xs) ≤ length xs → length (cond b (x ∷ filter p xs) (filter p xs)) ≤ length (x ∷ xs)
    by_test true h = omega (arith, h)
    by_test false h = omega (arith, h)

pub few_edges : (es : List Edge) (ls : List Location) → length es < 1024 → list_any (λ l. nat_lt 1023 (length (edges_at l es))) ls ≡ false
few_edges es [] h = refl
few_edges es (l ∷ ls) h =
    ap₂ (λ b c. b || c) (few (length (edges_at l es)) (let k = kept_few (λ e. is_called l.name.name e.location) es in omega (arith, k, h))) (few_edges es ls h)
  where
    few : (n : ℕ) → n < 1024 → nat_lt 1023 n ≡ false
    few n k = grind arith

-- ---- what stands once
module _ {A : Type 0} (name : A → Named) where
  none_called : (x : Name) (xs : List A) → is_among (names name xs) x ≡ false → filter (called name x) xs ≡ []
  none_called x [] h = refl
  none_called x (y ∷ ys) h =
      let both = or_parts (is_called x (name y)) (is_among (names name ys) x) h in
      ap (λ b. cond b (y ∷ filter (called name x) ys) (filter (called name x) ys)) both.0 ∙ none_called x ys both.1

  counted_once : (xs : List A) → AreDistinct (names name xs) → OfAll (λ x. length (filter (called name (name x).name) xs) ≡ 1) xs
  counted_once [] h = tt
  counted_once (y ∷ ys) h = (
    ap (λ b. length (cond b (y ∷ filter (called name (name y).name) ys) (filter (called name (name y).name) ys))) (bytes_eq-self (name y).name)
        ∙ ap (λ l. suc (length l)) (none_called (name y).name ys h.0),
    each_with (λ x. is_called (name y).name (name x) ≡ false) (λ x. length (filter (called name (name x).name) ys) ≡ 1) (λ x. length (filter (called name (name x).name) (y ∷ ys)) ≡ 1)
        (λ x d e. ap (λ b. length (cond b (y ∷ filter (called name (name x).name) ys) (filter (called name (name x).name) ys))) (bytes_eq_comm (name y).name (name x).name ∙ d) ∙ e)
        ys (map_each (λ n. is_called (name y).name n ≡ false) name ys (none_each (is_called (name y).name) (names name ys) h.0)) (counted_once ys h.1),
  )

-- ---- an automaton and its loops
module _ (a : Automaton) where
  -- the loops with one action that stand at one location
  loops_with : (n y : Name) (x : Named) (b : Bool) → is_called n x ≡ b → (ls : List Location) →
      length (filter (is_with n y) (map (loop_at a x) ls)) ≡ cond b (length (filter (λ l. is_called y l.name) ls)) 0
  loops_with n y x true h [] = refl
  loops_with n y x false h [] = refl
  loops_with n y x true h (l ∷ ls) =
      ap (λ c. length (cond (c && is_called y l.name) (loop_at a x l ∷ filter (is_with n y) (map (loop_at a x) ls)) (filter (is_with n y) (map (loop_at a x) ls)))) h
      ∙ by_test (is_called y l.name) (loops_with n y x true h ls)
    where
      by_test : (c : Bool) → length (filter (is_with n y) (map (loop_at a x) ls)) ≡ length (filter (λ l. is_called y l.name) ls) →
          length (cond c (loop_at a x l ∷ filter (is_with n y) (map (loop_at a x) ls)) (filter (is_with n y) (map (loop_at a x) ls)))
          ≡ length (cond c (l ∷ filter (λ l. is_called y l.name) ls) (filter (λ l. is_called y l.name) ls))
      by_test true e = ap suc e
      by_test false e = e
  loops_with n y x false h (l ∷ ls) =
      ap (λ c. length (cond (c && is_called y l.name) (loop_at a x l ∷ filter (is_with n y) (map (loop_at a x) ls)) (filter (is_with n y) (map (loop_at a x) ls)))) h
      ∙ loops_with n y x false h ls

  loops_at : (n y : Name) → length (filter (λ l. is_called y l.name) a.locations) ≡ 1 → (xs : List Named) → length (filter (is_with n y) (loops xs a)) ≡ length (filter (is_called n) xs)
  loops_at n y once [] = refl
  loops_at n y once (x ∷ xs) =
      ap length (filter-append (is_with n y) (map (loop_at a x) a.locations) (loops xs a))
      ∙ length-append (filter (is_with n y) (map (loop_at a x) a.locations)) (filter (is_with n y) (loops xs a))
      ∙ ap₂ (λ j k. j + k) (loops_with n y x (is_called n x) refl a.locations ∙ ap (λ k. cond (is_called n x) k 0) once) (loops_at n y once xs)
      ∙ by_test (is_called n x)
    where
      by_test : (b : Bool) → cond b 1 0 + length (filter (is_called n) xs) ≡ length (cond b (x ∷ filter (is_called n) xs) (filter (is_called n) xs))
      by_test true = omega arith
      by_test false = omega arith

  one_more : (n y : Name) (xs : List Named) → length (filter (is_called n) xs) ≡ 1 → length (filter (λ l. is_called y l.name) a.locations) ≡ 1 →
      nat_lt 1024 (length (filter (is_with n y) (a.edges ++ loops xs a))) ≡ nat_lt 1023 (length (filter (is_with n y) a.edges))
  one_more n y xs once there =
      ap (nat_lt 1024)
      (ap length (filter-append (is_with n y) a.edges (loops xs a))
      ∙ length-append (filter (is_with n y) a.edges) (filter (is_with n y) (loops xs a))
      ∙ ap (λ k. length (filter (is_with n y) a.edges) + k) (loops_at n y there xs ∙ once))
      ∙ above (length (filter (is_with n y) a.edges))
    where
      above : (k : ℕ) → nat_lt 1024 (k + 1) ≡ nat_lt 1023 k
      above k = grind arith

  pub crowd_is : (xs : List Named) → AreDistinct xs → AreDistinct (location_names a) → has_crowd xs (with_loops xs a) ≡ has_many_edges xs a
  crowd_is [] h k = refl
  crowd_is (z ∷ zs) h k =
      let xs = z ∷ zs in
      any_each (λ x. list_any (is_crowded_at (with_loops xs a) x) a.locations)
      (λ x. list_any (λ l. nat_lt 1023 (length (edges_at l (filter (λ e. has_name x.name e.action) a.edges)))) a.locations) xs
      (each_then (λ x. length (filter (is_called x.name) xs) ≡ 1)
      (λ x. list_any (is_crowded_at (with_loops xs a) x) a.locations ≡ list_any (λ l. nat_lt 1023 (length (edges_at l (filter (λ e. has_name x.name e.action) a.edges)))) a.locations)
      (λ x once.
      any_each (is_crowded_at (with_loops xs a) x) (λ l. nat_lt 1023 (length (edges_at l (filter (λ e. has_name x.name e.action) a.edges)))) a.locations
      (each_then (λ l. length (filter (λ m. is_called l.name.name m.name) a.locations) ≡ 1)
      (λ l. is_crowded_at (with_loops xs a) x l ≡ nat_lt 1023 (length (edges_at l (filter (λ e. has_name x.name e.action) a.edges))))
      (λ l there. one_more x.name l.name.name xs once there ∙ ap (λ es. nat_lt 1023 (length es)) (sym (chosen_twice x.name l.name.name a.edges)))
      a.locations (counted_once (λ l. l.name) a.locations k)))
      xs (counted_once (λ n. n) xs (subst AreDistinct (sym (map-id xs)) h)))

-- ---- elements by a table of the automata of a file
found_of : {A : Type 0} (P : A → Type 0) (p : A → Bool) (x : A) (xs : List A) → OfAll P xs → find p xs ≡ Some x → P x
found_of P p x [] h e = absurd cc
found_of P p x (y ∷ ys) h e = by_test (p y) e (found_of P p x ys h.1)
  where
    by_test : (b : Bool) → cond b (Some y) (find p ys) ≡ Some x → (find p ys ≡ Some x → P x) → P x
    by_test true e rest = let same : y ≡ x = cc in subst P same h.0
    by_test false e rest = rest e

module _ (file : File) (none : name_faults file ≡ []) (t : NameMap (Bor JaniAutomaton)) (is : (x : Name) → option_map (λ a. automaton_of a.now) (under t x) ≡ find (λ a. is_called x a.name) file.automata) where
  lists : (flat_map (doubled_in (global_names file)) file.automata ≡ []) × (flat_map repeated_enabled file.elements ≡ [])
  lists =
      append_parts (flat_map (doubled_in (global_names file)) file.automata) (flat_map repeated_enabled file.elements)
      (append_parts (doubled TwiceNamed (automaton_names file)) _
      (append_parts (doubled TwiceNamed file.actions) _ (append_parts (doubled TwiceNamed (global_names file)) _ (append_parts (doubled_names file) _ none).0).1).1).1

  placed_once : OfAll (λ a. AreDistinct (location_names a)) file.automata
  placed_once =
      each_then (λ a. doubled_in (global_names file) a ≡ []) (λ a. AreDistinct (location_names a))
      (λ a h. distinct_names TwiceNamed (location_names a) (append_parts (doubled TwiceNamed (location_names a)) _ (append_parts (doubled_after TwiceNamed (global_names file) (var_names a.variables)) _ h).1).0)
      file.automata (empty_each (doubled_in (global_names file)) file.automata lists.0)

  by_automaton : (e : Element) → AreDistinct e.enable → (o : Option (Bor JaniAutomaton)) → option_map (λ a. automaton_of a.now) o ≡ find (λ a. is_called e.name.name a.name) file.automata →
      has_crowd e.enable (with_loops e.enable (unwrap_or (option_map (λ a. automaton_of a.now) o) (nothing_called e.name))) ≡ has_many e.enable o
  by_automaton e once None h = crowd_is (nothing_called e.name) e.enable once tt ∙ any_never e.enable
  by_automaton e once (Some a) h =
      crowd_is (automaton_of a.now) e.enable once
      (found_of (λ a. AreDistinct (location_names a)) (λ a. is_called e.name.name a.name) (automaton_of a.now) file.automata placed_once (sym h))

  pub long_guard_is : has_long_guard file ≡ list_any (crowded_by t) file.elements
  long_guard_is =
      any_each (λ e. has_crowd e.enable (element_automaton file e)) (crowded_by t) file.elements
      (each_then (λ e. repeated_enabled e ≡ []) (λ e. has_crowd e.enable (element_automaton file e) ≡ crowded_by t e)
      (λ e h.
      ap (λ o. has_crowd e.enable (with_loops e.enable (unwrap_or o (nothing_called e.name)))) (sym (is e.name.name))
      ∙ by_automaton e (distinct_names TwiceNamed e.enable h) (under t e.name.name) (is e.name.name))
      file.elements (empty_each repeated_enabled file.elements lists.1))
