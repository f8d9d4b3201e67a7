-- The locations of an element of a file without fault: each has a name of its own, so its number is its place.
use Rattle.std.specs.Prelude.{◌≡◌, ℕ, zero, suc, ◌+◌, List, [], ◌∷◌, ◌++◌, map, Bool, true, false, cond, Some, bytes_eq, nat_eq, slice_get, unwrap_or, if◌then◌else◌}
use Rattle.std.specs.List.{find, flat_map, position}
use Rattle.std.specs.Option.{option_map}
use Rattle.std.proofs.Common.{refl, sym, ap, subst, ◌∙◌, arith, tests}
use Rattle.std.proofs.lemmas.Option.{slice_get-map}
use Rattle.std.proofs.lemmas.Slice.Eq.{bytes_eq-Decides}
use Rattle.basics.specs.Lists.{append_parts}
use Rattle.basics.specs.Members.{position_cons}
use Rattle.bridge_io.specs.declared.reason.Named.{Named}
use Rattle.bridge_io.specs.declared.reason.Reason.{Reason}
use Rattle.bridge_io.specs.declared.reason.Reason.TheVariants.{TwiceNamed}
use Rattle.name_rules.specs.Doubled.{clash, doubled, doubled_after}
use Rattle.instance_start.specs.Firsts.{none_if}
use Rattle.jani_tree.specs.Syntax.{Automaton, File, Location, Element}
use Rattle.name_rules.specs.Least.{or_else}
use Rattle.jani_check.specs.Faults.{IsChecked}
use Rattle.jani_check.specs.NameFaults.{automaton_names, circles, composition_faults, doubled_in, doubled_names, global_names, location_names, name_faults, repeated_enabled, unknown_names, var_names}
use Rattle.jani_check.specs.TypeFaults.{type_faults}
use Rattle.jani_check.specs.ProfileFaults.{profile_faults}
use Rattle.bridge_io.specs.declared.reason.Fault.{Fault}
use Rattle.op_trees.specs.Names.{is_called}
use Rattle.jani_meaning.specs.LoopLaws.{same_locations}
use Rattle.jani_meaning.specs.Elements.{automaton_called, element_automaton, elements, location_number, nothing_called}
use Rattle.jani_instance.specs.Built.{location_from}

-- ---- names of which none stands twice
no_clash : (r : Reason) (n m : Named) (earlier : List Named) (i : ℕ) → slice_get earlier i ≡ Some m → flat_map (clash r n) earlier ≡ [] → bytes_eq m.name n.name ≡ false
no_clash r n m [] i p h = absurd cc
no_clash r n m (k ∷ ks) zero p h =
    let q : k ≡ m = cc in
    subst (λ z. bytes_eq z.name n.name ≡ false) q (none_if (bytes_eq k.name n.name) _ (append_parts (clash r n k) (flat_map (clash r n) ks) h).0)
no_clash r n m (k ∷ ks) (suc i) p h = no_clash r n m ks i p (append_parts (clash r n k) (flat_map (clash r n) ks) h).1

not_later : (r : Reason) (m : Named) (earlier ns : List Named) (i j : ℕ) (l : Named) → slice_get earlier i ≡ Some m → doubled_after r earlier ns ≡ [] → slice_get ns j ≡ Some l → bytes_eq m.name l.name ≡ false
not_later r m earlier [] i j l p h e = absurd cc
not_later r m earlier (n ∷ ns) i zero l p h e =
    let q : n ≡ l = cc in
    subst (λ z. bytes_eq m.name z.name ≡ false) q (no_clash r n m earlier i p (append_parts (flat_map (clash r n) earlier) (doubled_after r (n ∷ earlier) ns) h).0)
not_later r m earlier (n ∷ ns) i (suc j) l p h e = not_later r m (n ∷ earlier) ns (suc i) j l p (append_parts (flat_map (clash r n) earlier) (doubled_after r (n ∷ earlier) ns) h).1 e

-- ---- numbers of locations
place_is : (r : Reason) (earlier : List Named) (ls : List Location) (k : ℕ) (l : Location) → doubled_after r earlier (map (λ m. m.name) ls) ≡ [] → slice_get ls k ≡ Some l →
    position (λ m. is_called l.name.name m.name) ls ≡ Some k
place_is r earlier [] k l h e = absurd cc
place_is r earlier (m ∷ ls) zero l h e =
    let q : l ≡ m = cc in
    position_cons (λ m. is_called l.name.name m.name) m ls
    ∙ ap (λ b. cond b (Some 0) (option_map suc (position (λ m. is_called l.name.name m.name) ls))) ((bytes_eq-Decides m.name.name l.name.name).1 (ap (λ z. z.name.name) (sym q)))
place_is r earlier (m ∷ ls) (suc k) l h e =
    let rest = (append_parts (flat_map (clash r m.name) earlier) (doubled_after r (m.name ∷ earlier) (map (λ n. n.name) ls)) h).1 in
    position_cons (λ m. is_called l.name.name m.name) m ls
    ∙ ap (λ b. cond b (Some 0) (option_map suc (position (λ m. is_called l.name.name m.name) ls)))
    (not_later r m.name (m.name ∷ earlier) (map (λ n. n.name) ls) 0 k l.name refl rest (slice_get-map (λ n. n.name) ls k ∙ ap (option_map (λ n. n.name)) e))
    ∙ ap (option_map suc) (place_is r (m.name ∷ earlier) ls k l rest e)

found : {X : Type 0} (f : X → ℕ) (i m : ℕ) (xs : List X) (n : ℕ) → m ≡ i + n → ((k : ℕ) (x : X) → slice_get xs k ≡ Some x → f x ≡ i + k) → find (λ x. nat_eq (f x) m) xs ≡ slice_get xs n
found f i m [] n e h = refl
found f i m (x ∷ xs) zero e h = by_test (nat_eq (f x) m) (let p = h 0 x refl in let q : f x ≡ m = omega (arith, p, e) in grind (arith, tests, q))
  where
    by_test : (b : Bool) → b ≡ true → (if b then Some x else find (λ y. nat_eq (f y) m) xs) ≡ Some x
    by_test true t = refl
    by_test false t = absurd cc
found f i m (x ∷ xs) (suc n) e h =
    by_test (nat_eq (f x) m) (let p = h 0 x refl in let q : f x ≡ i = omega (arith, p) in by_number (f x) m (omega (arith, q, e)))
    (found f (i + 1) m xs n (let d : m ≡ i + 1 + n = omega (arith, e) in d) (λ k y p. h (suc k) y p ∙ (let d : i + suc k ≡ i + 1 + k = omega arith in d)))
  where
    by_number : (a b : ℕ) → a + suc n ≡ b → nat_eq a b ≡ false
    by_number a b q = by_bool (nat_eq a b) refl
      where
        by_bool : (t : Bool) → nat_eq a b ≡ t → t ≡ false
        by_bool true w = absurd (let same : a ≡ b = grind (arith, tests, w) in omega (arith, q, same))
        by_bool false w = refl

    by_test : (b : Bool) → b ≡ false → find (λ y. nat_eq (f y) m) xs ≡ slice_get xs n → (if b then Some x else find (λ y. nat_eq (f y) m) xs) ≡ slice_get xs n
    by_test true t r = absurd cc
    by_test false t r = r

pub location_is : (a : Automaton) → doubled TwiceNamed (location_names a) ≡ [] → (n : ℕ) → location_from a n ≡ slice_get a.locations n
location_is a h n =
    found (λ (l : Location). location_number a l.name.name) 0 n a.locations n (let d : n ≡ 0 + n = omega arith in d)
    (λ k l e. ap (λ o. unwrap_or o 0) (place_is TwiceNamed [] a.locations k l h e) ∙ (let d : k ≡ 0 + k = omega arith in d))

-- ---- elements
single : (global : List Named) (p : Automaton → Bool) (as_ : List Automaton) (n : Named) → flat_map (doubled_in global) as_ ≡ [] → doubled TwiceNamed (location_names (unwrap_or (find p as_) (nothing_called n))) ≡ []
single global p [] n h = refl
single global p (a ∷ as_) n h =
    let parts = append_parts (doubled_in global a) (flat_map (doubled_in global) as_) h in
    let own = append_parts (doubled_after TwiceNamed global (var_names a.variables)) (doubled TwiceNamed (location_names a) ++ doubled TwiceNamed a.initial) parts.0 in
    by_test (p a) (append_parts (doubled TwiceNamed (location_names a)) (doubled TwiceNamed a.initial) own.1).0 (single global p as_ n parts.1)
  where
    by_test : (b : Bool) → doubled TwiceNamed (location_names a) ≡ [] → doubled TwiceNamed (location_names (unwrap_or (find p as_) (nothing_called n))) ≡ [] →
        doubled TwiceNamed (location_names (unwrap_or (if b then Some a else find p as_) (nothing_called n))) ≡ []
    by_test true x y = x
    by_test false x y = y

first_none : (a b : List Fault) → or_else a b ≡ [] → a ≡ []
first_none [] b h = refl
first_none (f ∷ fs) b h = absurd cc

each : (file : File) (es : List Element) → flat_map (doubled_in (global_names file)) file.automata ≡ [] → (i : ℕ) (a : Automaton) → slice_get (map (element_automaton file) es) i ≡ Some a → doubled TwiceNamed (location_names a) ≡ []
each file [] h i a e = absurd cc
each file (x ∷ es) h zero a e = let q : element_automaton file x ≡ a = cc in
    subst (λ z. doubled TwiceNamed (location_names z) ≡ []) q
    (ap (λ ls. doubled TwiceNamed (map (λ l. l.name) ls)) (same_locations x.enable (automaton_called file x.name)) ∙ single (global_names file) (λ b. is_called x.name.name b.name) file.automata x.name h)
each file (x ∷ es) h (suc i) a e = each file es h i a e

pub distinct : (file : File) → IsChecked file → (i : ℕ) (a : Automaton) → slice_get (elements file) i ≡ Some a → doubled TwiceNamed (location_names a) ≡ []
distinct file checked =
    let names = first_none (name_faults file) (or_else (type_faults file) (profile_faults file)) checked.clean in
    let twice = (append_parts (doubled_names file) (unknown_names file ++ (circles file ++ composition_faults file)) names).0 in
    let inside = flat_map (doubled_in (global_names file)) file.automata in
    let rest = inside ++ flat_map repeated_enabled file.elements in
    let one = append_parts (doubled TwiceNamed (global_names file)) (doubled TwiceNamed file.actions ++ (doubled TwiceNamed (automaton_names file) ++ rest)) twice in
    let two = append_parts (doubled TwiceNamed file.actions) (doubled TwiceNamed (automaton_names file) ++ rest) one.1 in
    let three = append_parts (doubled TwiceNamed (automaton_names file)) rest two.1 in
    each file file.elements (append_parts inside (flat_map repeated_enabled file.elements) three.1).0
