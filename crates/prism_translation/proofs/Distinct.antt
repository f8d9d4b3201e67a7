-- Names that are declared once.
use Rattle.std.specs.Prelude.{◌≡◌, ℕ, zero, suc, List, [], ◌∷◌, ◌++◌, map, Bool, true, false, ◌&&◌, ◌||◌, cond, max, Option, Some, None, bytes_eq, slice_get}
use Rattle.std.specs.List.{find, flat_map, list_any, position, AllByRecursion as OfAll}
use Rattle.std.specs.Option.{option_map}
use Rattle.std.proofs.Common.{refl, sym, ap, ◌∙◌}
use Rattle.std.proofs.lemmas.Bool.{or_parts, or_from, both_ways, or_left, or_right, and_right}
use Rattle.std.proofs.lemmas.Option.{same_Some}
use Rattle.std.proofs.lemmas.List.Folds.{list_any-append}
use Rattle.std.proofs.Math.Bool.{and-true, and-false, or-false}
use Rattle.basics.specs.Texts.{bytes_eq-true, bytes_eq-self, bytes_eq_comm}
use Rattle.basics.specs.Each.{each_then, each_with, map_each, none_each, each_none}
use Rattle.basics.specs.Lists.{append_right, append_left}
use Rattle.bridge_io.specs.declared.reason.Named.{Named}
use Rattle.bridge_io.specs.declared.reason.Reason.{Reason}
use Rattle.name_rules.proofs.Plain.{no_fault}
use Rattle.jani_check.specs.Things.{Name, is_called}
use Rattle.jani_check.specs.NameFaults.{is_among, clash, doubled_after, doubled}
use Rattle.prism_translation.proofs.Lists.{place_zero, place_next}

-- ---- each name once
-- no name comes again
abbrev pub AreDistinct : List Named → Type 0
AreDistinct [] = Unit {0}
AreDistinct (n ∷ ns) = (is_among ns n.name ≡ false) × AreDistinct ns

-- nor stands in another list
abbrev pub AreNew : List Named → List Named → Type 0
AreNew earlier ns = OfAll (λ n. is_among earlier n.name ≡ false) ns

clash_none : (r : Reason) (n : Named) (earlier : List Named) → flat_map (clash r n) earlier ≡ [] → is_among earlier n.name ≡ false
clash_none r n [] e = refl
clash_none r n (m ∷ ms) e =
    or_from (bytes_eq m.name n.name) (is_among ms n.name)
    (no_fault (bytes_eq m.name n.name) (max m.at n.at) r (append_left (clash r n m) (flat_map (clash r n) ms) e))
    (clash_none r n ms (append_right (clash r n m) (flat_map (clash r n) ms) e))

pub once_each : (r : Reason) (earlier ns : List Named) → doubled_after r earlier ns ≡ [] → AreNew earlier ns × AreDistinct ns
once_each r earlier [] e = (tt, tt)
once_each r earlier (n ∷ ns) e =
    let rest = once_each r (n ∷ earlier) ns (append_right (flat_map (clash r n) earlier) (doubled_after r (n ∷ earlier) ns) e) in (
      (
        clash_none r n earlier (append_left (flat_map (clash r n) earlier) (doubled_after r (n ∷ earlier) ns) e),
        each_then (λ m. is_among (n ∷ earlier) m.name ≡ false) (λ m. is_among earlier m.name ≡ false) (λ m h. (or_parts (bytes_eq n.name m.name) (is_among earlier m.name) h).1) ns rest.0,
      ),
      (
        each_none (is_called n.name) ns
            (each_then (λ m. is_among (n ∷ earlier) m.name ≡ false) (λ m. is_called n.name m ≡ false)
            (λ m h. bytes_eq_comm m.name n.name ∙ (or_parts (bytes_eq n.name m.name) (is_among earlier m.name) h).0) ns rest.0),
        rest.1,
      ),
    )

pub distinct_names : (r : Reason) (ns : List Named) → doubled r ns ≡ [] → AreDistinct ns
distinct_names r ns e = (once_each r [] ns e).1

-- ---- parts of lists
among-append : (xs ys : List Named) (x : Name) → is_among (xs ++ ys) x ≡ (is_among xs x || is_among ys x)
among-append xs ys x = list_any-append (is_called x) xs ys

pub distinct_front : (xs ys : List Named) → AreDistinct (xs ++ ys) → AreDistinct xs
distinct_front [] ys h = tt
distinct_front (x ∷ xs) ys h = ((or_parts (is_among xs x.name) (is_among ys x.name) (sym (among-append xs ys x.name) ∙ h.0)).0, distinct_front xs ys h.1)

pub distinct_rest : (xs ys : List Named) → AreDistinct (xs ++ ys) → AreDistinct ys
distinct_rest [] ys h = h
distinct_rest (x ∷ xs) ys h = distinct_rest xs ys h.1

pub distinct_apart : (xs ys : List Named) → AreDistinct (xs ++ ys) → AreNew ys xs
distinct_apart [] ys h = tt
distinct_apart (x ∷ xs) ys h = ((or_parts (is_among xs x.name) (is_among ys x.name) (sym (among-append xs ys x.name) ∙ h.0)).1, distinct_apart xs ys h.1)

-- what is in one list is not in the other
pub not_among : (ys xs : List Named) → AreNew ys xs → (x : Name) → is_among xs x ≡ true → is_among ys x ≡ false
not_among ys [] h x e = absurd cc
not_among ys (n ∷ ns) h x e = by_test (bytes_eq n.name x) refl e (λ k. not_among ys ns h.1 x k)
  where
    by_test : (b : Bool) → bytes_eq n.name x ≡ b → (b || is_among ns x) ≡ true → (is_among ns x ≡ true → is_among ys x ≡ false) → is_among ys x ≡ false
    by_test true k f ih = ap (is_among ys) (sym (bytes_eq-true n.name x k)) ∙ h.0
    by_test false k f ih = ih f

-- ---- members of these names
module _ {A : Type 0} (name : A → Named) where
  abbrev pub names : List A → List Named
  names xs = map name xs

  -- the first of a name is the one at its place
  pub stands_first : (xs : List A) → AreDistinct (names xs) → (i : ℕ) (x : A) → slice_get xs i ≡ Some x → position (λ y. is_called (name x).name (name y)) xs ≡ Some i
  stands_first [] h i x e = absurd cc
  stands_first (y ∷ ys) h zero x e = place_zero (λ y. is_called (name x).name (name y)) y ys (ap (λ z. bytes_eq (name z).name (name x).name) (same_Some y x e) ∙ bytes_eq-self (name x).name)
  stands_first (y ∷ ys) h (suc i) x e =
      place_next (λ z. is_called (name x).name (name z)) y ys (other (bytes_eq (name y).name (name x).name) refl)
      ∙ ap (option_map suc) (stands_first ys h.1 i x e)
    where
      there : (zs : List A) (i : ℕ) → slice_get zs i ≡ Some x → is_among (names zs) (name x).name ≡ true
      there [] i e = absurd cc
      there (z ∷ zs) zero e = or_left _ _ (ap (λ u. bytes_eq (name u).name (name x).name) (same_Some z x e) ∙ bytes_eq-self (name x).name)
      there (z ∷ zs) (suc i) e = or_right _ _ (there zs i e)

      other : (b : Bool) → bytes_eq (name y).name (name x).name ≡ b → bytes_eq (name y).name (name x).name ≡ false
      other false k = k
      other true k = absurd (both_ways (is_among (names ys) (name x).name) (ap (is_among (names ys)) (sym (bytes_eq-true (name y).name (name x).name k)) ∙ h.0) (there ys i e))

  -- ---- a test of the one of a name
  abbrev pub tested : (A → Bool) → Option A → Bool
  tested q None = false
  tested q (Some x) = q x

  abbrev pub called : Name → A → Bool
  called x y = is_called x (name y)

  abbrev pub held : (A → Bool) → Name → List A → Bool
  held q x xs = list_any (λ y. q y && is_called x (name y)) xs

  pub none_held : (q : A → Bool) (x : Name) (xs : List A) → is_among (names xs) x ≡ false → held q x xs ≡ false
  none_held q x [] h = refl
  none_held q x (y ∷ ys) h =
      let both = or_parts (bytes_eq (name y).name x) (is_among (names ys) x) h in
      or_from (q y && is_called x (name y)) (held q x ys) (and_right (q y) (is_called x (name y)) both.0) (none_held q x ys both.1)

  pub held_found : (q : A → Bool) (x : Name) (xs : List A) → AreDistinct (names xs) → held q x xs ≡ tested q (find (called x) xs)
  held_found q x [] h = refl
  held_found q x (y ∷ ys) h = by_test (bytes_eq (name y).name x) refl (held_found q x ys h.1)
    where
      by_test : (b : Bool) → bytes_eq (name y).name x ≡ b → held q x ys ≡ tested q (find (called x) ys) → ((q y && b) || held q x ys) ≡ tested q (cond b (Some y) (find (called x) ys))
      by_test true k e = ap (λ b. (q y && true) || b) (none_held q x ys (ap (is_among (names ys)) (sym (bytes_eq-true (name y).name x k)) ∙ h.0)) ∙ or-false (q y && true) ∙ and-true (q y)
      by_test false k e = ap (λ b. b || held q x ys) (and-false (q y)) ∙ e

  -- a member is found by its name
  pub found_itself : (xs : List A) → AreDistinct (names xs) → OfAll (λ x. find (called (name x).name) xs ≡ Some x) xs
  found_itself [] h = tt
  found_itself (y ∷ ys) h = (
    ap (λ b. cond b (Some y) (find (called (name y).name) ys)) (bytes_eq-self (name y).name),
    each_with (λ x. bytes_eq (name x).name (name y).name ≡ false) (λ x. find (called (name x).name) ys ≡ Some x) (λ x. find (called (name x).name) (y ∷ ys) ≡ Some x)
        (λ x d e. ap (λ b. cond b (Some y) (find (called (name x).name) ys)) (bytes_eq_comm (name y).name (name x).name ∙ d) ∙ e)
        ys (map_each (λ n. is_called (name y).name n ≡ false) name ys (none_each (is_called (name y).name) (names ys) h.0)) (found_itself ys h.1),
  )
