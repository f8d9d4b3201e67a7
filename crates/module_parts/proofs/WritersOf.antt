-- The writers of a variable: one write more, one element more; and where it has its home by them.
use Rattle.std.proofs.Common.{◌≡◌, ℕ, suc, zero, ◌+◌, ◌<◌, List, [], ◌∷◌, ◌++◌, map, length, take, get_or, cond, refl, sym, ap, ◌∙◌, arith, tests, eq-eqb}
use Rattle.std.specs.Prelude.{Bool, true, false, ◌||◌, fold, nat_eq, slice_get, slice_set, unwrap_or, if◌then◌else◌}
use Rattle.std.specs.List.{filter, list_any}
use Rattle.std.proofs.lemmas.List.{map-append}
use Rattle.jani_tree.specs.Syntax.{Automaton, File}
use Rattle.process_core.specs.Instance.{numbered}
use Rattle.jani_meaning.specs.Elements as jani
use Rattle.edge_tables.specs.Elements.{Element, elements, writers, shared_home}
use Rattle.module_parts.specs.declared.element.Element.{Element as CodeElement}
use Rattle.module_parts.specs.declared.writers.Writers.{Writers}
use Rattle.module_parts.specs.declared.writers.Writers.TheVariants.{Nobody, One, Several}
use Rattle.module_parts.specs.Code.{element_of, element_with}
use Rattle.module_parts.specs.Writers.{with_writer, with_if, home_for, writes, writers_through}
use Rattle.gathering.proofs.Loops.{any_next, taken}
use Rattle.gathering.proofs.Lists.{first_apart, apart_first, next_same}

-- ---- the table
pub room_behind : (ws : List Writers) (i : ℕ) → unwrap_or (slice_get (ws ++ Nobody ∷ []) i) Nobody ≡ unwrap_or (slice_get ws i) Nobody
room_behind [] zero = refl
room_behind [] (suc i) = refl
room_behind (w ∷ ws) zero = refl
room_behind (w ∷ ws) (suc i) = room_behind ws i

pub written_at : (ws : List Writers) (n i k : ℕ) (w v : Writers) → n < length ws → w ≡ get_or ws n w → v ≡ with_writer k w →
    unwrap_or (slice_get (slice_set ws n v) i) Nobody ≡ with_if (nat_eq i n) k (unwrap_or (slice_get ws i) Nobody)
written_at [] n i k w v h e p = absurd (omega (arith, h))
written_at (x ∷ xs) zero zero k w v h e p = p ∙ ap (with_writer k) e
written_at (x ∷ xs) zero (suc i) k w v h e p = ap (λ b. with_if b k (unwrap_or (slice_get xs i) Nobody)) (sym (apart_first i))
written_at (x ∷ xs) (suc n) zero k w v h e p = ap (λ b. with_if b k x) (sym (first_apart n))
written_at (x ∷ xs) (suc n) (suc i) k w v h e p =
    written_at xs n i k w v (omega (arith, h)) e p ∙ ap (λ b. with_if b k (unwrap_or (slice_get xs i) Nobody)) (sym (next_same i n))

-- ---- once more the same
again : (k : ℕ) (w : Writers) → with_writer k (with_writer k w) ≡ with_writer k w
again k Nobody = ap (λ (b : Bool). if b then One k else Several) (eq-eqb k k refl)
again k (One j) = by_test (nat_eq j k) refl
  where
    by_test : (b : Bool) → nat_eq j k ≡ b → with_writer k (if b then One j else Several) ≡ (if b then One j else Several)
    by_test true e = ap (λ (b : Bool). if b then One j else Several) e
    by_test false e = refl
again k Several = refl

both_if : (a b : Bool) (k : ℕ) (w : Writers) → with_if b k (with_if a k w) ≡ with_if (a || b) k w
both_if true true k w = again k w
both_if true false k w = refl
both_if false b k w = refl

-- one more of those that a loop has seen
pub with_more : {X Y : Type 0} (p : Y → Bool) (s : X → Y) (xs : List X) (i : ℕ) (x : X) (k : ℕ) (start old new : Writers) → i < length xs → x ≡ get_or xs i x →
    old ≡ with_if (list_any p (map s (take i xs))) k start → new ≡ with_if (p (s x)) k old → new ≡ with_if (list_any p (map s (take (i + 1) xs))) k start
with_more p s xs i x k start old new h e so_far next =
    next
    ∙ ap (with_if (p (s x)) k) so_far
    ∙ both_if (list_any p (map s (take i xs))) (p (s x)) k start
    ∙ ap (λ (b : Bool). with_if b k start) (sym (any_next p s xs i x h e))

-- ---- one element more
pub through_more : (file : File) (i : ℕ) (els : List CodeElement) (j : ℕ) (el : CodeElement) (old new : Writers) → j < length els → el ≡ get_or els j el →
    old ≡ writers_through file i (map element_of (take j els)) → new ≡ with_if (writes file i (element_of el)) el.number old →
    new ≡ writers_through file i (map element_of (take (j + 1) els))
through_more file i els j el old new h e so_far next =
    next
    ∙ ap (with_if (writes file i (element_of el)) el.number) so_far
    ∙ sym (through_behind file i Nobody (map element_of (take j els)) (element_of el))
    ∙ ap (writers_through file i) (sym (map-append element_of (take j els) (el ∷ [])) ∙ ap (map element_of) (sym (taken els j el h e)))
  where
    through_behind : (file : File) (i : ℕ) (w : Writers) (els : List Element) (el : Element) →
        fold (λ w el. with_if (writes file i el) el.number w) w (els ++ el ∷ []) ≡ with_if (writes file i el) el.number (fold (λ w el. with_if (writes file i el) el.number w) w els)
    through_behind file i w [] el = refl
    through_behind file i w (x ∷ els) el = through_behind file i (with_if (writes file i x) x.number w) els el

-- ---- where the variable has its home
abbrev pub summed : List Element → Writers
summed [] = Nobody
summed (el ∷ []) = One el.number
summed (el ∷ other ∷ more) = Several

abbrev pub one_or : ℕ → List Element → Writers
one_or k [] = One k
one_or k (el ∷ els) = Several

several_stay : (file : File) (i : ℕ) (els : List Element) → fold (λ w el. with_if (writes file i el) el.number w) Several els ≡ Several
several_stay file i [] = refl
several_stay file i (el ∷ els) = by_test (writes file i el) (several_stay file i els)
  where
    by_test : (b : Bool) → fold (λ w el. with_if (writes file i el) el.number w) Several els ≡ Several → fold (λ w el. with_if (writes file i el) el.number w) (with_if b el.number Several) els ≡ Several
    by_test true e = e
    by_test false e = e

one_stays : (file : File) (i j k : ℕ) (autos : List Automaton) → j < k →
    fold (λ w el. with_if (writes file i el) el.number w) (One j) (numbered element_with k autos) ≡ one_or j (filter (writes file i) (numbered element_with k autos))
one_stays file i j k [] h = refl
one_stays file i j k (a ∷ autos) h = by_test (writes file i (record { number = k; automaton = a })) (one_stays file i j (k + 1) autos (omega (arith, h)))
  where
    apart : nat_eq j k ≡ false
    apart = grind (arith, tests)

    by_test : (b : Bool) → fold (λ w el. with_if (writes file i el) el.number w) (One j) (numbered element_with (k + 1) autos) ≡ one_or j (filter (writes file i) (numbered element_with (k + 1) autos)) →
        fold (λ w el. with_if (writes file i el) el.number w) (with_if b k (One j)) (numbered element_with (k + 1) autos)
        ≡ one_or j (cond b (record { number = k; automaton = a } ∷ filter (writes file i) (numbered element_with (k + 1) autos)) (filter (writes file i) (numbered element_with (k + 1) autos)))
    by_test true e =
        ap (λ (b : Bool). fold (λ w el. with_if (writes file i el) el.number w) (if b then One j else Several) (numbered element_with (k + 1) autos)) apart
        ∙ several_stay file i (numbered element_with (k + 1) autos)
    by_test false e = e

from_nobody : (file : File) (i k : ℕ) (autos : List Automaton) →
    fold (λ w el. with_if (writes file i el) el.number w) Nobody (numbered element_with k autos) ≡ summed (filter (writes file i) (numbered element_with k autos))
from_nobody file i k [] = refl
from_nobody file i k (a ∷ autos) = by_test (writes file i (record { number = k; automaton = a })) (from_nobody file i (k + 1) autos)
  where
    one_first : (els : List Element) → one_or k els ≡ summed (record { number = k; automaton = a } ∷ els)
    one_first [] = refl
    one_first (el ∷ els) = refl

    by_test : (b : Bool) → fold (λ w el. with_if (writes file i el) el.number w) Nobody (numbered element_with (k + 1) autos) ≡ summed (filter (writes file i) (numbered element_with (k + 1) autos)) →
        fold (λ w el. with_if (writes file i el) el.number w) (with_if b k Nobody) (numbered element_with (k + 1) autos)
        ≡ summed (cond b (record { number = k; automaton = a } ∷ filter (writes file i) (numbered element_with (k + 1) autos)) (filter (writes file i) (numbered element_with (k + 1) autos)))
    by_test true e = one_stays file i k (k + 1) autos (omega arith) ∙ one_first (filter (writes file i) (numbered element_with (k + 1) autos))
    by_test false e = e

home_summed : (ws : List Element) → home_for (summed ws) ≡ shared_home ws
home_summed [] = refl
home_summed (el ∷ []) = refl
home_summed (el ∷ other ∷ more) = refl

pub home_is : (file : File) (i : ℕ) → home_for (writers_through file i (elements file)) ≡ shared_home (writers file i)
home_is file i = ap home_for (from_nobody file i 0 (jani.elements file)) ∙ home_summed (writers file i)
