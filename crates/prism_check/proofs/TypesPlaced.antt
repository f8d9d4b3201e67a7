-- The least of faults that stand where they are found, or all at one place.
use Rattle.std.specs.Prelude.{ℕ, ◌<◌, ◌+◌, List, [], ◌∷◌, ◌++◌, map, length, drop, Bool, true, false, Option, Some, None, max, unwrap_or, bytes_eq}
use Rattle.std.specs.List.{flat_map}
use Rattle.std.proofs.Common.{◌≡◌, refl, sym, ap, ap₂, ◌∙◌, arith, get_or}
use Rattle.std.proofs.lemmas.List.{map-append}
use Rattle.bridge_io.specs.declared.reason.Named.{Named}
use Rattle.bridge_io.specs.declared.reason.Reason.{Reason}
use Rattle.bridge_io.specs.declared.reason.Fault.{Fault}
use Rattle.name_rules.specs.Least.{fault_if, soonest}
use Rattle.name_rules.specs.Doubled.{clash, doubled_after, doubled}
use Rattle.prism_check.specs.Typing.{placed, soonest_at, wrong, moved_name}
use Rattle.name_rules.proofs.Soonest.{soonest_append}
use Rattle.name_rules.proofs.Append.{soonest_next}
use Rattle.process_core.specs.Product.{map-flat_map}

pub placed_if : (place : Option ℕ) (b : Bool) (at : ℕ) (r : Reason) → map (placed place) (fault_if b at r) ≡ fault_if b (unwrap_or place at) r
placed_if place true at r = refl
placed_if place false at r = refl

pub unplaced : (fs : List Fault) → map (placed None) fs ≡ fs
unplaced [] = refl
unplaced (f ∷ fs) = ap (λ gs. f ∷ gs) (unplaced fs)

pub at-append : (place : Option ℕ) (best : Option Fault) (xs ys : List Fault) → soonest_at place best (xs ++ ys) ≡ soonest_at place (soonest_at place best xs) ys
at-append place best xs ys =
    ap (soonest best) (map-append (placed place) xs ys) ∙ soonest_append best (map (placed place) xs) (map (placed place) ys)

-- first these faults, then those
pub at_then : (place : Option ℕ) (best next : Option Fault) (xs ys : List Fault) → next ≡ soonest_at place best xs →
    soonest_at place next ys ≡ soonest_at place best (xs ++ ys)
at_then place best next xs ys p = ap (λ b. soonest_at place b ys) p ∙ sym (at-append place best xs ys)

-- ---- the places of misfits, part by part
pub wrong_two : (place : Option ℕ) (xs ys : List ℕ) (best first last : Option Fault) → first ≡ soonest_at place best (wrong xs) →
    last ≡ soonest_at place first (wrong ys) → last ≡ soonest_at place best (wrong (xs ++ ys))
wrong_two place xs ys best first last p q =
    q ∙ at_then place best first (wrong xs) (wrong ys) p ∙ ap (soonest_at place best) (sym (map-append _ xs ys))

pub wrong_three : (place : Option ℕ) (xs ys zs : List ℕ) (best first second last : Option Fault) → first ≡ soonest_at place best (wrong xs) →
    second ≡ soonest_at place first (wrong ys) → last ≡ soonest_at place second (wrong zs) → last ≡ soonest_at place best (wrong (xs ++ (ys ++ zs)))
wrong_three place xs ys zs best first second last p q r =
    wrong_two place xs (ys ++ zs) best first last p (wrong_two place ys zs first second last q r)

pub wrong_four : (place : Option ℕ) (xs ys zs us : List ℕ) (best first second third last : Option Fault) → first ≡ soonest_at place best (wrong xs) →
    second ≡ soonest_at place first (wrong ys) → third ≡ soonest_at place second (wrong zs) → last ≡ soonest_at place third (wrong us) →
    last ≡ soonest_at place best (wrong (xs ++ (ys ++ (zs ++ us))))
wrong_four place xs ys zs us best first second third last p q r s =
    wrong_two place xs (ys ++ (zs ++ us)) best first last p (wrong_three place ys zs us first second third last q r s)

-- ---- one element of a list more
pub at_next : {A B : Type 0} (place : Option ℕ) (view : A → B) (f : B → List Fault) (xs : List A) (i : ℕ) (x : A) (best next whole : Option Fault) → i < length xs →
    x ≡ get_or xs i x → next ≡ soonest_at place best (f (view x)) → soonest_at place best (flat_map f (map view (drop i xs))) ≡ whole →
    soonest_at place next (flat_map f (map view (drop (i + 1) xs))) ≡ whole
at_next place view f xs i x best next whole h is judged so_far =
    ap (soonest next) (map-flat_map (placed place) f (map view (drop (i + 1) xs)))
    ∙ soonest_next view (λ y. map (placed place) (f y)) xs i x best next whole h is judged
    (ap (soonest best) (sym (map-flat_map (placed place) f (map view (drop i xs)))) ∙ so_far)

-- ---- names that stand twice
later_at : (place : Option ℕ) (i j : ℕ) → unwrap_or place (max i j) ≡ max (unwrap_or place i) (unwrap_or place j)
later_at None i j = refl
later_at (Some k) i j = omega arith

clash_at : (place : Option ℕ) (r : Reason) (n m : Named) → map (placed place) (clash r n m) ≡ clash r (moved_name place n) (moved_name place m)
clash_at place r n m =
    placed_if place (bytes_eq m.name n.name) (max m.at n.at) r ∙ ap (λ k. fault_if (bytes_eq m.name n.name) k r) (later_at place m.at n.at)

clashes_at : (place : Option ℕ) (r : Reason) (n : Named) (ms : List Named) →
    map (placed place) (flat_map (clash r n) ms) ≡ flat_map (clash r (moved_name place n)) (map (moved_name place) ms)
clashes_at place r n [] = refl
clashes_at place r n (m ∷ ms) =
    map-append (placed place) (clash r n m) (flat_map (clash r n) ms) ∙ ap₂ (λ xs ys. xs ++ ys) (clash_at place r n m) (clashes_at place r n ms)

doubled_after_at : (place : Option ℕ) (r : Reason) (earlier ns : List Named) →
    map (placed place) (doubled_after r earlier ns) ≡ doubled_after r (map (moved_name place) earlier) (map (moved_name place) ns)
doubled_after_at place r earlier [] = refl
doubled_after_at place r earlier (n ∷ ns) =
    map-append (placed place) (flat_map (clash r n) earlier) (doubled_after r (n ∷ earlier) ns)
    ∙ ap₂ (λ xs ys. xs ++ ys) (clashes_at place r n earlier) (doubled_after_at place r (n ∷ earlier) ns)

pub doubled_at : (place : Option ℕ) (r : Reason) (ns : List Named) → map (placed place) (doubled r ns) ≡ doubled r (map (moved_name place) ns)
doubled_at place r ns = doubled_after_at place r [] ns
