-- The least of the faults of joined lists.
use Rattle.std.specs.Prelude.{ℕ, ◌<◌, ◌+◌, List, ◌∷◌, ◌++◌, map, length, drop, Option}
use Rattle.std.specs.List.{flat_map}
use Rattle.std.proofs.Common.{◌≡◌, sym, ap, ◌∙◌, get_or}
use Rattle.std.proofs.lemmas.List.{at_drop_more, get_or_default}
use Rattle.std.proofs.lemmas.List.Concat.{flat_map-append}
use Rattle.bridge_io.specs.declared.reason.Fault.{Fault}
use Rattle.name_rules.specs.Least.{soonest}
use Rattle.name_rules.proofs.Soonest.{soonest_append}

pub soonest_both : {A : Type 0} (f : A → List Fault) (xs ys : List A) (best first last : Option Fault) → first ≡ soonest best (flat_map f xs) →
    last ≡ soonest first (flat_map f ys) → last ≡ soonest best (flat_map f (xs ++ ys))
soonest_both f xs ys best first last p q =
    q ∙ ap (λ b. soonest b (flat_map f ys)) p ∙ sym (soonest_append best (flat_map f xs) (flat_map f ys)) ∙ ap (soonest best) (sym (flat_map-append f xs ys))

pub soonest_three : {A : Type 0} (f : A → List Fault) (xs ys zs : List A) (best first second last : Option Fault) → first ≡ soonest best (flat_map f xs) →
    second ≡ soonest first (flat_map f ys) → last ≡ soonest second (flat_map f zs) → last ≡ soonest best (flat_map f (xs ++ (ys ++ zs)))
soonest_three f xs ys zs best first second last p q r = soonest_both f xs (ys ++ zs) best first last p (soonest_both f ys zs first second last q r)

-- one element of a list more
pub soonest_next : {A B : Type 0} (view : A → B) (f : B → List Fault) (xs : List A) (i : ℕ) (x : A) (best next whole : Option Fault) → i < length xs →
    x ≡ get_or xs i x → next ≡ soonest best (f (view x)) → soonest best (flat_map f (map view (drop i xs))) ≡ whole →
    soonest next (flat_map f (map view (drop (i + 1) xs))) ≡ whole
soonest_next view f xs i x best next whole h is judged so_far =
    let rest = flat_map f (map view (drop (i + 1) xs)) in
    ap (λ b. soonest b rest) judged
    ∙ sym (soonest_append best (f (view x)) rest)
    ∙ sym (at_drop_more (λ ys. soonest best (flat_map f (map view ys))) xs i x h ∙ ap (λ y. soonest best (flat_map f (map view (y ∷ drop (i + 1) xs)))) (sym is))
    ∙ so_far

-- first these faults, then those
pub soonest_then : (best next : Option Fault) (xs ys : List Fault) → next ≡ soonest best xs → soonest next ys ≡ soonest best (xs ++ ys)
soonest_then best next xs ys p = ap (λ b. soonest b ys) p ∙ sym (soonest_append best xs ys)

pub three_parts : (a b c : List Fault) (b0 b1 b2 : Option Fault) → b1 ≡ soonest b0 a → b2 ≡ soonest b1 b → soonest b2 c ≡ soonest b0 (a ++ (b ++ c))
three_parts a b c b0 b1 b2 p1 p2 = soonest_then b1 b2 b c p2 ∙ soonest_then b0 b1 a (b ++ c) p1

pub four_parts : (a b c d : List Fault) (b0 b1 b2 b3 : Option Fault) → b1 ≡ soonest b0 a → b2 ≡ soonest b1 b → b3 ≡ soonest b2 c →
    soonest b3 d ≡ soonest b0 (a ++ (b ++ (c ++ d)))
four_parts a b c d b0 b1 b2 b3 p1 p2 p3 = three_parts b c d b1 b2 b3 p2 p3 ∙ soonest_then b0 b1 a (b ++ (c ++ d)) p1

pub five_parts : (a b c d e : List Fault) (b0 b1 b2 b3 b4 : Option Fault) → b1 ≡ soonest b0 a → b2 ≡ soonest b1 b → b3 ≡ soonest b2 c → b4 ≡ soonest b3 d →
    soonest b4 e ≡ soonest b0 (a ++ (b ++ (c ++ (d ++ e))))
five_parts a b c d e b0 b1 b2 b3 b4 p1 p2 p3 p4 = three_parts c d e b2 b3 b4 p3 p4 ∙ three_parts a b (c ++ (d ++ e)) b0 b1 b2 p1 p2

-- ---- elements that are read past the end of a list where there is none
pub soonest_at : {A B : Type 0} (view : A → B) (f : B → List Fault) (xs : List A) (i : ℕ) (d : A) (best next whole : Option Fault) → i < length xs →
    next ≡ soonest best (f (view (get_or xs i d))) → soonest best (flat_map f (map view (drop i xs))) ≡ whole →
    soonest next (flat_map f (map view (drop (i + 1) xs))) ≡ whole
soonest_at view f xs i d best next whole h = soonest_next view f xs i (get_or xs i d) best next whole h (get_or_default xs i d (get_or xs i d) h)
