-- Whether some elements of some lists pass a test.
use Rattle.std.specs.Prelude.{ℕ, ◌<◌, ◌≤◌, ◌+◌, List, [], ◌∷◌, map, length, drop, Bool, true, false, ◌||◌, Option, Some, None, bytes_eq, min, nat_le}
use Rattle.std.specs.List.{list_any}
use Rattle.std.proofs.Common.{◌≡◌, refl, sym, ap, ap₂, ◌∙◌, get_or, arith}
use Rattle.std.proofs.Math.Path.{fun_ext}
use Rattle.std.proofs.lemmas.Bool.Decides.{nat_tests}
use Rattle.std.proofs.lemmas.List.{at_drop_more, at_drop_all, get_or_default}
use Rattle.std.proofs.Math.Bool.{or_assoc}
use Rattle.basics.specs.Members.{any_two, any_never}
use Rattle.bridge_io.specs.declared.reason.Named.{Named}
use Rattle.name_rules.specs.Names.{Name}
use Rattle.jani_check.specs.TypeFaults.{meet}
use Rattle.jani_check.specs.Participants.{parts_taken, part_taken, meets_with}

-- some pair of two lists passes, whichever list is gone through first
pub exchange : {A B : Type 0} (r : A → B → Bool) (xs : List A) (ys : List B) → list_any (λ y. list_any (λ x. r x y) xs) ys ≡ list_any (λ x. list_any (r x) ys) xs
exchange r [] ys = any_never ys
exchange r (x ∷ xs) ys = any_two (r x) (λ y. list_any (λ x. r x y) xs) ys ∙ ap (λ b. list_any (r x) ys || b) (exchange r xs ys)

-- ---- names that were seen before
pub seen_more : (seen new : Name → Bool) (xs : List Name) (lists : List (List Name)) → list_any seen xs ≡ false →
    ((y : Name) → new y ≡ (seen y || list_any (λ x. bytes_eq x y) xs)) → meets_with seen (xs ∷ lists) ≡ meets_with new lists
seen_more seen new xs lists none more =
    ap (λ b. (b || list_any (list_any seen) lists) || (common || meet lists)) none
    ∙ sym (or_assoc (list_any (list_any seen) lists) common (meet lists))
    ∙ ap (λ b. b || meet lists)
    (ap (λ b. list_any (list_any seen) lists || b) (sym (exchange (λ x l. list_any (bytes_eq x) l) xs lists)
    ∙ ap (λ f. list_any f lists) (fun_ext (λ l. sym (exchange bytes_eq xs l))))
    ∙ sym (any_two (list_any seen) (λ l. list_any (λ y. list_any (λ x. bytes_eq x y) xs) l) lists)
    ∙ ap (λ f. list_any f lists) (fun_ext (λ l. sym (any_two seen (λ y. list_any (λ x. bytes_eq x y) xs) l)))
    ∙ ap (λ f. list_any (list_any f) lists) (sym (fun_ext more)))
  where
    common : Bool
    common = list_any (λ x. list_any (list_any (bytes_eq x)) lists) xs

pub meets_none : (lists : List (List Name)) → meets_with (λ y. false) lists ≡ meet lists
meets_none lists = ap (λ b. b || meet lists) (ap (λ f. list_any f lists) (fun_ext (λ l. any_never l)) ∙ any_never lists)

-- ---- one element more, and its part of the vector
one_part : {X : Type 0} (none : X) (f : Name → X) (p : Option Named) (fs : List (Name → X)) (ps : List (Option Named)) →
    parts_taken none (f ∷ fs) (p ∷ ps) ≡ part_taken none f p ∷ parts_taken none fs ps
one_part none f None fs ps = refl
one_part none f (Some n) fs ps = refl

pub parts_at : {A X : Type 0} (none : X) (view : A → Name → X) (ts : List A) (ps : List (Option Named)) (i : ℕ) (t : A) (p : Option Named) → i < length ts → i < length ps →
    parts_taken none (map view (drop i ts)) (drop i ps)
    ≡ part_taken none (view (get_or ts i t)) (get_or ps i p) ∷ parts_taken none (map view (drop (i + 1) ts)) (drop (i + 1) ps)
parts_at none view ts ps i t p h k =
    at_drop_more (λ ys. parts_taken none (map view ys) (drop i ps)) ts i t h
    ∙ at_drop_more (λ qs. parts_taken none (map view (get_or ts i t ∷ drop (i + 1) ts)) qs) ps i p k
    ∙ one_part none (view (get_or ts i t)) (get_or ps i p) (map view (drop (i + 1) ts)) (drop (i + 1) ps)

no_parts : {X : Type 0} (none : X) (fs : List (Name → X)) → parts_taken none fs [] ≡ []
no_parts none [] = refl
no_parts none (f ∷ fs) = refl

pub parts_end : {A X : Type 0} (none : X) (view : A → Name → X) (ts : List A) (ps : List (Option Named)) (i : ℕ) → length ts ≤ i → parts_taken none (map view (drop i ts)) (drop i ps) ≡ []
parts_end none view ts ps i h = at_drop_all (λ ys. parts_taken none (map view ys) (drop i ps)) ts i h

pub parts_over : {A X : Type 0} (none : X) (view : A → Name → X) (ts : List A) (ps : List (Option Named)) (i : ℕ) → length ps ≤ i → parts_taken none (map view (drop i ts)) (drop i ps) ≡ []
parts_over none view ts ps i h = at_drop_all (λ qs. parts_taken none (map view (drop i ts)) qs) ps i h ∙ no_parts none (map view (drop i ts))

pub no_parts_left : {A X : Type 0} (none : X) (view : A → Name → X) (ts : List A) (ps : List (Option Named)) (i count : ℕ) → count ≡ min (length ts) (length ps) → count ≤ i →
    parts_taken none (map view (drop i ts)) (drop i ps) ≡ []
no_parts_left none view ts ps i count e h = by_order (nat_le (length ts) i) refl
  where
    by_order : (b : Bool) → nat_le (length ts) i ≡ b → parts_taken none (map view (drop i ts)) (drop i ps) ≡ []
    by_order true k = parts_end none view ts ps i (grind (arith, nat_tests, k))
    by_order false k = parts_over none view ts ps i (grind (arith, nat_tests, k, e, h))

-- one participant more, none of whose names was seen
pub meets_next : {A : Type 0} (view : A → Name → List Name) (ts : List A) (ps : List (Option Named)) (i count : ℕ) (t u : A) (p q : Option Named) (seen new : Name → Bool) (whole : Bool) →
    i < count → count ≡ min (length ts) (length ps) → t ≡ get_or ts i t → u ≡ get_or ts i u → p ≡ get_or ps i p → q ≡ get_or ps i q →
    list_any seen (part_taken [] (view t) p) ≡ false → ((y : Name) → new y ≡ (seen y || list_any (λ x. bytes_eq x y) (part_taken [] (view u) q))) →
    meets_with seen (parts_taken [] (map view (drop i ts)) (drop i ps)) ≡ whole → meets_with new (parts_taken [] (map view (drop (i + 1) ts)) (drop (i + 1) ps)) ≡ whole
meets_next view ts ps i count t u p q seen new whole h e it iu ip iq none more so_far =
    let in_ts : i < length ts = omega (arith, h, e) in
    let in_ps : i < length ps = omega (arith, h, e) in
    let same_t : u ≡ t = iu ∙ get_or_default ts i u t in_ts ∙ sym it in
    let same_p : q ≡ p = iq ∙ get_or_default ps i q p in_ps ∙ sym ip in
    sym (seen_more seen new (part_taken [] (view t) p) (parts_taken [] (map view (drop (i + 1) ts)) (drop (i + 1) ps)) none
    (λ y. more y ∙ ap₂ (λ a b. seen y || list_any (λ x. bytes_eq x y) (part_taken [] (view a) b)) same_t same_p))
    ∙ ap₂ (λ a b. meets_with seen (part_taken [] (view a) b ∷ parts_taken [] (map view (drop (i + 1) ts)) (drop (i + 1) ps))) it ip
    ∙ ap (meets_with seen) (sym (parts_at [] view ts ps i t p in_ts in_ps))
    ∙ so_far
