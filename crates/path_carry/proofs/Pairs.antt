-- What pairs of labels say of each other.
use Rattle.std.proofs.Common.{◌≡◌, ◌||◌, ◌&&◌, List, [], ◌∷◌, map, Bool, true, false, cond, Option, Some, None, refl, sym, ap, ap₂, ◌∙◌, subst, bytes_eq, is_none, is_some}
use Rattle.std.specs.List.{list_any, find, filter, IsDistinct, AllByRecursion as Each}
use Rattle.basics.specs.Booleans.{same_test, first_true, second_true, or_none}
use Rattle.basics.specs.Texts.{bytes_eq-self, bytes_eq-true}
use Rattle.process_core.specs.Equal.{same_label_is}
use Rattle.process_core.specs.Ready.{Name, same_label}
use Rattle.carry_maps.specs.declared.map.LabelPair.{LabelPair}
use Rattle.carry_maps.specs.Maps.{label_in, jani_label, has_pair, candidates, has_candidate, HasLabels}
use Rattle.path_carry.proofs.Places.{found_any}

same_self : (l : Option Name) → same_label l l ≡ true
same_self l = (same_label_is l l).1 refl

-- ---- the pair of an action
-- an action that is called, or the pairs behind this one
found_first : (a : Name) (p : LabelPair) (ps : List LabelPair) (b : Bool) → bytes_eq a p.prism ≡ b → label_in (find (λ q. bytes_eq a q.prism) (p ∷ ps)) ≡ cond b p.jani (label_in (find (λ q. bytes_eq a q.prism) ps))
found_first a p ps true e = ap (λ b. label_in (cond b (Some p) (find (λ q. bytes_eq a q.prism) ps))) e
found_first a p ps false e = ap (λ b. label_in (cond b (Some p) (find (λ q. bytes_eq a q.prism) ps))) e

-- an action that no pair has isn't that of one
apart : (p : LabelPair) (ps : List LabelPair) (a : Name) → Each (λ y. bytes_eq p.prism y ≡ false) (map (λ q. q.prism) ps) → list_any (λ q. bytes_eq a q.prism) ps ≡ true → bytes_eq a p.prism ≡ false
apart p [] a h e = absurd cc
apart p (q ∷ ps) a h e = by_test (apart p ps a h.1) (bytes_eq a q.prism) refl e
  where
    ne : (b : Bool) → bytes_eq a p.prism ≡ b → bytes_eq a q.prism ≡ true → bytes_eq a p.prism ≡ false
    ne false f g = f
    ne true f g = absurd (let same : p.prism ≡ q.prism = sym (bytes_eq-true a p.prism f) ∙ bytes_eq-true a q.prism g in
        let yes : bytes_eq p.prism q.prism ≡ true = ap (bytes_eq p.prism) (sym same) ∙ bytes_eq-self p.prism in
        let no : true ≡ false = sym yes ∙ h.0 in cc)

    by_test : (list_any (λ r. bytes_eq a r.prism) ps ≡ true → bytes_eq a p.prism ≡ false) → (b : Bool) → bytes_eq a q.prism ≡ b → (b || list_any (λ r. bytes_eq a r.prism) ps) ≡ true → bytes_eq a p.prism ≡ false
    by_test ih true f k = ne (bytes_eq a p.prism) refl f
    by_test ih false f k = ih k

-- ---- candidates
-- an action that isn't called here has no pair with the label
none_goes : (ps : List LabelPair) (l : Option Name) (a : Name) → list_any (λ p. bytes_eq a p.prism) ps ≡ false → list_any (λ p. same_label l p.jani && bytes_eq a p.prism) ps ≡ false
none_goes [] l a e = refl
none_goes (p ∷ ps) l a e = by_first (bytes_eq a p.prism) (same_label l p.jani) e (none_goes ps l a)
  where
    by_first : (b c : Bool) → (b || list_any (λ q. bytes_eq a q.prism) ps) ≡ false → (list_any (λ q. bytes_eq a q.prism) ps ≡ false → list_any (λ q. same_label l q.jani && bytes_eq a q.prism) ps ≡ false) →
        ((c && b) || list_any (λ q. same_label l q.jani && bytes_eq a q.prism) ps) ≡ false
    by_first true c e ih = absurd cc
    by_first false true e ih = ih e
    by_first false false e ih = ih e

-- an action that is called here is a candidate for a label exactly where the label is that of its pair
goes : (ps : List LabelPair) (l : Option Name) (a : Name) → IsDistinct bytes_eq (map (λ p. p.prism) ps) → list_any (λ p. bytes_eq a p.prism) ps ≡ true →
    same_label l (label_in (find (λ p. bytes_eq a p.prism) ps)) ≡ list_any (λ p. same_label l p.jani && bytes_eq a p.prism) ps
unfolding IsDistinct
goes [] l a d h = absurd cc
goes (p ∷ ps) l a d h = by_test (goes ps l a d.1) (bytes_eq a p.prism) refl h
  where
    behind : bytes_eq a p.prism ≡ true → list_any (λ q. bytes_eq a q.prism) ps ≡ false
    behind e = by_any (list_any (λ q. bytes_eq a q.prism) ps) refl
      where
        by_any : (b : Bool) → list_any (λ q. bytes_eq a q.prism) ps ≡ b → list_any (λ q. bytes_eq a q.prism) ps ≡ false
        by_any false f = f
        by_any true f = absurd (let no : true ≡ false = sym e ∙ apart p ps a d.0 f in cc)

    only : (c : Bool) → (c && true) ≡ c
    only true = refl
    only false = refl

    never : (c : Bool) → (c && false) ≡ false
    never true = refl
    never false = refl

    by_test : (list_any (λ q. bytes_eq a q.prism) ps ≡ true → same_label l (label_in (find (λ q. bytes_eq a q.prism) ps)) ≡ list_any (λ q. same_label l q.jani && bytes_eq a q.prism) ps) →
        (b : Bool) → bytes_eq a p.prism ≡ b → (b || list_any (λ q. bytes_eq a q.prism) ps) ≡ true →
        same_label l (label_in (find (λ q. bytes_eq a q.prism) (p ∷ ps))) ≡ ((same_label l p.jani && bytes_eq a p.prism) || list_any (λ q. same_label l q.jani && bytes_eq a q.prism) ps)
    by_test ih true e k =
        ap (same_label l) (found_first a p ps true e) ∙ or_none (same_label l p.jani)
        ∙ ap₂ (λ x y. x || y) (sym (ap (λ b. same_label l p.jani && b) e ∙ only (same_label l p.jani))) (sym (none_goes ps l a (behind e)))
    by_test ih false e k =
        ap (same_label l) (found_first a p ps false e) ∙ ih k
        ∙ ap (λ x. x || list_any (λ q. same_label l q.jani && bytes_eq a q.prism) ps) (sym (ap (λ b. same_label l p.jani && b) e ∙ never (same_label l p.jani)))

-- the actions whose pairs have the label, and among them this one
pub any_filtered : (ps : List LabelPair) (l : Option Name) (a : Name) →
    list_any (same_label (Some a)) (map (λ p. Some p.prism) (filter (λ p. same_label l p.jani) ps)) ≡ list_any (λ p. same_label l p.jani && bytes_eq a p.prism) ps
any_filtered [] l a = refl
any_filtered (p ∷ ps) l a = by_test (same_label l p.jani) (any_filtered ps l a)
  where
    by_test : (b : Bool) → list_any (same_label (Some a)) (map (λ q. Some q.prism) (filter (λ q. same_label l q.jani) ps)) ≡ list_any (λ q. same_label l q.jani && bytes_eq a q.prism) ps →
        list_any (same_label (Some a)) (map (λ q. Some q.prism) (cond b (p ∷ filter (λ q. same_label l q.jani) ps) (filter (λ q. same_label l q.jani) ps)))
        ≡ ((b && bytes_eq a p.prism) || list_any (λ q. same_label l q.jani && bytes_eq a q.prism) ps)
    by_test true ih = ap (λ x. bytes_eq a p.prism || x) ih
    by_test false ih = ih

no_none : (ps : List LabelPair) → list_any (same_label None) (map (λ p. Some p.prism) ps) ≡ false
no_none [] = refl
no_none (p ∷ ps) = no_none ps

-- which labels are candidates
pub candidate_some : (ps : List LabelPair) (l : Option Name) (a : Name) → list_any (same_label (Some a)) (candidates ps l) ≡ list_any (λ p. same_label l p.jani && bytes_eq a p.prism) ps
candidate_some ps None a = any_filtered ps None a
candidate_some ps (Some x) a = any_filtered ps (Some x) a

pub candidate_none : (ps : List LabelPair) (l : Option Name) → list_any (same_label None) (candidates ps l) ≡ is_none l
candidate_none ps None = refl
candidate_none ps (Some x) = no_none (filter (λ p. same_label (Some x) p.jani) ps)

pub is_candidate_for : (ps : List LabelPair) → IsDistinct bytes_eq (map (λ p. p.prism) ps) → (l x : Option Name) → has_pair ps x ≡ true → same_label l (jani_label ps x) ≡ list_any (same_label x) (candidates ps l)
is_candidate_for ps d None None h = sym (candidate_none ps None)
is_candidate_for ps d (Some y) None h = sym (candidate_none ps (Some y))
is_candidate_for ps d l (Some a) h = goes ps l a d h ∙ sym (candidate_some ps l a)

-- by the pair that is found for an action
pub pair_is_candidate : (ps : List LabelPair) → IsDistinct bytes_eq (map (λ p. p.prism) ps) → (l : Option Name) (a : Name) (p : LabelPair) → Some p ≡ find (λ q. bytes_eq a q.prism) ps →
    same_label l p.jani ≡ list_any (same_label (Some a)) (candidates ps l)
pair_is_candidate ps d l a p e = ap (λ o. same_label l (label_in o)) e ∙ is_candidate_for ps d l (Some a) (sym (found_any (λ q. bytes_eq a q.prism) ps) ∙ ap is_some (sym e))

pub no_pair_no_candidate : (ps : List LabelPair) (l : Option Name) (a : Name) → None ≡ find (λ q. bytes_eq a q.prism) ps → false ≡ list_any (same_label (Some a)) (candidates ps l)
no_pair_no_candidate ps l a e = sym (candidate_some ps l a ∙ none_goes ps l a (sym (found_any (λ q. bytes_eq a q.prism) ps) ∙ ap is_some (sym e)))

-- a label that goes with one here has a candidate
pub label_has_candidate : (ps : List LabelPair) (x : Option Name) → has_pair ps x ≡ true → has_candidate ps (jani_label ps x) ≡ true
label_has_candidate ps None h = refl
label_has_candidate ps (Some a) h = by_pairs ps h
  where
    by_label : (l : Option Name) (qs : List LabelPair) → list_any (λ q. same_label l q.jani) qs ≡ true → has_candidate qs l ≡ true
    by_label None qs e = refl
    by_label (Some y) qs e = e

    any_has : (qs : List LabelPair) → list_any (λ q. bytes_eq a q.prism) qs ≡ true → list_any (λ q. same_label (label_in (find (λ r. bytes_eq a r.prism) qs)) q.jani) qs ≡ true
    any_has [] e = absurd cc
    any_has (q ∷ qs) e = by_test (bytes_eq a q.prism) refl e (any_has qs)
      where
        or_true : (b : Bool) → (b || true) ≡ true
        or_true true = refl
        or_true false = refl

        by_test : (b : Bool) → bytes_eq a q.prism ≡ b → (b || list_any (λ r. bytes_eq a r.prism) qs) ≡ true →
            (list_any (λ r. bytes_eq a r.prism) qs ≡ true → list_any (λ r. same_label (label_in (find (λ t. bytes_eq a t.prism) qs)) r.jani) qs ≡ true) →
            list_any (λ r. same_label (label_in (find (λ t. bytes_eq a t.prism) (q ∷ qs))) r.jani) (q ∷ qs) ≡ true
        by_test true f k ih = ap (λ l. list_any (λ r. same_label l r.jani) (q ∷ qs)) (found_first a q qs true f) ∙ ap (λ b. b || list_any (λ r. same_label q.jani r.jani) qs) (same_self q.jani)
        by_test false f k ih =
            ap (λ l. list_any (λ r. same_label l r.jani) (q ∷ qs)) (found_first a q qs false f)
            ∙ ap (λ b. same_label (label_in (find (λ t. bytes_eq a t.prism) qs)) q.jani || b) (ih k) ∙ or_true (same_label (label_in (find (λ t. bytes_eq a t.prism) qs)) q.jani)

    by_pairs : (qs : List LabelPair) → list_any (λ q. bytes_eq a q.prism) qs ≡ true → has_candidate qs (label_in (find (λ r. bytes_eq a r.prism) qs)) ≡ true
    by_pairs qs e = by_label (label_in (find (λ r. bytes_eq a r.prism) qs)) qs (any_has qs e)

-- ---- where each action has a label, and no two have one, labels tell actions apart
-- what the label of an action is among pairs
label_stands : (ps : List LabelPair) (a : Name) → list_any (λ p. bytes_eq a p.prism) ps ≡ true → list_any (λ p. bytes_eq a p.prism && same_label (label_in (find (λ q. bytes_eq a q.prism) ps)) p.jani) ps ≡ true
label_stands [] a h = absurd cc
label_stands (p ∷ ps) a h = by_test (label_stands ps a) (bytes_eq a p.prism) refl h
  where
    or_true : (b : Bool) → (b || true) ≡ true
    or_true true = refl
    or_true false = refl

    by_test : (list_any (λ q. bytes_eq a q.prism) ps ≡ true → list_any (λ q. bytes_eq a q.prism && same_label (label_in (find (λ r. bytes_eq a r.prism) ps)) q.jani) ps ≡ true) →
        (b : Bool) → bytes_eq a p.prism ≡ b → (b || list_any (λ q. bytes_eq a q.prism) ps) ≡ true →
        ((bytes_eq a p.prism && same_label (label_in (find (λ q. bytes_eq a q.prism) (p ∷ ps))) p.jani) || list_any (λ q. bytes_eq a q.prism && same_label (label_in (find (λ r. bytes_eq a r.prism) (p ∷ ps))) q.jani) ps) ≡ true
    by_test ih true e k =
        ap (λ l. (bytes_eq a p.prism && same_label l p.jani) || list_any (λ q. bytes_eq a q.prism && same_label l q.jani) ps) (found_first a p ps true e)
        ∙ ap₂ (λ x y. (x && y) || list_any (λ q. bytes_eq a q.prism && same_label p.jani q.jani) ps) e (same_self p.jani)
    by_test ih false e k =
        ap (λ l. (bytes_eq a p.prism && same_label l p.jani) || list_any (λ q. bytes_eq a q.prism && same_label l q.jani) ps) (found_first a p ps false e)
        ∙ ap (λ y. (bytes_eq a p.prism && same_label (label_in (find (λ q. bytes_eq a q.prism) ps)) p.jani) || y) (ih k)
        ∙ or_true (bytes_eq a p.prism && same_label (label_in (find (λ q. bytes_eq a q.prism) ps)) p.jani)

-- the label of an action that is called is there
some_label : (ps : List LabelPair) (a : Name) → Each (λ p. is_none p.jani ≡ false) ps → list_any (λ p. bytes_eq a p.prism) ps ≡ true → is_none (label_in (find (λ p. bytes_eq a p.prism) ps)) ≡ false
some_label [] a each h = absurd cc
some_label (p ∷ ps) a each h = by_test (some_label ps a each.1) (bytes_eq a p.prism) refl h
  where
    by_test : (list_any (λ q. bytes_eq a q.prism) ps ≡ true → is_none (label_in (find (λ q. bytes_eq a q.prism) ps)) ≡ false) → (b : Bool) → bytes_eq a p.prism ≡ b → (b || list_any (λ q. bytes_eq a q.prism) ps) ≡ true → is_none (label_in (find (λ q. bytes_eq a q.prism) (p ∷ ps))) ≡ false
    by_test ih true e k = ap is_none (found_first a p ps true e) ∙ each.0
    by_test ih false e k = ap is_none (found_first a p ps false e) ∙ ih k

-- pairs with one label are one
one_pair : (ps : List LabelPair) (l : Option Name) (a b : Name) → IsDistinct same_label (map (λ p. p.jani) ps) → list_any (λ p. bytes_eq a p.prism && same_label l p.jani) ps ≡ true → list_any (λ p. bytes_eq b p.prism && same_label l p.jani) ps ≡ true → a ≡ b
unfolding IsDistinct
one_pair [] l a b d h k = absurd cc
one_pair (p ∷ ps) l a b d h k = by_tests (one_pair ps l a b d.1) (bytes_eq a p.prism && same_label l p.jani) (bytes_eq b p.prism && same_label l p.jani) refl refl h k
  where
    behind : (x : Name) (qs : List LabelPair) → Each (λ y. same_label p.jani y ≡ false) (map (λ q. q.jani) qs) → same_label l p.jani ≡ true → list_any (λ q. bytes_eq x q.prism && same_label l q.jani) qs ≡ true → ⊥
    behind x [] e f g = cc
    behind x (q ∷ qs) e f g = by_first (bytes_eq x q.prism) (same_label l q.jani) refl g (behind x qs e.1 f)
      where
        by_first : (r s : Bool) → same_label l q.jani ≡ s → ((r && s) || list_any (λ t. bytes_eq x t.prism && same_label l t.jani) qs) ≡ true →
            (list_any (λ t. bytes_eq x t.prism && same_label l t.jani) qs ≡ true → ⊥) → ⊥
        by_first true true u g ih =
            let same : p.jani ≡ q.jani = sym ((same_label_is l p.jani).0 f) ∙ (same_label_is l q.jani).0 u in
            let no : true ≡ false = sym (same_self p.jani) ∙ ap (same_label p.jani) same ∙ e.0 in cc
        by_first true false u g ih = ih g
        by_first false s u g ih = ih g

    by_tests : (list_any (λ q. bytes_eq a q.prism && same_label l q.jani) ps ≡ true → list_any (λ q. bytes_eq b q.prism && same_label l q.jani) ps ≡ true → a ≡ b) →
        (r s : Bool) → (bytes_eq a p.prism && same_label l p.jani) ≡ r → (bytes_eq b p.prism && same_label l p.jani) ≡ s →
        (r || list_any (λ q. bytes_eq a q.prism && same_label l q.jani) ps) ≡ true → (s || list_any (λ q. bytes_eq b q.prism && same_label l q.jani) ps) ≡ true → a ≡ b
    by_tests ih true true e f h k = bytes_eq-true a p.prism (first_true (bytes_eq a p.prism) _ e) ∙ sym (bytes_eq-true b p.prism (first_true (bytes_eq b p.prism) _ f))
    by_tests ih true false e f h k = absurd (behind b ps d.0 (second_true (bytes_eq a p.prism) _ e) k)
    by_tests ih false true e f h k = absurd (behind a ps d.0 (second_true (bytes_eq b p.prism) _ f) h)
    by_tests ih false false e f h k = ih h k

pub labels_apart : (ps : List LabelPair) → HasLabels ps → (l x : Option Name) → has_pair ps l ≡ true → has_pair ps x ≡ true → same_label (jani_label ps l) (jani_label ps x) ≡ same_label l x
labels_apart ps h None None e f = refl
labels_apart ps h None (Some b) e f = none_some (label_in (find (λ p. bytes_eq b p.prism) ps)) (some_label ps b h.each f)
  where
    none_some : (o : Option Name) → is_none o ≡ false → same_label None o ≡ false
    none_some None g = absurd cc
    none_some (Some y) g = refl
labels_apart ps h (Some a) None e f = some_none (label_in (find (λ p. bytes_eq a p.prism) ps)) (some_label ps a h.each e)
  where
    some_none : (o : Option Name) → is_none o ≡ false → same_label o None ≡ false
    some_none None g = absurd cc
    some_none (Some y) g = refl
labels_apart ps h (Some a) (Some b) e f =
    same_test _ _
    (λ g.
    let same = (same_label_is (jani_label ps (Some a)) (jani_label ps (Some b))).0 g in
    let e1 = one_pair ps (jani_label ps (Some a)) a b h.differ (label_stands ps a e) (subst (λ l. list_any (λ p. bytes_eq b p.prism && same_label l p.jani) ps ≡ true) (sym same) (label_stands ps b f)) in
    (same_label_is (Some a) (Some b)).1 (ap Some e1))
    (λ g. let same = (same_label_is (Some a) (Some b)).0 g in (same_label_is (jani_label ps (Some a)) (jani_label ps (Some b))).1 (ap (jani_label ps) same))
