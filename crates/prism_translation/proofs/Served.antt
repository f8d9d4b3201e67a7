-- Which edges serve the targets of a vector: an edge of the reward writer serves one of them, an edge of another element each.
-- So the ways to take one edge of each participant of the vector are those of its targets.
use Rattle.std.specs.Prelude.{◌≡◌, ℕ, ◌+◌, ◌<◌, ◌≤◌, List, [], ◌∷◌, ◌++◌, map, Bool, true, false, not, ◌&&◌, ◌||◌, cond, Option, Some, None, is_some, if◌then◌else◌, nat_eq, get_or}
use Rattle.std.specs.List.{flat_map, filter, find, list_any, count_by, All}
use Rattle.std.proofs.Common.{refl, sym, ap, ap₂, ◌∙◌, inl, inr, arith, subst, append-nil, ne_eqb}
use Rattle.std.proofs.lemmas.List.Sums.{sum_by-append}
use Rattle.std.proofs.lemmas.List.Elements.{All-nil, All-cons, All-head, All-tail, All-weaker, All-filter, All-append, All-map, filter_passes}
use Rattle.std.proofs.Math.Bool.{or-false, or-true, and-true}
use Rattle.std.proofs.lemmas.Option.{same_Some}
use Rattle.basics.specs.Members.{none_passes}
use Rattle.basics.specs.Numbers.{nat_eq-self}
use Rattle.process_core.specs.Process.{EquallyOften}
use Rattle.process_core.specs.Often.{sum_by-map, often_trans, often_same}
use Rattle.process_core.specs.Ready.{Name}
use Rattle.process_core.specs.Product.{one_of_each}
use Rattle.choice_laws.specs.Products.{AreWhole, IsParted, IsWhole, OneIsParted, Place, parts_for, wholes}
use Rattle.choice_laws.proofs.Members.{parted_once, if_zero, not_counted, count_agree}
use Rattle.choice_laws.proofs.Products.{ways_parted, whole_parts}
use Rattle.choice_laws.proofs.Walks.{filter-filter, filter_agree_in, flat_map_agree_in, any-filter, found_has, has_any}
use Rattle.process_core.specs.Instance.{only_if}
use Rattle.jani_tree.specs.Syntax.{Automaton, Vector, File}
use Rattle.jani_meaning.specs.Elements as jani
use Rattle.prism_translation.specs.Elements.{Element, elements, edges_of, Placed, placed_edges, same_place, action_of, rewards}
use Rattle.prism_translation.specs.Targets.{part_of, is_named, names, edges_named, reward_writer, Target, targets_by, vector_targets, is_another, serves}
use Rattle.prism_translation.proofs.OnlyIf.{count-only_if}
use Rattle.prism_translation.proofs.Numbered.{at_element, counted_own, numbered_from, numbers_from}

-- ---- the targets of a vector
module _ (file : File) (v : Vector) where
  abbrev pub made : Element → Placed → Target
  made el q = record { vector = Some v; writer = Some el.number; maker = Some q }

  abbrev pub plain : Option ℕ → Target
  plain w = record { vector = Some v; writer = w; maker = None }

  abbrev pub made_targets : Element → List Target
  made_targets w = map (made w) (filter (rewards file) (edges_named v w))

  -- ---- edges of the writer
  pub made_serves : (w : Element) (q p : Placed) → p.element ≡ w → names v p ≡ true → serves file (made w q) p ≡ same_place p q
  made_serves w q p e h =
      ap₂ (λ a b. same_place p q || (a && not b)) h (ap (λ (n : Element). nat_eq n.number w.number) e ∙ nat_eq-self w.number) ∙ or-false (same_place p q)

  plain_serves : (w : Element) (p : Placed) → p.element ≡ w → names v p ≡ true → serves file (plain (Some w.number)) p ≡ not (rewards file p)
  plain_serves w p e h =
      ap₂ (λ a b. a && (not (rewards file p) || not b)) h (ap (λ (n : Element). nat_eq n.number w.number) e ∙ nat_eq-self w.number) ∙ or-false (not (rewards file p))

  added_up : (b any : Bool) → (not b ≡ true → any ≡ true) → cond b 1 0 + cond any (cond (not b) 1 0) 0 ≡ 1
  added_up true any h = ap (λ n. 1 + n) (if_zero any)
  added_up false any h = ap (λ (a : Bool). 0 + cond a 1 0) (h refl)

  -- each serves one target
  pub once_served : (w : Element) → All (λ p. count_by (λ t. serves file t p) (targets_by file v (Some w)) ≡ 1) (edges_named v w)
  once_served w k d l =
      let p = get_or (edges_named v w) k d in
      let at : p.element ≡ w = All-filter (names v) (λ p. p.element ≡ w) (placed_edges w) (at_element w 0 (edges_of w)) k d l in
      let called : names v p ≡ true = filter_passes (names v) (placed_edges w) k d l in
      let own : count_by (same_place p) (filter (λ q. names v q && rewards file q) (placed_edges w)) ≡ cond (names v p && rewards file p) 1 0 =
      All-filter (names v) (λ p. count_by (same_place p) (filter (λ q. names v q && rewards file q) (placed_edges w)) ≡ cond (names v p && rewards file p) 1 0) (placed_edges w)
      (counted_own (λ q. names v q && rewards file q) w 0 (edges_of w)) k d l in
      let some : not (rewards file p) ≡ true → list_any (λ p. not (rewards file p)) (edges_named v w) ≡ true = has_any (λ p. not (rewards file p)) (edges_named v w) k d l in
      sum_by-append (λ t. cond (serves file t p) 1 0) (made_targets w) (only_if (list_any (λ p. not (rewards file p)) (edges_named v w)) (plain (Some w.number)))
      ∙ ap₂ (λ a b. a + b)
      (sum_by-map (λ t. cond (serves file t p) 1 0) (made w) (filter (rewards file) (edges_named v w))
      ∙ count_agree (λ q. serves file (made w q) p) (same_place p) (filter (rewards file) (edges_named v w)) (λ q. made_serves w q p at called)
      ∙ ap (count_by (same_place p)) (filter-filter (rewards file) (names v) (placed_edges w))
      ∙ own ∙ ap (λ b. cond (b && rewards file p) 1 0) called)
      (count-only_if (λ t. serves file t p) (list_any (λ p. not (rewards file p)) (edges_named v w)) (plain (Some w.number))
      ∙ ap (λ b. cond (list_any (λ p. not (rewards file p)) (edges_named v w)) (cond b 1 0) 0) (plain_serves w p at called))
      ∙ added_up (rewards file p) (list_any (λ p. not (rewards file p)) (edges_named v w)) some

  -- an edge whose action is not named serves none
  abbrev ServesNamed : Element → Target → Type 0
  ServesNamed el t = All (λ p. names v p ≡ false → serves file t p ≡ false) (placed_edges el)

  plain_named : (el : Element) (w : Option ℕ) → ServesNamed el (plain w)
  plain_named el w k d l h = let p = get_or (placed_edges el) k d in ap (λ b. b && (not (rewards file p) || is_another p.element.number w)) h

  made_named : (w : Element) → All (λ q. ServesNamed w (made w q)) (filter (rewards file) (edges_named v w))
  made_named w =
      All-filter (rewards file) (λ q. ServesNamed w (made w q)) (edges_named v w)
      (λ k d l i a m h.
      let q = get_or (edges_named v w) k d in
      let p = get_or (placed_edges w) i a in
      let none : count_by (same_place p) (edges_named v w) ≡ 0 = counted_own (names v) w 0 (edges_of w) i a m ∙ ap (λ (b : Bool). cond b 1 0) h in
      let other : same_place p q ≡ false = not_counted (same_place p) (edges_named v w) none k d l in
      ap₂ (λ a b. a || (b && (false && not (rewards file p) || is_another p.element.number (Some w.number)))) other h)

  own_named : (w : Element) → All (ServesNamed w) (targets_by file v (Some w))
  own_named w =
      All-append (ServesNamed w) (made_targets w) (only_if (list_any (λ p. not (rewards file p)) (edges_named v w)) (plain (Some w.number)))
      (All-map (ServesNamed w) (made w) (filter (rewards file) (edges_named v w)) (made_named w))
      (if_any (list_any (λ p. not (rewards file p)) (edges_named v w)))
    where
      if_any : (b : Bool) → All (ServesNamed w) (only_if b (plain (Some w.number)))
      if_any true = All-cons (ServesNamed w) (plain (Some w.number)) [] (plain_named w (Some w.number)) (All-nil (ServesNamed w))
      if_any false = All-nil (ServesNamed w)

  -- ---- edges of another element
  abbrev pub ServesAll : Element → Target → Type 0
  ServesAll el t = All (λ p. serves file t p ≡ names v p) (placed_edges el)

  pub plain_other : (el w : Element) → (el.number ≡ w.number → ⊥) → ServesAll el (plain (Some w.number))
  plain_other el w n k d l =
      let p = get_or (placed_edges el) k d in
      let at : p.element ≡ el = at_element el 0 (edges_of el) k d l in
      ap (λ b. names v p && (not (rewards file p) || not b)) (ne_eqb p.element.number w.number (λ h. n (sym (ap (λ (x : Element). x.number) at) ∙ h)))
      ∙ ap (λ b. names v p && b) (or-true (not (rewards file p))) ∙ and-true (names v p)

  pub made_other : (el w : Element) → (el.number ≡ w.number → ⊥) → All (λ q. ServesAll el (made w q)) (filter (rewards file) (edges_named v w))
  made_other el w n =
      All-filter (rewards file) (λ q. ServesAll el (made w q)) (edges_named v w)
      (λ k d l i a m.
      let q = get_or (edges_named v w) k d in
      let p = get_or (placed_edges el) i a in
      let at : p.element ≡ el = at_element el 0 (edges_of el) i a m in
      let there : q.element ≡ w = All-filter (names v) (λ q. q.element ≡ w) (placed_edges w) (at_element w 0 (edges_of w)) k d l in
      ap₂ (λ a b. (a && nat_eq p.number q.number) || (names v p && not b))
      (ne_eqb p.element.number q.element.number (λ h. n (sym (ap (λ (x : Element). x.number) at) ∙ h ∙ ap (λ (x : Element). x.number) there))) (ne_eqb p.element.number w.number (λ h. n (sym (ap (λ (x : Element). x.number) at) ∙ h)))
      ∙ and-true (names v p))

  pub other_serves : (el w : Element) → (el.number ≡ w.number → ⊥) → All (ServesAll el) (targets_by file v (Some w))
  other_serves el w n =
      All-append (ServesAll el) (made_targets w) (only_if (list_any (λ p. not (rewards file p)) (edges_named v w)) (plain (Some w.number)))
      (All-map (ServesAll el) (made w) (filter (rewards file) (edges_named v w)) (made_other el w n))
      (if_any (list_any (λ p. not (rewards file p)) (edges_named v w)))
    where
      if_any : (b : Bool) → All (ServesAll el) (only_if b (plain (Some w.number)))
      if_any true = All-cons (ServesAll el) (plain (Some w.number)) [] (plain_other el w n) (All-nil (ServesAll el))
      if_any false = All-nil (ServesAll el)

  -- ---- edges of an element where no edge with the named action assigns rewards
  none_serves : (el : Element) → list_any (rewards file) (edges_named v el) ≡ false → ServesAll el (plain None)
  none_serves el h k d l =
      let p = get_or (placed_edges el) k d in
      by_name (names v p) (rewards file p)
      (none_passes (λ p. names v p && rewards file p) (placed_edges el) (sym (any-filter (rewards file) (names v) (placed_edges el)) ∙ h) k d l)
    where
      by_name : (a b : Bool) → (a && b) ≡ false → (a && (not b || false)) ≡ a
      by_name true true h = absurd cc
      by_name true false h = refl
      by_name false b h = refl

  -- ---- the edges that may run, whatever they are
  module _ (live : Placed → Bool) where
    abbrev pub serving : Element → Target → List Placed
    serving el t = filter (serves file t) (placed_edges el)

    -- what an element brings to the vector, and to each of its targets
    abbrev pub place : Element → Place Placed Target
    place el = record { all = filter live (edges_named v el); part = λ t. filter live (serving el t) }

    abbrev pub places : List Element → List (Place Placed Target)
    places els = flat_map (λ el. only_if (is_some (part_of v el.number)) (place el)) els

    alike : (n l s : Bool) → (n ≡ false → s ≡ false) → ((n && l) && s) ≡ (s && l)
    alike true true true h = refl
    alike true true false h = refl
    alike true false true h = refl
    alike true false false h = refl
    alike false l s h = ap (λ b. b && l) (sym (h refl))

    writer_parted : (w : Element) → IsParted (targets_by file v (Some w)) (place w)
    writer_parted w =
        let ts = targets_by file v (Some w) in
        let xs = filter live (edges_named v w) in
        often_trans
        (parted_once (serves file) ts xs (All-filter live (λ p. count_by (λ t. serves file t p) ts ≡ 1) (edges_named v w) (once_served w)))
        (often_same _ _ (flat_map_agree_in (λ t. filter (serves file t) xs) (λ t. filter live (serving w t)) ts
        (λ k d l.
        let t = get_or ts k d in
        ap (filter (serves file t)) (filter-filter live (names v) (placed_edges w))
        ∙ filter-filter (serves file t) (λ p. names v p && live p) (placed_edges w)
        ∙ filter_agree_in (λ p. (names v p && live p) && serves file t p) (λ p. serves file t p && live p) (placed_edges w)
        (λ i a m. let p = get_or (placed_edges w) i a in alike (names v p) (live p) (serves file t p) (own_named w k d l i a m))
        ∙ sym (filter-filter live (serves file t) (placed_edges w)))))

    all_serve : (el : Element) (t : Target) → ServesAll el t → filter live (serving el t) ≡ filter live (edges_named v el)
    all_serve el t h = ap (filter live) (filter_agree_in (serves file t) (names v) (placed_edges el) h)

    other_whole : (el w : Element) → (el.number ≡ w.number → ⊥) → IsWhole (targets_by file v (Some w)) (place el)
    other_whole el w n k d l = all_serve el (get_or (targets_by file v (Some w)) k d) (other_serves el w n k d l)

    none_whole : (el : Element) → list_any (rewards file) (edges_named v el) ≡ false → IsWhole (targets_by file v None) (place el)
    none_whole el h = All-cons (λ t. filter live (serving el t) ≡ filter live (edges_named v el)) (plain None) [] (all_serve el (plain None) (none_serves el h)) (All-nil (λ t. filter live (serving el t) ≡ filter live (edges_named v el)))

    -- ---- all elements
    abbrev pub pays : Element → Bool
    pays el = list_any (rewards file) (edges_named v el)

    if_whole : (ts : List Target) (b : Bool) (el : Element) (ps : List (Place Placed Target)) → IsWhole ts (place el) → AreWhole ts ps → AreWhole ts (only_if b (place el) ++ ps)
    if_whole ts true el ps h k = (h, k)
    if_whole ts false el ps h k = k

    -- those behind the writer
    rest_whole : (w : Element) (els : List Element) → All (λ el. w.number < el.number) els → AreWhole (targets_by file v (Some w)) (places els)
    rest_whole w [] h = tt
    rest_whole w (el ∷ els) h =
        if_whole (targets_by file v (Some w)) (is_some (part_of v el.number)) el (places els)
        (other_whole el w (λ e. let l = All-head (λ el. w.number < el.number) el els h in omega arith))
        (rest_whole w els (All-tail (λ el. w.number < el.number) el els h))

    -- one that is no writer, before it
    if_parted : (ts : List Target) (b : Bool) (el : Element) (ps : List (Place Placed Target)) → IsWhole ts (place el) → OneIsParted ts ps → OneIsParted ts (only_if b (place el) ++ ps)
    if_parted ts true el ps h k = inr (h, k)
    if_parted ts false el ps h k = k

    -- who has an edge with the named action takes part
    pub takes_part : (el : Element) → pays el ≡ true → is_some (part_of v el.number) ≡ true
    takes_part el h = by_part (part_of v el.number) refl
      where
        unnamed : part_of v el.number ≡ None → (ps : List Placed) → All (λ p. p.element ≡ el) ps → list_any (rewards file) (filter (names v) ps) ≡ false
        unnamed e [] at = refl
        unnamed e (p ∷ ps) at =
            ap (λ b. list_any (rewards file) (cond b (p ∷ filter (names v) ps) (filter (names v) ps)))
            (ap (λ (n : Element). is_named (part_of v n.number) (action_of p.edge)) (All-head (λ p. p.element ≡ el) p ps at) ∙ ap (λ o. is_named o (action_of p.edge)) e)
            ∙ unnamed e ps (All-tail (λ p. p.element ≡ el) p ps at)

        by_part : (o : Option Name) → part_of v el.number ≡ o → is_some o ≡ true
        by_part (Some x) e = refl
        by_part None e = absurd (let n = unnamed e (placed_edges el) (at_element el 0 (edges_of el)) in cc)

    writer_first : (w : Element) (ps : List (Place Placed Target)) → pays w ≡ true → AreWhole (targets_by file v (Some w)) ps →
        OneIsParted (targets_by file v (Some w)) (only_if (is_some (part_of v w.number)) (place w) ++ ps)
    writer_first w ps h k = by_test (is_some (part_of v w.number)) (takes_part w h)
      where
        by_test : (b : Bool) → b ≡ true → OneIsParted (targets_by file v (Some w)) (only_if b (place w) ++ ps)
        by_test true e = inl (writer_parted w, k)
        by_test false e = absurd cc

    pub one_parted : (w : Element) (k : ℕ) (autos : List Automaton) → find pays (numbered_from k autos) ≡ Some w → OneIsParted (targets_by file v (Some w)) (places (numbered_from k autos))
    one_parted w k [] h = absurd cc
    one_parted w k (a ∷ autos) h = by_test (pays (record { number = k; automaton = a })) refl h (one_parted w (k + 1) autos)
      where
        el : Element
        el = record { number = k; automaton = a }

        later : (u : Element) → k + 1 ≤ u.number → k ≡ u.number → ⊥
        later u l e = omega arith

        by_test : (b : Bool) → pays el ≡ b → (if b then Some el else find pays (numbered_from (k + 1) autos)) ≡ Some w →
            (find pays (numbered_from (k + 1) autos) ≡ Some w → OneIsParted (targets_by file v (Some w)) (places (numbered_from (k + 1) autos))) →
            OneIsParted (targets_by file v (Some w)) (only_if (is_some (part_of v k)) (place el) ++ places (numbered_from (k + 1) autos))
        by_test true e g ih =
            subst (λ (u : Element). OneIsParted (targets_by file v (Some u)) (only_if (is_some (part_of v k)) (place el) ++ places (numbered_from (k + 1) autos))) (same_Some el w g)
            (writer_first el (places (numbered_from (k + 1) autos)) e
            (rest_whole el (numbered_from (k + 1) autos) (All-weaker (λ x. k + 1 ≤ x.number) (λ x. k < x.number) (λ x l. omega arith) (numbered_from (k + 1) autos) (numbers_from (k + 1) autos))))
        by_test false e g ih =
            if_parted (targets_by file v (Some w)) (is_some (part_of v k)) el (places (numbered_from (k + 1) autos))
            (other_whole el w (later w (found_has (λ x. k + 1 ≤ x.number) pays w (numbered_from (k + 1) autos) (numbers_from (k + 1) autos) g))) (ih g)

    all_whole : (els : List Element) → find pays els ≡ None → AreWhole (targets_by file v None) (places els)
    all_whole [] h = tt
    all_whole (el ∷ els) h = by_test (pays el) refl h (all_whole els)
      where
        by_test : (b : Bool) → pays el ≡ b → (if b then Some el else find pays els) ≡ None → (find pays els ≡ None → AreWhole (targets_by file v None) (places els)) →
            AreWhole (targets_by file v None) (only_if (is_some (part_of v el.number)) (place el) ++ places els)
        by_test true e g ih = absurd cc
        by_test false e g ih = if_whole (targets_by file v None) (is_some (part_of v el.number)) el (places els) (none_whole el e) (ih g)

    -- The ways to take one edge of each element that takes part are those for each target in turn.
    pub ways_of_targets :
        EquallyOften (one_of_each (wholes (places (elements file))))
        (flat_map (λ t. one_of_each (parts_for t (places (elements file)))) (vector_targets file v))
    ways_of_targets = by_writer (reward_writer file v) refl
      where
        by_writer : (o : Option Element) → reward_writer file v ≡ o →
            EquallyOften (one_of_each (wholes (places (elements file))))
            (flat_map (λ t. one_of_each (parts_for t (places (elements file)))) (targets_by file v o))
        by_writer (Some w) e = ways_parted (targets_by file v (Some w)) (places (elements file)) (one_parted w 0 (jani.elements file) e)
        by_writer None e =
            often_same _ _ (sym (append-nil (one_of_each (parts_for (plain None) (places (elements file))))
            ∙ ap one_of_each (All-head (λ t. parts_for t (places (elements file)) ≡ wholes (places (elements file))) (plain None) []
            (whole_parts (targets_by file v None) (places (elements file)) (all_whole (elements file) e)))))
