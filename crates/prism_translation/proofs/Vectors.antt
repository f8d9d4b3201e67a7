-- The choices of a vector are those of its targets, each equally often.
use Rattle.std.specs.Prelude.{◌≡◌, ℕ, ◌+◌, List, [], ◌∷◌, map, Bool, true, false, not, ◌&&◌, ◌||◌, Option, Some, None, is_some, nat_eq, get_or, slice_get}
use Rattle.std.specs.List.{flat_map, filter, list_any, All}
use Rattle.std.proofs.Common.{refl, sym, ap, ap₂, ◌∙◌, arith, ne_eqb}
use Rattle.std.proofs.lemmas.List.Elements.{All-nil, All-cons, All-filter, All-append, All-map, filter_passes}
use Rattle.basics.specs.Members.{all_each, filter-map}
use Rattle.frac_core.specs.Fraction.{Fraction}
use Rattle.process_core.specs.Process.{EquallyOften, Choice}
use Rattle.process_core.specs.Product.{one_of_each, map-flat_map, flat_map_agree, flat_map-flat_map}
use Rattle.process_core.specs.Often.{often_refl, often_same, often_sym, often_trans, often-flat_map}
use Rattle.process_core.specs.Ready.{Values, Name, Ready, Sum, same_label, has_action, together, taking}
use Rattle.process_core.specs.Choices.{choice_of, choices}
use Rattle.choice_laws.specs.Products.{Place, parts_for, wholes}
use Rattle.choice_laws.specs.Rewards.{earning, is_enabled}
use Rattle.choice_laws.proofs.Rewards.{choices_enabled, choices_ways}
use Rattle.choice_laws.proofs.Walks.{any_left, filter-filter, filter_agree_in, filter_none, flat_map_agree_in, has_some}
use Rattle.process_core.specs.Instance.{numbered, only_if}
use Rattle.jani_tree.specs.Syntax.{Vector, File}
use Rattle.jani_meaning.specs.Elements as jani
use Rattle.jani_meaning.specs.Moment.{vector_of}
use Rattle.prism_translation.specs.Elements.{Element, elements, edges_of, Placed, placed_edges, action_of, rewards}
use Rattle.prism_translation.specs.Targets.{part_of, is_named, names, edges_named, Target, targets_by, vector_targets, reward_writer, serves, is_another, has_part, result_of, old_name, old_name_by}
use Rattle.prism_translation.specs.Modules.{Action}
use Rattle.prism_translation.proofs.OnlyIf.{map-only_if}
use Rattle.prism_translation.proofs.Taking.{taken, taking_walk}
use Rattle.prism_translation.proofs.Numbered.{at_element, numbered_walk}
use Rattle.prism_translation.proofs.Served.{made, plain, made_targets, places, place, ways_of_targets}
use Rattle.prism_translation.proofs.CommandsAlike.{Evaluation, element_ready, live, AreCommands, joins, lists}

-- ---- the targets of a vector
module _ (file : File) (v : Vector) where
  abbrev IsOf : Target → Type 0
  IsOf t = t.vector ≡ Some v

  only_of : (b : Bool) (t : Target) (P : Target → Type 0) → P t → All P (only_if b t)
  only_of true t P h = All-cons P t [] h (All-nil P)
  only_of false t P h = All-nil P

  -- what holds of those that are made and of plain ones holds of all
  pub all_targets : (P : Target → Type 0) → ((w : Element) → All (λ q. P (made file v w q)) (filter (rewards file) (edges_named v w))) → ((w : Option ℕ) → P (plain file v w)) → (o : Option Element) → All P (targets_by file v o)
  all_targets P h k None = All-cons P (plain file v None) [] (k None) (All-nil P)
  all_targets P h k (Some w) =
      All-append P (made_targets file v w) (only_if (list_any (λ p. not (rewards file p)) (edges_named v w)) (plain file v (Some w.number)))
      (All-map P (made file v w) (filter (rewards file) (edges_named v w)) (h w))
      (only_of (list_any (λ p. not (rewards file p)) (edges_named v w)) (plain file v (Some w.number)) P (k (Some w.number)))

  pub are_of : All IsOf (vector_targets file v)
  are_of = all_targets IsOf (λ w. all_each (λ q. IsOf (made file v w q)) (λ q. refl) (filter (rewards file) (edges_named v w))) (λ w. refl) (reward_writer file v)

  -- who takes no part has no edge that serves
  unnamed : (el : Element) → part_of v el.number ≡ None → All (λ p. names v p ≡ false) (placed_edges el)
  unnamed el h k d l =
      let p = get_or (placed_edges el) k d in
      ap (λ (n : Element). is_named (part_of v n.number) (action_of p.edge)) (at_element el 0 (edges_of el) k d l) ∙ ap (λ o. is_named o (action_of p.edge)) h

  none_serves : (el : Element) → part_of v el.number ≡ None → All (λ t. All (λ p. serves file t p ≡ false) (placed_edges el)) (vector_targets file v)
  none_serves el h =
      all_targets (λ t. All (λ p. serves file t p ≡ false) (placed_edges el))
      (λ w. All-filter (rewards file) (λ q. All (λ p. serves file (made file v w q) p ≡ false) (placed_edges el)) (edges_named v w)
      (λ k d l i a m.
      let q = get_or (edges_named v w) k d in
      let p = get_or (placed_edges el) i a in
      let called : names v q ≡ true = filter_passes (names v) (placed_edges w) k d l in
      let at : p.element ≡ el = at_element el 0 (edges_of el) i a m in
      let apart : p.element.number ≡ q.element.number → ⊥ = λ e. clash q (ap (λ n. is_named (part_of v n) (action_of q.edge)) (sym e ∙ ap (λ (x : Element). x.number) at) ∙ ap (λ o. is_named o (action_of q.edge)) h) called in
      ap₂ (λ x y. (x && nat_eq p.number q.number) || (y && (false && not (rewards file p) || is_another p.element.number (Some w.number))))
      (ne_eqb p.element.number q.element.number apart) (unnamed el h i a m)))
      (λ w k d l. let p = get_or (placed_edges el) k d in ap (λ y. y && (not (rewards file p) || is_another p.element.number w)) (unnamed el h k d l))
      (reward_writer file v)
    where
      clash : (q : Placed) → names v q ≡ false → names v q ≡ true → ⊥
      clash q e f = absurd cc

  none_any : {X : Type 0} (q : X → Bool) (xs : List X) → All (λ x. q x ≡ false) xs → list_any q xs ≡ false
  none_any q xs h = any_left q xs ∙ ap has_some (filter_none q xs h)

  module _ (acts : List Action) (seen : Evaluation) where
    abbrev runs : Placed → Bool
    runs p = live file acts seen p

    abbrev joins_here : Target → Element → Bool
    joins_here t el = joins file acts seen t el

    -- those that have a command for a target are those that take part in its vector
    joins_by : (el : Element) (t : Target) (o : Option Name) → part_of v el.number ≡ o → t.vector ≡ Some v →
        (o ≡ None → All (λ p. serves file t p ≡ false) (placed_edges el)) → joins_here t el ≡ is_some o
    joins_by el t (Some x) e f h =
        ap (λ b. list_any (serves file t) (placed_edges el) || (b && not (list_any (serves file t) (placed_edges el)))) (ap (has_part el.number) f ∙ ap is_some e)
        ∙ one_of_two (list_any (serves file t) (placed_edges el))
      where
        one_of_two : (b : Bool) → (b || (true && not b)) ≡ true
        one_of_two true = refl
        one_of_two false = refl
    joins_by el t None e f h =
        ap₂ (λ b c. b || (c && not b)) (none_any (serves file t) (placed_edges el) (h refl)) (ap (has_part el.number) f ∙ ap is_some e)

    pub joins_part : (el : Element) → All (λ t. joins_here t el ≡ is_some (part_of v el.number)) (vector_targets file v)
    joins_part el k d l =
        let t = get_or (vector_targets file v) k d in
        joins_by el t (part_of v el.number) refl (are_of k d l) (λ e. none_serves el e k d l)

    abbrev spots : List Element → List (Place Placed Target)
    spots els = places file v runs els

    lists_parts : All (λ t. lists file acts seen t ≡ parts_for t (spots (elements file))) (vector_targets file v)
    lists_parts k d l =
        let t = get_or (vector_targets file v) k d in
        flat_map_agree _ _
        (λ el. ap (λ b. only_if b (filter runs (filter (serves file t) (placed_edges el)))) (joins_part el k d l)
        ∙ sym (map-only_if (λ p. p.part t) (is_some (part_of v el.number)) (place file v runs el))) (elements file)
        ∙ sym (map-flat_map (λ p. p.part t) (λ el. only_if (is_some (part_of v el.number)) (place file v runs el)) (elements file))

    -- ---- the vector itself
    abbrev element_here : Element → List Ready
    element_here el = element_ready file acts seen el

    module _ (are : AreCommands file acts seen) where
      abbrev all_here : Element → List Placed
      all_here el = filter runs (edges_named v el)

      named_here : (el : Element) (x : Name) → part_of v el.number ≡ Some x →
          filter is_enabled (filter (has_action (Some x)) (element_here el)) ≡ map seen.edge (all_here el)
      named_here el x e =
          ap (filter is_enabled) (filter-map (has_action (Some x)) seen.edge (filter seen.current (placed_edges el)))
          ∙ filter-map is_enabled seen.edge (filter (λ p. has_action (Some x) (seen.edge p)) (filter seen.current (placed_edges el)))
          ∙ ap (map seen.edge)
          (ap (filter (λ p. is_enabled (seen.edge p))) (filter-filter (λ p. has_action (Some x) (seen.edge p)) seen.current (placed_edges el))
          ∙ filter-filter (λ p. is_enabled (seen.edge p)) (λ p. seen.current p && has_action (Some x) (seen.edge p)) (placed_edges el)
          ∙ filter_agree_in (λ p. (seen.current p && has_action (Some x) (seen.edge p)) && is_enabled (seen.edge p)) (λ p. names v p && runs p) (placed_edges el)
          (λ k d l.
          let p = get_or (placed_edges el) k d in
          turned (seen.current p) (has_action (Some x) (seen.edge p)) (is_enabled (seen.edge p)) (names v p)
          (ap (same_label (Some x)) (are.edge p)
          ∙ sym (ap (λ (n : Element). is_named (part_of v n.number) (action_of p.edge)) (at_element el 0 (edges_of el) k d l) ∙ ap (λ o. is_named o (action_of p.edge)) e)))
          ∙ sym (filter-filter runs (names v) (placed_edges el)))
        where
          turned : (a b c n : Bool) → b ≡ n → ((a && b) && c) ≡ (n && (a && c))
          turned a b c n h = ap (λ x. (a && x) && c) h ∙ by_test n a c
            where
              by_test : (n a c : Bool) → ((a && n) && c) ≡ (n && (a && c))
              by_test true true c = refl
              by_test true false c = refl
              by_test false true c = refl
              by_test false false c = refl

      taken_here : (el : Element) (o : Option Name) → part_of v el.number ≡ o → map (filter is_enabled) (taken o (element_here el)) ≡ map (map seen.edge) (only_if (is_some o) (all_here el))
      taken_here el None e = refl
      taken_here el (Some x) e = ap (λ l. l ∷ []) (named_here el x e)

      from_none : (i : ℕ) → slice_get v.parts (0 + i) ≡ slice_get v.parts i
      from_none i = let e : 0 + i ≡ i = omega arith in ap (slice_get v.parts) e

      abbrev pub elements_here : List (List Ready)
      elements_here = numbered (λ k a. element_here (record { number = k; automaton = a }) ∷ []) 0 (jani.elements file)

      taken_all : map (filter is_enabled) (taking (vector_of v).parts elements_here) ≡ map (map seen.edge) (wholes (spots (elements file)))
      taken_all =
          ap (map (filter is_enabled))
          (taking_walk (λ k a. element_here (record { number = k; automaton = a })) v.parts v.parts 0 (jani.elements file) from_none
          ∙ sym (numbered_walk (λ el. taken (part_of v el.number) (element_here el)) 0 (jani.elements file)))
          ∙ map-flat_map (filter is_enabled) (λ el. taken (part_of v el.number) (element_here el)) (elements file)
          ∙ flat_map_agree _ _ (λ el. taken_here el (part_of v el.number) refl) (elements file)
          ∙ sym (map-flat_map (map seen.edge) (λ el. only_if (is_some (part_of v el.number)) (all_here el)) (elements file))
          ∙ ap (map (map seen.edge))
          (flat_map_agree _ _ (λ el. sym (map-only_if (λ p. p.all) (is_some (part_of v el.number)) (place file v runs el))) (elements file)
          ∙ sym (map-flat_map (λ p. p.all) (λ el. only_if (is_some (part_of v el.number)) (place file v runs el)) (elements file)))

      -- The choices of the vector are those of the edges that serve its targets.
      pub choices_of_vector : (u : Values) (none : List Sum) →
          EquallyOften (flat_map (λ t. choices u (together (old_name t) none (map (map seen.edge) (lists file acts seen t)))) (vector_targets file v))
          (choices u (together (result_of v) none (taking (vector_of v).parts elements_here)))
      choices_of_vector u none =
          let ts = vector_targets file v in
          let H : List Placed → List (Choice Name Fraction Values) = λ ps. choice_of u (earning (result_of v) none (map seen.edge ps)) in
          often_trans
          (often_same _ _
          (flat_map_agree_in (λ t. choices u (together (old_name t) none (map (map seen.edge) (lists file acts seen t)))) (λ t. flat_map H (one_of_each (parts_for t (spots (elements file))))) ts
          (λ k d l.
          let t = get_or ts k d in
          ap₂ (λ n ls. choices u (together n none (map (map seen.edge) ls))) (ap old_name_by (are_of k d l)) (lists_parts k d l)
          ∙ choices_ways seen.edge u (result_of v) none (parts_for t (spots (elements file))))
          ∙ sym (flat_map-flat_map H (λ t. one_of_each (parts_for t (spots (elements file)))) ts)))
          (often_trans (often_sym (often-flat_map H H (ways_of_targets file v runs) (λ ps. often_refl (H ps))))
          (often_same _ _
          (sym (choices_ways seen.edge u (result_of v) none (wholes (spots (elements file))))
          ∙ ap (λ ls. choices u (together (result_of v) none ls)) (sym taken_all)
          ∙ sym (choices_enabled u (result_of v) none (taking (vector_of v).parts elements_here)))))
