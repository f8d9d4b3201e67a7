-- The choices of silent edges are those of the commands without action, and of the targets that are made for silent edges.
use Rattle.std.specs.Prelude.{◌≡◌, ℕ, ◌+◌, ◌<◌, ◌≤◌, List, [], ◌∷◌, ◌++◌, map, Bool, true, false, not, ◌&&◌, ◌||◌, cond, Option, Some, None, is_none, get_or, IsTrue}
use Rattle.std.specs.List.{flat_map, filter, list_any, All}
use Rattle.std.proofs.Common.{refl, sym, ap, ap₂, ◌∙◌, append-nil, arith}
use Rattle.std.proofs.lemmas.List.Elements.{filter-append, All-nil, All-cons, All-head, All-tail, All-weaker, All-filter, filter_agree, filter_passes}
use Rattle.std.proofs.lemmas.List.Folds.{flat_map-map}
use Rattle.std.proofs.lemmas.List.Concat.{flat_map-append}
use Rattle.std.specs.Option.{option_map}
use Rattle.std.proofs.Math.Bool.{or-false, and-true, not-not}
use Rattle.basics.specs.Members.{all_each, filter-map}
use Rattle.bridge_io.specs.declared.reason.Named.{Named}
use Rattle.frac_core.specs.Fraction.{Fraction}
use Rattle.process_core.specs.Process.{EquallyOften, Choice, choice_image}
use Rattle.process_core.specs.Product.{map-flat_map, flat_map_agree, flat_map-flat_map}
use Rattle.process_core.specs.Often.{often_refl, often_same, often_sym, often_trans, often-flat_map, often_two}
use Rattle.process_core.specs.Ready.{Values, Name, Reward, Ready, Sum, same_label, has_action, alone, silent, together}
use Rattle.process_core.specs.Choices.{choice_of, choices}
use Rattle.process_core.specs.Follow.{FollowsReady, choice_same}
use Rattle.choice_laws.specs.Rewards.{EarnsBy, bare_ready, is_enabled}
use Rattle.choice_laws.proofs.Rewards.{PaysHere, choice_bare, disabled, way_earns}
use Rattle.choice_laws.proofs.Walks.{any_left, filter-filter, filter-flat_map, filter_none, filter_walk, flat_map_agree_in, has_some, kept_walk_in}
use Rattle.choice_laws.proofs.Truths.{and_moved, and_turned}
use Rattle.choice_laws.proofs.Members.{often_both}
use Rattle.process_core.specs.Instance.{only_if}
use Rattle.jani_tree.specs.Syntax.{Automaton, File}
use Rattle.jani_meaning.specs.Elements as jani
use Rattle.prism_translation.specs.Elements.{Element, elements, edges_of, Placed, placed_edges, same_place, rewards}
use Rattle.prism_translation.specs.Targets.{Target, is_silent, serves, serves_silently, is_blocked, silent_targets, old_name}
use Rattle.prism_translation.specs.Modules.{Action}
use Rattle.prism_translation.proofs.OnlyIf.{filter-only_if}
use Rattle.prism_translation.proofs.Numbered.{at_element, numbered_from, other_place, own_place, numbers_from}
use Rattle.prism_translation.proofs.CommandsAlike.{Evaluation, element_ready, module_ready, commands_at, live, AreCommands, joins, lists}

-- ---- one edge among the others
abbrev pub silently : Placed → Target
silently q = record { vector = None; writer = None; maker = Some q }

module _ (file : File) (acts : List Action) (seen : Evaluation) where
  abbrev runs : Placed → Bool
  runs p = live file acts seen p

  serves_own : (q p : Placed) → serves file (silently q) p ≡ same_place p q
  serves_own q p = or-false (same_place p q)

  -- what an element brings to a target that is made for a silent edge
  abbrev brings : Placed → Element → List (List Placed)
  brings q el = only_if (joins file acts seen (silently q) el) (filter runs (filter (serves file (silently q)) (placed_edges el)))

  brings_by : (q : Placed) (el : Element) → brings q el ≡ only_if (has_some (filter (λ p. same_place p q) (placed_edges el))) (filter runs (filter (λ p. same_place p q) (placed_edges el)))
  brings_by q el =
      let e = filter_agree (serves file (silently q)) (λ p. same_place p q) (serves_own q) (placed_edges el) in
      ap₂ (λ b l. only_if b (filter runs l)) (or-false (list_any (serves file (silently q)) (placed_edges el)) ∙ any_left (serves file (silently q)) (placed_edges el) ∙ ap has_some e) e

  brings_other : (q : Placed) (el : Element) → (el.number ≡ q.element.number → ⊥) → brings q el ≡ []
  brings_other q el n = brings_by q el ∙ ap (λ l. only_if (has_some l) (filter runs l)) (other_place q el n)

  brings_own : (el : Element) → All (λ q. brings q el ≡ filter runs (q ∷ []) ∷ []) (placed_edges el)
  brings_own el k d l = let q = get_or (placed_edges el) k d in brings_by q el ∙ ap (λ ps. only_if (has_some ps) (filter runs ps)) (own_place el 0 (edges_of el) k d l)

  brings_none : (q : Placed) (els : List Element) → All (λ el. q.element.number < el.number) els → flat_map (brings q) els ≡ []
  brings_none q [] h = refl
  brings_none q (el ∷ els) h =
      ap₂ (λ a b. a ++ b) (brings_other q el (λ e. let l = All-head (λ el. q.element.number < el.number) el els h in omega arith)) (brings_none q els (All-tail (λ el. q.element.number < el.number) el els h))

  brought_from : (k : ℕ) (xs : List Automaton) → All (λ el. All (λ q. flat_map (brings q) (numbered_from k xs) ≡ filter runs (q ∷ []) ∷ []) (placed_edges el)) (numbered_from k xs)
  brought_from k [] = All-nil (λ el. All (λ q. flat_map (brings q) [] ≡ filter runs (q ∷ []) ∷ []) (placed_edges el))
  brought_from k (a ∷ xs) =
      let el : Element = record { number = k; automaton = a } in
      let rest = numbered_from (k + 1) xs in
      All-cons (λ other. All (λ q. flat_map (brings q) (el ∷ rest) ≡ filter runs (q ∷ []) ∷ []) (placed_edges other)) el rest
      (λ i d l.
      let q = get_or (placed_edges el) i d in
      let at : q.element ≡ el = at_element el 0 (edges_of el) i d l in
      ap₂ (λ x y. x ++ y) (brings_own el i d l)
      (brings_none q rest (All-weaker (λ x. k + 1 ≤ x.number) (λ x. q.element.number < x.number) (λ x m. let n : q.element.number ≡ k = ap (λ (y : Element). y.number) at in omega arith) rest (numbers_from (k + 1) xs))))
      (λ j b m i d l.
      let other = get_or rest j b in
      let q = get_or (placed_edges other) i d in
      let at : q.element ≡ other = at_element other 0 (edges_of other) i d l in
      let above : k + 1 ≤ other.number = numbers_from (k + 1) xs j b m in
      ap₂ (λ x y. x ++ y) (brings_other q el (λ e. let n : q.element.number ≡ other.number = ap (λ (y : Element). y.number) at in omega arith)) (brought_from (k + 1) xs j b m i d l))

  -- it has the edge alone, if it may run
  pub lists_silent : All (λ el. All (λ q. lists file acts seen (silently q) ≡ filter runs (q ∷ []) ∷ []) (placed_edges el)) (elements file)
  lists_silent = brought_from 0 (jani.elements file)

  -- ---- choices of one edge
  abbrev pub alone_choices : Values → List Sum → Placed → List (Choice Name Fraction Values)
  alone_choices u none p = choice_of u (alone none (seen.edge p))

  abbrev pub of_target : Values → List Sum → Target → List (Choice Name Fraction Values)
  of_target u none t = choices u (together (old_name t) none (map (map seen.edge) (lists file acts seen t)))

  one_alone : (u : Values) (none : List Sum) (q : Placed) → lists file acts seen (silently q) ≡ filter runs (q ∷ []) ∷ [] →
      of_target u none (silently q) ≡ cond (runs q) (alone_choices u none q) []
  one_alone u none q e =
      ap (λ ls. choices u (together None none (map (map seen.edge) ls))) e ∙ by_test (runs q)
    where
      by_test : (b : Bool) → choices u (together None none (map (map seen.edge) (cond b (q ∷ []) [] ∷ []))) ≡ cond b (alone_choices u none q) []
      by_test true = append-nil (alone_choices u none q)
      by_test false = refl

  -- the silent edges that pass a test and may run
  abbrev walk : (Placed → Bool) → (Placed → List (Choice Name Fraction Values)) → Element → List (Choice Name Fraction Values)
  walk test f el = flat_map f (filter (λ p. test p && runs p) (placed_edges el))

  targets_walk : (u : Values) (none : List Sum) →
      flat_map (of_target u none) (silent_targets file) ≡ flat_map (walk (λ p. is_silent p && rewards file p) (alone_choices u none)) (elements file)
  targets_walk u none =
      flat_map-flat_map (of_target u none) (λ el. map silently (filter (λ p. is_silent p && rewards file p) (placed_edges el))) (elements file)
      ∙ flat_map_agree_in _ _ (elements file)
      (λ k d l.
      let el = get_or (elements file) k d in
      let test = λ (p : Placed). is_silent p && rewards file p in
      flat_map-map (of_target u none) silently (filter test (placed_edges el))
      ∙ kept_walk_in runs (λ q. of_target u none (silently q)) (alone_choices u none) (filter test (placed_edges el))
      (All-filter test (λ x. (runs x ≡ true → of_target u none (silently x) ≡ alone_choices u none x) × (runs x ≡ false → of_target u none (silently x) ≡ [])) (placed_edges el)
      (λ i b m.
      let q = get_or (placed_edges el) i b in
      let o = one_alone u none q (lists_silent k d l i b m) in
      ((λ h. o ∙ ap (λ c. cond c (alone_choices u none q) []) h), (λ h. o ∙ ap (λ c. cond c (alone_choices u none q) []) h))))
      ∙ ap (flat_map (alone_choices u none)) (filter-filter runs test (placed_edges el)))

  -- ---- the file's silent edges
  abbrev here : Element → List Ready
  here el = element_ready file acts seen el

  module _ (are : AreCommands file acts seen) where
    silent_action : (p : Placed) → has_action None (seen.edge p) ≡ is_silent p
    silent_action p = ap (same_label None) (are.edge p) ∙ by_action p.edge.action
      where
        by_action : (o : Option Named) → same_label None (option_map (λ a. a.name) o) ≡ is_none o
        by_action None = refl
        by_action (Some a) = refl

    -- one that isn't enabled gives nothing
    not_enabled : (u : Values) (own : List Sum) (r : Ready) → is_enabled r ≡ false → choice_of u (alone own r) ≡ []
    not_enabled u own r h = disabled u None own (r ∷ []) (ap (λ b. not b || false) h)

    edges_walk : (u : Values) (none : List Sum) → choices u (silent none (map here (elements file))) ≡ flat_map (walk is_silent (alone_choices u none)) (elements file)
    edges_walk u none =
        flat_map-flat_map (choice_of u) (λ m. map (alone none) (filter (has_action None) m)) (map here (elements file))
        ∙ flat_map-map (λ m. flat_map (choice_of u) (map (alone none) (filter (has_action None) m))) here (elements file)
        ∙ flat_map_agree _ _
        (λ el.
        flat_map-map (choice_of u) (alone none) (filter (has_action None) (here el))
        ∙ ap (flat_map (λ r. choice_of u (alone none r))) (filter-map (has_action None) seen.edge (filter seen.current (placed_edges el)))
        ∙ flat_map-map (λ r. choice_of u (alone none r)) seen.edge (filter (λ p. has_action None (seen.edge p)) (filter seen.current (placed_edges el)))
        ∙ ap (flat_map (alone_choices u none)) (filter_agree (λ p. has_action None (seen.edge p)) is_silent silent_action (filter seen.current (placed_edges el)) ∙ filter-filter is_silent seen.current (placed_edges el))
        ∙ kept_walk_in (λ p. is_enabled (seen.edge p)) (alone_choices u none) (alone_choices u none) (filter (λ p. seen.current p && is_silent p) (placed_edges el))
        (λ k d l. let p = get_or (filter (λ p. seen.current p && is_silent p) (placed_edges el)) k d in ((λ h. refl), (λ h. not_enabled u none (seen.edge p) h)))
        ∙ ap (flat_map (alone_choices u none))
        (filter-filter (λ p. is_enabled (seen.edge p)) (λ p. seen.current p && is_silent p) (placed_edges el)
        ∙ filter_agree (λ p. (seen.current p && is_silent p) && is_enabled (seen.edge p)) (λ p. is_silent p && runs p) (λ p. and_turned (seen.current p) (is_silent p) (is_enabled (seen.edge p))) (placed_edges el)))
        (elements file)

    -- ---- commands without action
    module _ (has : Values → Bool) (state : Values → Values) (label : Option Name → Option Name) (paid : Placed → List Reward) where
      silent_commands : (el : Element) → filter (has_action None) (module_ready file acts seen el) ≡ map (λ p. seen.command p None) (filter (serves_silently file) (placed_edges el))
      silent_commands el =
          filter-append (has_action None) (flat_map (commands_at file acts seen) (placed_edges el)) (map (λ t. seen.block t.name) (filter (λ t. is_blocked file el t.target) acts))
          ∙ ap₂ (λ a b. a ++ b)
          (filter-flat_map (has_action None) (commands_at file acts seen) (placed_edges el)
          ∙ flat_map_agree _ _
          (λ p.
          filter-append (has_action None) (map (λ t. seen.command p (Some t.name)) (filter (λ t. serves file t.target p) acts)) (only_if (serves_silently file p) (seen.command p None))
          ∙ ap₂ (λ a b. a ++ b)
          (filter-map (has_action None) (λ t. seen.command p (Some t.name)) (filter (λ t. serves file t.target p) acts)
          ∙ ap (map (λ t. seen.command p (Some t.name)))
          (filter_none (λ t. has_action None (seen.command p (Some t.name))) (filter (λ t. serves file t.target p) acts)
          (all_each (λ t. has_action None (seen.command p (Some t.name)) ≡ false) (λ t. ap (same_label None) (are.command p (Some t.name))) (filter (λ t. serves file t.target p) acts))))
          (filter-only_if (has_action None) (serves_silently file p) (seen.command p None)
          ∙ ap (λ b. only_if (serves_silently file p && b) (seen.command p None)) (ap (same_label None) (are.command p None))
          ∙ ap (λ b. only_if b (seen.command p None)) (and-true (serves_silently file p))))
          (placed_edges el)
          ∙ filter_walk (serves_silently file) (λ p. seen.command p None) (placed_edges el))
          (filter-map (has_action None) (λ t. seen.block t.name) (filter (λ t. is_blocked file el t.target) acts)
          ∙ ap (map (λ t. seen.block t.name))
          (filter_none (λ t. has_action None (seen.block t.name)) (filter (λ t. is_blocked file el t.target) acts)
          (all_each (λ t. has_action None (seen.block t.name) ≡ false) (λ t. ap (same_label None) (are.block t.name)) (filter (λ t. is_blocked file el t.target) acts))))
          ∙ append-nil (map (λ p. seen.command p None) (filter (serves_silently file) (placed_edges el)))

      -- a silent edge that assigns no rewards has the choices of its command
      abbrev pub IsAlike : Values → List Sum → List Sum → Placed → Type 0
      IsAlike s none given p =
          serves_silently file p ≡ true → runs p ≡ true →
          FollowsReady has state (seen.command p None) (bare_ready (seen.edge p)) × (PaysHere seen.edge paid p × EarnsBy none given (paid p ++ []))

      alike : (s : Values) → IsTrue (has s) → (none given : List Sum) → label None ≡ None → (p : Placed) → IsAlike s none given p → serves_silently file p ≡ true → runs p ≡ true →
          map (choice_image label state) (choice_of s (alone given (seen.command p None))) ≡ alone_choices (state s) none p
      alike s i none given e p h x y =
          let k = h x y in
          sym (choice_same has state label s i (alone given (seen.command p None)) (alone given (bare_ready (seen.edge p)))
          (record { labels = sym e; rewards = refl; participants = (k.0, tt) }))
          ∙ sym (choice_bare (state s) None none given (seen.edge p ∷ [])
          (way_earns seen.edge paid none given (p ∷ []) (All-cons (PaysHere seen.edge paid) p [] k.1.0 (All-nil (PaysHere seen.edge paid))) k.1.1))

      commands_walk : (s : Values) → IsTrue (has s) → (none given : List Sum) → label None ≡ None → All (λ el. All (IsAlike s none given) (placed_edges el)) (elements file) →
          map (choice_image label state) (choices s (silent given (map (module_ready file acts seen) (elements file))))
          ≡ flat_map (walk (serves_silently file) (alone_choices (state s) none)) (elements file)
      commands_walk s i none given e h =
          ap (map (choice_image label state))
          (flat_map-flat_map (choice_of s) (λ m. map (alone given) (filter (has_action None) m)) (map (module_ready file acts seen) (elements file))
          ∙ flat_map-map (λ m. flat_map (choice_of s) (map (alone given) (filter (has_action None) m))) (module_ready file acts seen) (elements file))
          ∙ map-flat_map (choice_image label state) (λ el. flat_map (choice_of s) (map (alone given) (filter (has_action None) (module_ready file acts seen el)))) (elements file)
          ∙ flat_map_agree_in _ (walk (serves_silently file) (alone_choices (state s) none)) (elements file)
          (λ j c m.
          let el = get_or (elements file) j c in
          ap (map (choice_image label state))
          (flat_map-map (choice_of s) (alone given) (filter (has_action None) (module_ready file acts seen el))
          ∙ ap (flat_map (λ r. choice_of s (alone given r))) (silent_commands el)
          ∙ flat_map-map (λ r. choice_of s (alone given r)) (λ p. seen.command p None) (filter (serves_silently file) (placed_edges el)))
          ∙ map-flat_map (choice_image label state) (λ p. choice_of s (alone given (seen.command p None))) (filter (serves_silently file) (placed_edges el))
          ∙ kept_walk_in runs (λ p. map (choice_image label state) (choice_of s (alone given (seen.command p None)))) (alone_choices (state s) none) (filter (serves_silently file) (placed_edges el))
          (λ k d l.
          let ps = filter (serves_silently file) (placed_edges el) in
          let p = get_or ps k d in
          let x = filter_passes (serves_silently file) (placed_edges el) k d l in
          let f = All-filter (serves_silently file) (IsAlike s none given) (placed_edges el) (h j c m) k d l in
          let b = All-filter (serves_silently file) (λ p. (a : Option Name) → is_enabled (seen.command p a) ≡ runs p) (placed_edges el) (are.enabled j c m) k d l in
          ((λ y. alike s i none given e p f x y), (λ y. ap (map (choice_image label state)) (not_enabled s given (seen.command p None) (b None ∙ y)))))
          ∙ ap (flat_map (alone_choices (state s) none)) (filter-filter runs (serves_silently file) (placed_edges el)))

      -- The choices of silent edges are those of commands without action and of the targets of silent edges, equally often.
      pub choices_of_silent : (s : Values) → IsTrue (has s) → (none given : List Sum) → label None ≡ None → All (λ el. All (IsAlike s none given) (placed_edges el)) (elements file) →
          EquallyOften
          (map (choice_image label state) (choices s (silent given (map (module_ready file acts seen) (elements file))))
          ++ flat_map (of_target (state s) none) (silent_targets file))
          (choices (state s) (silent none (map here (elements file))))
      choices_of_silent s i none given e h =
          let u = state s in
          let K = alone_choices u none in
          often_trans
          (often_same _ _ (ap₂ (λ a b. a ++ b) (commands_walk s i none given e h) (targets_walk u none)))
          (often_trans
          (often_sym (often_two (walk (serves_silently file) K) (walk (λ p. is_silent p && rewards file p) K) (elements file)))
          (often_trans
          (often-flat_map (λ el. walk (serves_silently file) K el ++ walk (λ p. is_silent p && rewards file p) K el) (walk is_silent K) (often_refl (elements file))
          (λ el.
          often_sym (often_trans
          (often-flat_map K K (often_both (λ p. not (rewards file p)) (filter (λ p. is_silent p && runs p) (placed_edges el))) (λ p. often_refl (K p)))
          (often_same _ _
          (flat_map-append K (filter (λ p. not (rewards file p)) (filter (λ p. is_silent p && runs p) (placed_edges el))) (filter (λ p. not (not (rewards file p))) (filter (λ p. is_silent p && runs p) (placed_edges el)))
          ∙ ap₂ (λ a b. flat_map K a ++ flat_map K b)
          (filter-filter (λ p. not (rewards file p)) (λ p. is_silent p && runs p) (placed_edges el) ∙ filter_agree (λ p. (is_silent p && runs p) && not (rewards file p)) (λ p. serves_silently file p && runs p) (λ p. and_moved (is_silent p) (runs p) (not (rewards file p))) (placed_edges el))
          (filter-filter (λ p. not (not (rewards file p))) (λ p. is_silent p && runs p) (placed_edges el)
          ∙ filter_agree (λ p. (is_silent p && runs p) && not (not (rewards file p))) (λ p. (is_silent p && rewards file p) && runs p) (λ p. ap (λ b. (is_silent p && runs p) && b) (not-not (rewards file p)) ∙ and_moved (is_silent p) (runs p) (rewards file p)) (placed_edges el)))))))
          (often_same _ _ (sym (edges_walk u none)))))
