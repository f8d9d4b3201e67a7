-- The rewards of a translated file's choices are those of the file's; so each choice occurs equally often.
use Rattle.std.specs.Prelude.{◌≡◌, ℕ, List, [], ◌∷◌, ◌++◌, map, Bool, true, false, not, ◌&&◌, ◌||◌, Option, Some, None, is_some, get_or, IfSome, bytes_eq}
use Rattle.std.specs.List.{flat_map, filter, list_any, All}
use Rattle.std.proofs.Common.{refl, sym, ap, subst, ◌∙◌, append-nil}
use Rattle.std.proofs.lemmas.List.Elements.{All-nil, All-cons, All-head, All-tail, All-filter, All-append, All-map}
use Rattle.std.proofs.lemmas.Bool.{or_parts}
use Rattle.basics.specs.Members.{All-unmap}
use Rattle.basics.specs.Lists.{map_agree}
use Rattle.process_core.specs.Product.{one_of_each, All-one_of_each}
use Rattle.process_core.specs.Process.{EquallyOften, choice_image}
use Rattle.process_core.specs.Ready.{Values, Reward}
use Rattle.choice_laws.specs.Columns.{counting}
use Rattle.choice_laws.specs.Rewards.{EarnsBy}
use Rattle.choice_laws.proofs.Rewards.{PaysHere}
use Rattle.choice_laws.proofs.Walks.{All-flat_map, found_has}
use Rattle.process_core.specs.Instance.{Valuation, only_if}
use Rattle.prism_flat.specs.Process as prism_process
use Rattle.jani_tree.specs.Syntax as syntax
use Rattle.jani_tree.specs.Syntax.{Destination, Vector, File}
use Rattle.jani_meaning.specs.Elements.{structure_number}
use Rattle.jani_meaning.specs.Scene as jani_scene
use Rattle.jani_meaning.specs.Moment as jani_moment
use Rattle.jani_meaning.specs.Process as jani_process
use Rattle.prism_translation.specs.Elements.{Element, elements, Placed, placed_edges, is_reward, rewards}
use Rattle.prism_translation.specs.Targets.{edges_named, names, reward_writer, Target, vector_targets, silent_targets, is_silent, serves, targets_by}
use Rattle.prism_translation.specs.Modules.{Action}
use Rattle.prism_translation.specs.Marks.{first_writes, target_items_by}
use Rattle.prism_translation.specs.StateLaws.{state_of, old_label}
use Rattle.prism_translation.specs.Translated.{translated}
use Rattle.prism_translation.specs.Sound.{HasOneWriter}
use Rattle.prism_translation.specs.Names.{new_names}
use Rattle.prism_translation.proofs.CommandsAlike.{live, joins, lists}
use Rattle.prism_translation.proofs.Silent.{silently}
use Rattle.prism_translation.proofs.Actions.{alone_in}
use Rattle.prism_translation.proofs.Apart.{made_for, actions_differ}
use Rattle.prism_translation.proofs.Earned.{paid_here, PaysSoundly, given_for, given_none, earns_here, no_sums, sums, sum_of, count}
use Rattle.prism_translation.proofs.Paying.{targets_earn, paid_by}
use Rattle.prism_translation.proofs.ChoicesAlike.{edge_here, seen_here, acts_here, none, given, EdgesAreSound, RewardsAreSound, choices_are_alike}
use Rattle.prism_translation.proofs.Served.{made_targets, plain, made}
use Rattle.prism_translation.proofs.Numbered.{no_element}

module _ (file : File) (v w : Valuation) (s : Values) where
  abbrev paid : Placed → List Reward
  paid p = paid_here file v w s p

  -- ---- an edge without rewards assigns none
  none_paid : (k : ℕ) (ws : List syntax.Write) → list_any (is_reward file k) ws ≡ false → flat_map (jani_moment.reward_at file w (state_of file s) k) ws ≡ []
  none_paid k [] h = refl
  none_paid k (x ∷ ws) h = by_number (structure_number file k x.target.name) h (none_paid k ws)
    where
      by_number : (o : Option ℕ) → (is_some o || list_any (is_reward file k) ws) ≡ false → (list_any (is_reward file k) ws ≡ false → flat_map (jani_moment.reward_at file w (state_of file s) k) ws ≡ []) →
          jani_moment.reward_of o (jani_scene.see x.value (jani_moment.names_in file w (state_of file s) k)) ++ flat_map (jani_moment.reward_at file w (state_of file s) k) ws ≡ []
      by_number None h ih = ih h
      by_number (Some i) h ih = absurd cc

  pays_not : (p : Placed) → rewards file p ≡ false → paid p ≡ []
  pays_not p h = by_destinations p.edge.destinations h
    where
      by_destinations : (ds : List Destination) → list_any (λ d. list_any (is_reward file p.element.number) d.writes) ds ≡ false →
          flat_map (jani_moment.reward_at file w (state_of file s) p.element.number) (first_writes ds) ≡ []
      by_destinations [] h = refl
      by_destinations (d ∷ ds) h = none_paid p.element.number d.writes (or_parts (list_any (is_reward file p.element.number) d.writes) (list_any (λ d. list_any (is_reward file p.element.number) d.writes) ds) h).0

  -- ---- what is asked of the edges that assign rewards: in each vector one element alone has such edges; all destinations of
  -- an edge assign the same, and each structure once
  pub record RewardRules : Type 0 where
    pub one_writer : All (HasOneWriter file) file.vectors
    pub alike : All (λ el. All (PaysHere (edge_here file v w s) paid) (placed_edges el)) (elements file)
    pub once : All (λ el. All (PaysSoundly file v w s) (placed_edges el)) (elements file)

  module _ (rules : RewardRules) where
    -- the edges that targets are made for
    abbrev IsMaker : Target → Type 0
    IsMaker t = IfSome t.maker (PaysSoundly file v w s)

    silent_makers : All IsMaker (silent_targets file)
    silent_makers =
        All-flat_map IsMaker (λ el. map silently (filter (λ p. is_silent p && rewards file p) (placed_edges el))) (elements file)
        (λ i a m.
        let el = get_or (elements file) i a in
        let test = λ (p : Placed). is_silent p && rewards file p in
        All-map IsMaker silently (filter test (placed_edges el)) (All-filter test (PaysSoundly file v w s) (placed_edges el) (rules.once i a m)))

    vector_makers : (x : Vector) → All IsMaker (vector_targets file x)
    vector_makers x = by_writer (reward_writer file x) refl
      where
        by_writer : (o : Option Element) → reward_writer file x ≡ o → All IsMaker (targets_by file x o)
        by_writer None e = All-cons IsMaker (plain file x None) [] tt (All-nil IsMaker)
        by_writer (Some el) e =
            All-append IsMaker (made_targets file x el) (only_if (list_any (λ p. not (rewards file p)) (edges_named x el)) (plain file x (Some el.number)))
            (All-map IsMaker (made file x el) (filter (rewards file) (edges_named x el))
            (All-filter (rewards file) (PaysSoundly file v w s) (edges_named x el)
            (All-filter (names x) (PaysSoundly file v w s) (placed_edges el)
            (found_has (λ el. All (PaysSoundly file v w s) (placed_edges el)) (λ el. list_any (rewards file) (edges_named x el)) el (elements file) rules.once e))))
            (if_any (list_any (λ p. not (rewards file p)) (edges_named x el)))
          where
            if_any : (b : Bool) → All IsMaker (only_if b (plain file x (Some el.number)))
            if_any true = All-cons IsMaker (plain file x (Some el.number)) [] tt (All-nil IsMaker)
            if_any false = All-nil IsMaker

    makers : All (λ (t : Action). IsMaker t.target) (acts_here file v w s)
    makers =
        All-unmap IsMaker (λ (t : Action). t.target) (acts_here file v w s)
        (subst (λ ts. All IsMaker ts) (sym (made_for file))
        (All-append IsMaker (flat_map (vector_targets file) file.vectors) (silent_targets file)
        (All-flat_map IsMaker (vector_targets file) file.vectors (λ i a m. vector_makers (get_or file.vectors i a))) silent_makers))

    -- ---- ways
    abbrev lists_here : Target → List (List Placed)
    lists_here t = lists file (acts_here file v w s) (seen_here file v w s) t

    abbrev EarnsIt : Target → Type 0
    EarnsIt t = All (λ ps. flat_map paid ps ≡ paid_by file (acts_here file v w s) (seen_here file v w s) paid pays_not t.maker) (one_of_each (lists_here t))

    earn : All (λ (t : Action). EarnsIt t.target) (acts_here file v w s)
    earn =
        All-unmap EarnsIt (λ (t : Action). t.target) (acts_here file v w s)
        (subst (λ ts. All EarnsIt ts) (sym (made_for file))
        (targets_earn file (acts_here file v w s) (seen_here file v w s) paid pays_not rules.one_writer))

    -- all edges pay
    abbrev Pays : Placed → Type 0
    Pays p = PaysHere (edge_here file v w s) paid p

    walked : (runs : Placed → Bool) (b : Element → Bool) (t : Target) (els : List Element) → All (λ el. All Pays (placed_edges el)) els → All (All Pays) (flat_map (λ el. only_if (b el) (filter runs (filter (serves file t) (placed_edges el)))) els)
    walked runs b t [] h = All-nil (All Pays)
    walked runs b t (el ∷ els) h =
        All-append (All Pays) (only_if (b el) (filter runs (filter (serves file t) (placed_edges el)))) (flat_map (λ el. only_if (b el) (filter runs (filter (serves file t) (placed_edges el)))) els)
        (by_test (b el) (All-filter runs Pays (filter (serves file t) (placed_edges el)) (All-filter (serves file t) Pays (placed_edges el) (All-head (λ el. All Pays (placed_edges el)) el els h))))
        (walked runs b t els (All-tail (λ el. All Pays (placed_edges el)) el els h))
      where
        by_test : (c : Bool) → All Pays (filter runs (filter (serves file t) (placed_edges el))) → All (All Pays) (only_if c (filter runs (filter (serves file t) (placed_edges el))))
        by_test true f = All-cons (All Pays) (filter runs (filter (serves file t) (placed_edges el))) [] f (All-nil (All Pays))
        by_test false f = All-nil (All Pays)

    all_pay : (t : Target) → All (All Pays) (one_of_each (lists_here t))
    all_pay t =
        All-one_of_each Pays (lists_here t)
        (walked (λ p. live file (acts_here file v w s) (seen_here file v w s) p)
        (λ el. joins file (acts_here file v w s) (seen_here file v w s) t el) t (elements file) rules.alike)

    anything : Placed
    anything = record { element = no_element; number = 0; edge = record { location = record { name = []; at = 0 }; action = None; guard = None; destinations = []; at = 0 } }

    by_maker : (t : Action) (m : Option Placed) → t.target.maker ≡ m → IfSome m (PaysSoundly file v w s) → (ps : List Placed) →
        ((q : Action → Bool) → filter (λ x. bytes_eq t.name x.name) (filter q (acts_here file v w s)) ≡ only_if (q t) t) →
        flat_map paid ps ≡ paid_by file (acts_here file v w s) (seen_here file v w s) paid pays_not m →
        EarnsBy (none file v w s) (given file v w s (Some t.name)) (flat_map paid ps)
    by_maker t None e h ps alone k =
        subst (λ g. EarnsBy (none file v w s) g (flat_map paid ps))
        (sym (given_for file v w s t alone ∙ map_agree _ _ (λ j. ap (λ o. sum_of file v w s (target_items_by file (new_names file) j t.name o)) e) (counting 0 (count file v w s))))
        (subst (λ rs. EarnsBy (none file v w s) (map (λ j. sum_of file v w s []) (counting 0 (count file v w s))) rs) (sym k) (no_sums file v w s anything))
    by_maker t (Some q) e h ps alone k =
        subst (λ g. EarnsBy (none file v w s) g (flat_map paid ps))
        (sym (given_for file v w s t alone ∙ map_agree _ _ (λ j. ap (λ o. sum_of file v w s (target_items_by file (new_names file) j t.name o)) e) (counting 0 (count file v w s))))
        (subst (λ rs. EarnsBy (none file v w s) (sums file v w s q t.name) rs) (sym k) (earns_here file v w s q t.name h))

    pub rewards_are_sound : RewardsAreSound file v w s paid
    rewards_are_sound = record {
      targets = λ k d l i a m.
          let t = get_or (acts_here file v w s) k d in (
            all_pay t.target i a m,
            by_maker t t.target.maker refl (makers k d l) (get_or (one_of_each (lists_here t.target)) i a) (alone_in (acts_here file v w s) (actions_differ file) k d l) (earn k d l i a m),
          );
      silent = λ k d l i a m e.
          let p = get_or (placed_edges (get_or (elements file) k d)) i a in (
            rules.alike k d l i a m,
            subst (λ g. EarnsBy (none file v w s) g (paid p ++ [])) (sym (given_none file v w s))
                (subst (λ rs. EarnsBy (none file v w s) (map (λ j. sum_of file v w s []) (counting 0 (count file v w s))) rs) (sym (append-nil (paid p) ∙ pays_not p (not_paying (is_silent p) (rewards file p) e)))
                (no_sums file v w s anything)),
          );
    }
      where
        not_paying : (a b : Bool) → (a && not b) ≡ true → b ≡ false
        not_paying true true h = absurd cc
        not_paying true false h = refl
        not_paying false b h = absurd cc

  -- Each choice occurs equally often.
  pub choices_often : EdgesAreSound file v w s → RewardRules →
      EquallyOften (map (choice_image (old_label file) (state_of file)) ((prism_process.model (translated file)).choices v s))
      ((jani_process.model file).choices w (state_of file s))
  choices_often sound rules = choices_are_alike file v w s sound paid (rewards_are_sound rules)
