-- The edges of the monitor at a state: one for each action that has items, and one for commands without action; each writes
-- nothing.
use Rattle.std.specs.Prelude.{◌≡◌, ℕ, zero, suc, ◌<◌, List, [], ◌∷◌, ◌++◌, map, length, Bool, true, false, cond, Option, Some, None, get_or, bytes_eq, Contains}
use Rattle.std.specs.List.{AllByRecursion, IsDistinct, filter}
use Rattle.std.proofs.Common.{refl, sym, ap, ap₂, subst, ◌∙◌, arith}
use Rattle.std.proofs.lemmas.List.{map-append}
use Rattle.basics.specs.Texts.{bytes_ne, bytes_eq-self}
use Rattle.bridge_io.specs.declared.reason.Named.{Named}
use Rattle.frac_core.specs.Fraction.{unit}
use Rattle.op_trees.specs.Seen.{known}
use Rattle.op_trees.specs.declared.tree.Value.TheVariants as V
use Rattle.process_core.specs.Product.{map-map}
use Rattle.process_core.specs.Ready.{Values, Name, Write, Reward, Ready, has_action}
use Rattle.process_core.specs.Follow.{FollowsUpdate, FollowsReady}
use Rattle.process_core.specs.Idle.{idle_update, idle}
use Rattle.prism_tree.specs.Syntax as prism
use Rattle.prism_tree.specs.declared.syntax.ItemOn.{ItemOn}
use Rattle.process_core.specs.Instance.{Valuation, only_if}
use Rattle.jani_tree.specs.Syntax.{Automaton, Edge, File, element_names}
use Rattle.jani_meaning.specs.Moment as jani_moment
use Rattle.jani_meaning.specs.Moment.{location_write}
use Rattle.name_table.specs.Asks.{variables, actions, new_names}
use Rattle.jani_translation.specs.Parts.{made}
use Rattle.jani_translation.specs.Automata.{loc, zz_silent, zz_monitor, has_items, for_action, for_silent, earning_actions, earns_silently, rewards_of, automaton, monitor_edge, monitor_edges}
use Rattle.jani_translation.specs.Translated.{translated}
use Rattle.jani_translation.specs.SeenLaws.{IsSoundUnder, GivesAlike}
use Rattle.jani_translation.specs.StateLaws.{state_of}
use Rattle.jani_translation.proofs.Differ.{actions_distinct, actions_are_not_silent}
use Rattle.jani_translation.proofs.Edges.{home_at}
use Rattle.jani_translation.proofs.Choices.{any_state, set_home, own_name}
use Rattle.jani_translation.proofs.Assigned.{assigned_by, monitor_writes}
use Rattle.jani_translation.proofs.OneForOne.{filter-none}

-- ---- lists with at most one member more
filter_one : {X : Type 0} (p : X → Bool) (b : Bool) (x : X) → p x ≡ true → filter p (only_if b x) ≡ only_if b x
filter_one p false x h = refl
filter_one p true x h = ap (λ c. cond c (x ∷ []) []) h

filter_no_one : {X : Type 0} (p : X → Bool) (b : Bool) (x : X) → p x ≡ false → filter p (only_if b x) ≡ []
filter_no_one p false x h = refl
filter_no_one p true x h = ap (λ c. cond c (x ∷ []) []) h

map_one : {X Y : Type 0} (f : X → Y) (b : Bool) (x : X) → map f (only_if b x) ≡ only_if b (f x)
map_one f true x = refl
map_one f false x = refl

filter_all_behind : {X Y : Type 0} (p : Y → Bool) (f : X → Y) → ((x : X) → p (f x) ≡ true) → (xs : List X) (rest : List Y) → filter p rest ≡ rest → filter p (map f xs ++ rest) ≡ map f xs ++ rest
filter_all_behind p f h [] rest e = e
filter_all_behind p f h (x ∷ xs) rest e = ap₂ (λ b l. cond b (f x ∷ l) l) (h x) (filter_all_behind p f h xs rest e)

-- ---- of distinct names, what is found by one
pub at_place : (P : Name → Type 0) (a : Name) (xs : List Name) → AllByRecursion P xs → (k : ℕ) → k < length xs → P (get_or xs k a)
at_place P a [] h k l = absurd (omega arith)
at_place P a (x ∷ xs) h zero l = h.0
at_place P a (x ∷ xs) h (suc k) l = at_place P a xs h.1 k (omega arith)

module _ (q : Ready → Bool) (f : Name → Ready) (a : Name) (same : (y : Name) → q (f y) ≡ bytes_eq a y) (kept : Name → Bool) where
  others : (xs : List Name) (rest : List Ready) → AllByRecursion (λ y. bytes_eq a y ≡ false) xs → filter q (map f (filter kept xs) ++ rest) ≡ filter q rest
  others [] rest h = refl
  others (x ∷ xs) rest h = by_test (kept x) (same x ∙ h.0) (others xs rest h.1)
    where
      by_test : (b : Bool) → q (f x) ≡ false → filter q (map f (filter kept xs) ++ rest) ≡ filter q rest → filter q (map f (cond b (x ∷ filter kept xs) (filter kept xs)) ++ rest) ≡ filter q rest
      by_test true e r = ap (λ c. cond c (f x ∷ filter q (map f (filter kept xs) ++ rest)) (filter q (map f (filter kept xs) ++ rest))) e ∙ r
      by_test false e r = r

  found_once : kept a ≡ true → (xs : List Name) (rest : List Ready) → IsDistinct bytes_eq xs → (k : ℕ) → k < length xs → get_or xs k a ≡ a →
      filter q (map f (filter kept xs) ++ rest) ≡ f a ∷ filter q rest
  unfolding IsDistinct
  found_once t [] rest d k l g = absurd (omega arith)
  found_once t (x ∷ xs) rest d zero l g =
      subst (λ z. AllByRecursion (λ y. bytes_eq z y ≡ false) xs → filter q (map f (cond (kept z) (z ∷ filter kept xs) (filter kept xs)) ++ rest) ≡ f a ∷ filter q rest) (sym g)
      (λ h. ap (λ b. filter q (map f (cond b (a ∷ filter kept xs) (filter kept xs)) ++ rest)) t
      ∙ ap₂ (λ b l. cond b (f a ∷ l) l) (same a ∙ bytes_eq-self a) (others xs rest h)) d.0
  found_once t (x ∷ xs) rest d (suc k) l g =
      by_test (kept x) (same x ∙ bytes_ne a x (λ e. differ e (ap (bytes_eq x) (sym g) ∙ at_place (λ y. bytes_eq x y ≡ false) a xs d.0 k (omega arith))))
      (found_once t xs rest d.1 k (omega arith) g)
    where
      differ : a ≡ x → bytes_eq x a ≡ false → ⊥
      differ e h = absurd (let u : true ≡ false = sym (bytes_eq-self x) ∙ ap (bytes_eq x) (sym e) ∙ h in cc)

      by_test : (b : Bool) → q (f x) ≡ false → filter q (map f (filter kept xs) ++ rest) ≡ f a ∷ filter q rest → filter q (map f (cond b (x ∷ filter kept xs) (filter kept xs)) ++ rest) ≡ f a ∷ filter q rest
      by_test true e r = ap (λ c. cond c (f x ∷ filter q (map f (filter kept xs) ++ rest)) (filter q (map f (filter kept xs) ++ rest))) e ∙ r
      by_test false e r = r

-- ---- at a state
module _ (file : prism.File) (v w : Valuation) (sound : IsSoundUnder file v) (alike : GivesAlike file v w) (s : Values) (long : length s ≡ length (variables file)) where
  abbrev g : File
  g = translated file

  abbrev the_monitor : Automaton
  the_monitor = automaton (new_names file) zz_monitor [] (monitor_edges (new_names file) file)

  -- the edge for items of this kind
  abbrev pub watching : Named → (ItemOn → Bool) → Ready
  watching a wanted = jani_moment.edge_at (translated file) w (state_of file s) (length file.modules) (automaton (new_names file) zz_monitor [] (monitor_edges (new_names file) file)) (monitor_edge (new_names file) file a wanted)

  -- it is idle: it stays at its one location, and assigns the sums of the items
  update_idle : length file.modules < length (element_names (translated file)) → (rewards : List Reward) (ws : List Write) → ws ≡ [] →
      FollowsUpdate any_state (state_of file) (idle_update rewards)
      (record { weight = known (Some (V.Number unit)); writes = location_write (length file.modules) 0 ∷ ws; rewards = rewards })
  update_idle l rewards ws e =
      subst (λ us. FollowsUpdate any_state (state_of file) (idle_update rewards)
      (record { weight = known (Some (V.Number unit)); writes = location_write (length file.modules) 0 ∷ us; rewards = rewards })) (sym e)
      (record {
        weight = refl;
        undef = refl;
        outside = refl;
        rewards = λ own. refl;
        target = λ t h. set_home (element_names (translated file)) t (length file.modules) l;
        stays = λ t h. h;
      })

  pub watching_idle : length file.modules < length (element_names (translated file)) → (a : Named) (b : Option Name) (wanted : ItemOn → Bool) →
      FollowsReady any_state (state_of file) (idle b (assigned_by file v w sound alike s long (length file.modules) (rewards_of (new_names file) wanted file.rewards))) (watching a wanted)
  watching_idle l a b wanted = record {
    guard = refl;
    updates = (
      update_idle l (assigned_by file v w sound alike s long (length file.modules) (rewards_of (new_names file) wanted file.rewards)) _
          (monitor_writes file v w sound alike s long (length file.modules) wanted),
      tt,
    );
  }

  -- ---- all edges start at the one location
  abbrev pub watched_edges : List Ready
  watched_edges = map (λ a. watching (made ((new_names file).action a)) (for_action a)) (earning_actions file) ++ only_if (earns_silently file) (watching zz_silent for_silent)

  pub monitor_here : length file.modules < length (element_names (translated file)) →
      jani_moment.element_at (translated file) w (state_of file s) (length file.modules) (automaton (new_names file) zz_monitor [] (monitor_edges (new_names file) file)) ≡ watched_edges
  monitor_here l =
      let names = new_names file in
      let i = length file.modules in
      let a = the_monitor in
      let f : Name → Edge = λ a. monitor_edge names file (made (names.action a)) (for_action a) in
      let silent = monitor_edge names file zz_silent for_silent in
      let at = jani_moment.edge_at g w (state_of file s) i a in
      let home : jani_moment.is_current (state_of file s) i a loc.name ≡ true = ap (jani_moment.is_number 0) (home_at (element_names g) s i l) in
      ap (map at)
      (filter_all_behind (λ e. jani_moment.is_current (state_of file s) i a e.location.name) f (λ c. home) (earning_actions file) (only_if (earns_silently file) silent)
      (filter_one (λ e. jani_moment.is_current (state_of file s) i a e.location.name) (earns_silently file) silent home))
      ∙ map-append at (map f (earning_actions file)) (only_if (earns_silently file) silent)
      ∙ ap₂ (λ x y. x ++ y) (map-map at f (earning_actions file)) (map_one at (earns_silently file) silent)

  -- ---- the edges of an action
  pub none_without : filter (has_action None) watched_edges ≡ []
  none_without =
      filter-none (has_action None) (λ a. watching (made ((new_names file).action a)) (for_action a)) (λ a. refl) (earning_actions file) (only_if (earns_silently file) (watching zz_silent for_silent))
      ∙ filter_no_one (has_action None) (earns_silently file) (watching zz_silent for_silent) refl

  pub one_silent : filter (has_action (Some zz_silent.name)) watched_edges ≡ only_if (earns_silently file) (watching zz_silent for_silent)
  one_silent =
      filter-none (has_action (Some zz_silent.name)) (λ a. watching (made ((new_names file).action a)) (for_action a))
      (λ a. bytes_ne zz_silent.name ((new_names file).action a) (λ e. actions_are_not_silent file a (sym e))) (earning_actions file) (only_if (earns_silently file) (watching zz_silent for_silent))
      ∙ filter_one (has_action (Some zz_silent.name)) (earns_silently file) (watching zz_silent for_silent) (bytes_eq-self zz_silent.name)

  pub one_for_action : (a : Name) → Contains (actions file) a → has_items (for_action a) file ≡ true →
      filter (has_action (Some ((new_names file).action a))) watched_edges ≡ watching (made ((new_names file).action a)) (for_action a) ∷ []
  one_for_action a c h =
      let new = (new_names file).action in
      let q = has_action (Some (new a)) in
      let f : Name → Ready = λ a. watching (made (new a)) (for_action a) in
      let silent = watching zz_silent for_silent in
      found_once q f a (own_name file a c) (λ a. has_items (for_action a) file) h (actions file) (only_if (earns_silently file) silent) (actions_distinct file) c.0 c.1 c.2
      ∙ ap (λ r. f a ∷ r) (filter_no_one q (earns_silently file) silent (bytes_ne (new a) zz_silent.name (actions_are_not_silent file a)))
