-- With a monitor, the choices of an action: each combination has the monitor behind, which earns what the choice earns.
use Rattle.std.specs.Prelude.{◌≡◌, ℕ, suc, ◌+◌, ◌<◌, List, [], ◌∷◌, ◌++◌, map, length, Bool, true, false, not, ◌||◌, Option, Some, None, is_none, if◌then◌else◌, Contains}
use Rattle.std.specs.List.{All, AllZip, filter, flat_map, list_any}
use Rattle.std.specs.Option.{option_map}
use Rattle.std.proofs.Common.{refl, sym, ap, ap₂, subst, ◌∙◌, arith, append-nil, length-append}
use Rattle.std.proofs.lemmas.List.{length-map}
use Rattle.std.proofs.lemmas.List.Elements.{All-head, All-tail, All-map, All-filter, All-weaker}
use Rattle.basics.specs.Members.{all_each}
use Rattle.basics.specs.Texts.{bytes_ne}
use Rattle.process_core.specs.Process.{choice_image}
use Rattle.process_core.specs.Zip.{AllZip-append}
use Rattle.process_core.specs.Product.{one_of_each, one_of_each_alike, one_of_each_last, All-one_of_each, map-map}
use Rattle.process_core.specs.Ready.{Values, Name, Reward, Ready, Sum, Combination, has_action, silent, together, sharing, taking, vector_of}
use Rattle.process_core.specs.Choices.{number_of, assigned, own_rewards, choice_of}
use Rattle.process_core.specs.Follow.{FollowsReady, FollowsCombination, choice_same, together_follow}
use Rattle.process_core.specs.Idle.{idle, joined_by, NoRewards, Earns_alone, choice_joined}
use Rattle.prism_tree.specs.Syntax as prism
use Rattle.prism_tree.specs.declared.syntax.ItemOn.{ItemOn}
use Rattle.prism_tree.specs.declared.syntax.ItemOn.TheVariants as On
use Rattle.prism_names.specs.Names.{Part, parts}
use Rattle.process_core.specs.Instance.{Valuation, numbered, only_if}
use Rattle.prism_flat.specs.Scene as prism_scene
use Rattle.prism_flat.specs.Moment as prism_moment
use Rattle.jani_meaning.specs.Moment as jani_moment
use Rattle.name_table.specs.Asks.{bodies, variables, actions, new_names}
use Rattle.jani_translation.specs.Parts.{made}
use Rattle.jani_translation.specs.Automata.{zz_silent, zz_monitor, for_states, has_items, for_action, for_silent, earning_actions, is_some_name, earns_silently, has_monitor, rewards_of, location_values, automaton, module_automata, monitor, monitor_edges}
use Rattle.jani_translation.specs.Translated.{translated}
use Rattle.jani_translation.specs.Laws.{watched_vector}
use Rattle.jani_translation.specs.SeenLaws.{IsSoundUnder, GivesAlike}
use Rattle.jani_translation.specs.StateLaws.{state_of, SoundItem, ItemsAreSound, edge_label, shifted_ready, shifted}
use Rattle.jani_translation.proofs.Each.{n_bodies, for_modules}
use Rattle.jani_translation.proofs.Differ.{actions_are_not_silent}
use Rattle.jani_translation.proofs.Edges.{n_automata}
use Rattle.jani_translation.proofs.Choices.{any_state, is_any_state, IsOwnName, own_name, IsOwnLabel, taking_follows, action_for, none_earns, mods, own, earned, few, rewards_none}
use Rattle.jani_translation.proofs.Assigned.{kept_all, assigned_by, monitor_assigned, monitor_undefined}
use Rattle.jani_translation.proofs.Monitor.{at_place, watching, watching_idle, monitor_here, none_without, one_for_action}
use Rattle.jani_tree.specs.Syntax.{element_names}
use Rattle.jani_translation.proofs.Counts.{element_total}

-- ---- lists
pub n_numbered : {X Y : Type 0} (f : ℕ → X → Y) (i : ℕ) (xs : List X) → length (numbered (λ i x. f i x ∷ []) i xs) ≡ length xs
n_numbered f i [] = refl
n_numbered f i (x ∷ xs) = ap suc (n_numbered f (i + 1) xs)

-- the parts of two vectors joined
pub taking-append : (ps qs : List (Option Name)) (es fs : List (List Ready)) → length ps ≡ length es → taking (ps ++ qs) (es ++ fs) ≡ taking ps es ++ taking qs fs
taking-append [] qs [] fs l = refl
taking-append [] qs (e ∷ es) fs l = absurd cc
taking-append (p ∷ ps) qs [] fs l = absurd cc
taking-append (None ∷ ps) qs (e ∷ es) fs l = taking-append ps qs es fs (omega arith)
taking-append (Some a ∷ ps) qs (e ∷ es) fs l = ap (λ r. filter (has_action (Some a)) e ∷ r) (taking-append ps qs es fs (omega arith))

-- ---- combinations that have the choices of others
module _ (file : prism.File) (s : Values) where
  -- the choice at the state of the translated file is that of the other combination
  abbrev pub SameChoice : Combination → Combination → Type 0
  SameChoice c d = choice_of (state_of file s) d ≡ map (choice_image (option_map (new_names file).action) (state_of file)) (choice_of s c)

  abbrev FollowsHere : Ready → Ready → Type 0
  FollowsHere = FollowsReady any_state (state_of file)

  pub each_same : (cs ds : List Combination) → AllZip (FollowsCombination any_state (state_of file) (option_map (new_names file).action)) cs ds → AllZip SameChoice cs ds
  each_same [] [] h = tt
  each_same [] (d ∷ ds) h = absurd h
  each_same (c ∷ cs) [] h = absurd h
  each_same (c ∷ cs) (d ∷ ds) h = (choice_same any_state (state_of file) (option_map (new_names file).action) s (is_any_state s) c d h.0, each_same cs ds h.1)

  -- with one participant more that does nothing but assign what the others' choice earns
  module _ (a m b : Option Name) (named : m ≡ option_map (new_names file).action a) (earns gets : List Sum) (rewards : List Reward) (t : Ready)
      (follows : FollowsReady any_state (state_of file) (idle b rewards) t)
      (same : assigned (own_rewards gets) rewards ≡ own_rewards earns)
      (undefined : (list_any (λ r. is_none (number_of r.value.value)) rewards || list_any (λ m. is_none m.value) gets) ≡ list_any (λ m. is_none m.value) earns) where
    watched_one : (rs ts : List Ready) → AllZip FollowsHere rs ts → All NoRewards rs →
        SameChoice (record { label = a; rewards = earns; participants = rs }) (record { label = m; rewards = gets; participants = ts ++ t ∷ [] })
    watched_one rs ts h n =
        let c : Combination = record { label = a; rewards = earns; participants = rs } in
        let d : Combination = record { label = m; rewards = gets; participants = ts ++ t ∷ [] } in
        choice_same any_state (state_of file) (option_map (new_names file).action) s (is_any_state s) (joined_by c gets (idle b rewards)) d
        (record { labels = named; rewards = refl; participants = AllZip-append FollowsHere rs (idle b rewards ∷ []) ts (t ∷ []) h (follows, tt) })
        ∙ ap (map (choice_image (option_map (new_names file).action) (state_of file))) (choice_joined s c gets b rewards (Earns_alone c gets rewards n same undefined))

    watched_each : (xs ys : List (List Ready)) → AllZip (AllZip FollowsHere) xs ys → All (All NoRewards) xs →
        AllZip SameChoice (map (λ rs. record { label = a; rewards = earns; participants = rs }) xs) (map (λ ts. record { label = m; rewards = gets; participants = ts ++ t ∷ [] }) ys)
    watched_each [] [] h n = tt
    watched_each [] (y ∷ ys) h n = absurd h
    watched_each (x ∷ xs) [] h n = absurd h
    watched_each (x ∷ xs) (y ∷ ys) h n = (watched_one x y h.0 (All-head (All NoRewards) x xs n), watched_each xs ys h.1 (All-tail (All NoRewards) x xs n))

    pub watched_together : (xs ys : List (List Ready)) → AllZip (AllZip FollowsHere) xs ys → All (All NoRewards) xs →
        AllZip SameChoice (together a earns xs) (together m gets (ys ++ (t ∷ []) ∷ []))
    watched_together xs ys h n =
        subst (λ (r : List Combination). AllZip SameChoice (together a earns xs) r)
        (sym (ap (map (λ rs. record { label = m; rewards = gets; participants = rs })) (one_of_each_last ys t)
        ∙ map-map (λ rs. record { label = m; rewards = gets; participants = rs }) (λ r. r ++ t ∷ []) (one_of_each ys)))
        (watched_each (one_of_each xs) (one_of_each ys) (one_of_each_alike FollowsHere xs ys h) (All-one_of_each NoRewards xs n))

-- ---- commands assign no rewards
module _ (file : prism.File) (v : Valuation) (s : Values) where
  pub part_no_rewards : (p : Part) → All NoRewards (prism_moment.part_at file v s p)
  part_no_rewards p =
      let cs = prism_scene.columns_of file v in
      let names = prism_moment.names_in file v s p.rename in
      All-map NoRewards (prism_moment.command_at file cs p.rename names) p.commands
      (all_each (λ c. NoRewards (prism_moment.command_at file cs p.rename names c))
      (λ c. record { none = All-map (λ u. u.rewards ≡ []) (prism_moment.update_at file cs p.rename names) c.branches (all_each (λ b. (prism_moment.update_at file cs p.rename names b).rewards ≡ []) (λ b. refl) c.branches) })
      p.commands)

  pub commands_no_rewards : All (All NoRewards) (prism_moment.moment file v s).modules
  commands_no_rewards = All-map (All NoRewards) (prism_moment.part_at file v s) (parts file) (all_each (λ p. All NoRewards (prism_moment.part_at file v s p)) part_no_rewards (parts file))

  sharing_no_rewards : (a : Name) → All (All NoRewards) (sharing a (prism_moment.moment file v s).modules)
  sharing_no_rewards a =
      let ms = (prism_moment.moment file v s).modules in
      All-map (All NoRewards) (filter (has_action (Some a))) (filter (list_any (has_action (Some a))) ms)
      (All-weaker (All NoRewards) (λ m. All NoRewards (filter (has_action (Some a)) m)) (λ m h. All-filter (has_action (Some a)) NoRewards m h) (filter (list_any (has_action (Some a))) ms)
      (All-filter (list_any (has_action (Some a))) (All NoRewards) ms commands_no_rewards))

-- ---- items of a kind for choices are sound
module _ (file : prism.File) (v : Valuation) (s : Values) where
  pub sound_items : ItemsAreSound file v s → has_monitor file ≡ true → (wanted : ItemOn → Bool) → ((o : ItemOn) → wanted o ≡ true → not (for_states o) ≡ true) →
      All (λ r. All (SoundItem file v s) (filter (λ i. wanted i.on) r.items)) file.rewards
  sound_items h m wanted k =
      All-weaker (λ r. All (SoundItem file v s) (filter (λ i. not (for_states i.on)) r.items)) (λ r. All (SoundItem file v s) (filter (λ i. wanted i.on) r.items))
      (λ r a. kept_all (SoundItem file v s) (λ i. not (for_states i.on)) (λ i. wanted i.on) (λ i. k i.on) r.items a) file.rewards (h.items m)

pub silent_choices : (o : ItemOn) → for_silent o ≡ true → not (for_states o) ≡ true
silent_choices On.InState e = absurd cc
silent_choices On.Silent e = refl
silent_choices (On.Action a) e = absurd cc

action_choices : (x : Name) (o : ItemOn) → for_action x o ≡ true → not (for_states o) ≡ true
action_choices x On.InState e = absurd cc
action_choices x On.Silent e = absurd cc
action_choices x (On.Action a) e = refl

-- ---- the monitor in a vector
module _ (file : prism.File) where
  -- an action that has items needs a monitor
  monitor_for : (a : Name) → Contains (actions file) a → has_items (for_action a) file ≡ true → has_monitor file ≡ true
  monitor_for a c h = by_test (is_some_name (earning_actions file)) refl
    where
      by_test : (b : Bool) → is_some_name (earning_actions file) ≡ b → (b || earns_silently file) ≡ true
      by_test true e = refl
      by_test false e =
          let none = none_earns (λ a. has_items (for_action a) file) (actions file) e in
          let k = at_place (λ a. has_items (for_action a) file ≡ false) a (actions file) none c.0 c.1 in
          absurd (let t : true ≡ false = sym h ∙ ap (λ a. has_items (for_action a) file) (sym c.2) ∙ k in cc)

  -- its number is that behind the modules
  pub monitor_number : has_monitor file ≡ true → length file.modules < length (element_names (translated file))
  monitor_number h =
      let names = new_names file in
      let ms = module_automata names (earns_silently file) (location_values names file) (bodies file) names.modules in
      let a = n_automata names (earns_silently file) (location_values names file) (bodies file) names.modules (for_modules file) in
      let b = element_total file in
      let c = length-append ms (monitor names file) in
      let d : length (monitor names file) ≡ 1 = ap (λ b. length (only_if b (automaton names zz_monitor [] (monitor_edges names file)))) h in
      let f = n_bodies file in
      omega arith

  own_edge : (b : Bool) (a : Name) → IsOwnName file a → IsOwnLabel file (edge_label b (new_names file).action) a
  own_edge b a h (Some y) = sym (h y)
  own_edge true a h None = sym (bytes_ne ((new_names file).action a) zz_silent.name (actions_are_not_silent file a))
  own_edge false a h None = refl

module _ (file : prism.File) (v w : Valuation) (sound : IsSoundUnder file v) (alike : GivesAlike file v w) (s : Values) (long : length s ≡ length (variables file)) where
  abbrev pub watchers : List (List Ready)
  watchers = map (jani_moment.element_at (translated file) w (state_of file s) (length file.modules)) (monitor (new_names file) file)

  abbrev pub commands : List (List Ready)
  commands = shifted (edge_label (earns_silently file) (new_names file).action) (length (element_names (translated file))) (prism_moment.moment file v s).modules

  -- the monitor has no edge without action
  pub no_silent_watcher : (rewards : List Sum) → silent rewards watchers ≡ []
  no_silent_watcher rewards = by_test (has_monitor file) refl
    where
      by_test : (b : Bool) → has_monitor file ≡ b →
          silent rewards (map (jani_moment.element_at (translated file) w (state_of file s) (length file.modules)) (only_if b (automaton (new_names file) zz_monitor [] (monitor_edges (new_names file) file)))) ≡ []
      by_test false e = refl
      by_test true e =
          ap (λ m. map (λ r. record { label = None; rewards = rewards; participants = r ∷ [] }) (filter (has_action None) m) ++ [])
          (monitor_here file v w sound alike s long (monitor_number file e))
          ∙ ap (λ m. map (λ r. record { label = None; rewards = rewards; participants = r ∷ [] }) m ++ []) (none_without file v w sound alike s long)

  -- where it has part in an action, it has one edge
  watcher_taken : (a : Name) → Contains (actions file) a → has_items (for_action a) file ≡ true → has_monitor file ≡ true →
      taking (only_if (has_monitor file) (if has_items (for_action a) file then Some ((new_names file).action a) else None)) watchers
      ≡ (watching file v w sound alike s long (made ((new_names file).action a)) (for_action a) ∷ []) ∷ []
  watcher_taken a c h k =
      ap₂ (λ b p. taking (only_if b (if p then Some ((new_names file).action a) else None))
      (map (jani_moment.element_at (translated file) w (state_of file s) (length file.modules)) (only_if b (automaton (new_names file) zz_monitor [] (monitor_edges (new_names file) file))))) k h
      ∙ ap (λ m. filter (has_action (Some ((new_names file).action a))) m ∷ []) (monitor_here file v w sound alike s long (monitor_number file k))
      ∙ ap (λ m. m ∷ []) (one_for_action file v w sound alike s long a c h)

  no_watcher_taken : (a : Name) → has_items (for_action a) file ≡ false →
      taking (only_if (has_monitor file) (if has_items (for_action a) file then Some ((new_names file).action a) else None)) watchers ≡ []
  no_watcher_taken a h =
      ap (λ p. taking (only_if (has_monitor file) (if p then Some ((new_names file).action a) else None)) watchers) h ∙ by_test (has_monitor file)
    where
      by_test : (b : Bool) →
          taking (only_if b None) (map (jani_moment.element_at (translated file) w (state_of file s) (length file.modules)) (only_if b (automaton (new_names file) zz_monitor [] (monitor_edges (new_names file) file)))) ≡ []
      by_test true = refl
      by_test false = refl

  -- ---- the combinations of an action
  watched_parts : (a : Name) →
      taking (watched_vector file (new_names file).action a (vector_of a (mods file v w sound alike s))).parts (commands ++ watchers)
      ≡ taking (map (option_map (new_names file).action) (vector_of a (mods file v w sound alike s)).parts) commands
      ++ taking (only_if (has_monitor file) (if has_items (for_action a) file then Some ((new_names file).action a) else None)) watchers
  watched_parts a =
      let ms = (prism_moment.moment file v s).modules in
      let l = edge_label (earns_silently file) (new_names file).action in
      let p = length-map (vector_of a ms).parts (option_map (new_names file).action) in
      let q = length-map ms (λ m. if list_any (has_action (Some a)) m then Some a else None) in
      let r = n_numbered (λ i m. map (shifted_ready l (length (element_names (translated file))) i) m) 0 ms in
      taking-append (map (option_map (new_names file).action) (vector_of a ms).parts) _ commands watchers (omega arith)

  abbrev Alike : Name → List (List Ready) → Type 0
  Alike a es =
      AllZip (SameChoice file s) (together (Some a) (earned file v w sound alike s (Some a)) (sharing a (mods file v w sound alike s)))
      (together (Some ((new_names file).action a)) (own file v w sound alike s) es)

  pub action_watched : ItemsAreSound file v s → (a : Name) → Contains (actions file) a →
      Alike a (taking (watched_vector file (new_names file).action a (vector_of a (mods file v w sound alike s))).parts (commands ++ watchers))
  action_watched items a c = subst (Alike a) (sym (watched_parts a)) (by_items (has_items (for_action a) file) refl)
    where
      taken : List (List Ready)
      taken = taking (map (option_map (new_names file).action) (vector_of a (mods file v w sound alike s)).parts) commands

      follow : AllZip (AllZip (FollowsReady any_state (state_of file))) (sharing a (mods file v w sound alike s)) taken
      follow = taking_follows file (edge_label (earns_silently file) (new_names file).action) a (own_edge file (earns_silently file) a (own_name file a c)) 0 (mods file v w sound alike s) (few file v w sound alike s)

      by_items : (b : Bool) → has_items (for_action a) file ≡ b →
          Alike a (taken ++ taking (only_if (has_monitor file) (if has_items (for_action a) file then Some ((new_names file).action a) else None)) watchers)
      by_items false h =
          subst (λ r. Alike a (taken ++ r)) (sym (no_watcher_taken a h))
          (subst (Alike a) (sym (append-nil taken))
          (each_same file s _ _
          (together_follow any_state (state_of file) (option_map (new_names file).action) (Some a) (Some ((new_names file).action a)) (earned file v w sound alike s (Some a)) (own file v w sound alike s) refl
          (rewards_none file v w sound alike s (Some a) (for_action a) (action_for a) h) (sharing a (mods file v w sound alike s)) taken follow)))
      by_items true h =
          let k = monitor_for file a c h in
          let i = length file.modules in
          let t = watching file v w sound alike s long (made ((new_names file).action a)) (for_action a) in
          let rewards = assigned_by file v w sound alike s long i (rewards_of (new_names file) (for_action a) file.rewards) in
          let good = sound_items file v s items k (for_action a) (action_choices a) in
          subst (λ r. Alike a (taken ++ r)) (sym (watcher_taken a c h k))
          (watched_together file s (Some a) (Some ((new_names file).action a)) None refl (earned file v w sound alike s (Some a)) (own file v w sound alike s) rewards t
          (watching_idle file v w sound alike s long (monitor_number file k) (made ((new_names file).action a)) None (for_action a))
          (monitor_assigned file v w sound alike s long i (Some a) (for_action a) (action_for a) good)
          (monitor_undefined file v w sound alike s long i (Some a) (for_action a) (action_for a) good)
          (sharing a (mods file v w sound alike s)) taken follow (sharing_no_rewards file v s a))

  pub actions_watched : ItemsAreSound file v s → (as_ : List Name) → All (Contains (actions file)) as_ →
      AllZip (SameChoice file s) (flat_map (λ a. together (Some a) (earned file v w sound alike s (Some a)) (sharing a (mods file v w sound alike s))) as_)
      (flat_map (λ a. together (Some ((new_names file).action a)) (own file v w sound alike s)
      (taking (watched_vector file (new_names file).action a (vector_of a (mods file v w sound alike s))).parts (commands ++ watchers))) as_)
  actions_watched items [] c = tt
  actions_watched items (a ∷ as_) c =
      AllZip-append (SameChoice file s) _ _ _ _ (action_watched items a (All-head (Contains (actions file)) a as_ c))
      (actions_watched items as_ (All-tail (Contains (actions file)) a as_ c))
