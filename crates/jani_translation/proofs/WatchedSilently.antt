-- With a monitor, the choices of commands without action; and all choices of a translated file.
use Rattle.std.specs.Prelude.{◌≡◌, ℕ, zero, suc, ◌+◌, ◌<◌, nat_eq, List, [], ◌∷◌, ◌++◌, map, length, Bool, true, false, cond, Option, Some, None, if◌then◌else◌, slice_get, Contains}
use Rattle.std.specs.List.{All, AllZip, filter, flat_map}
use Rattle.std.specs.Option.{option_map}
use Rattle.std.proofs.Common.{refl, sym, ap, ap₂, subst, ◌∙◌, arith, append-nil, eq-eqb, ne_eqb}
use Rattle.std.proofs.Math.Path.{fun_ext}
use Rattle.std.proofs.lemmas.List.{length-map, map-append}
use Rattle.std.proofs.lemmas.List.Concat.{flat_map-append}
use Rattle.std.proofs.lemmas.List.Folds.{flat_map-map}
use Rattle.std.proofs.lemmas.List.Elements.{All-nil, All-cons, All-contains_itself, All-filter}
use Rattle.std.proofs.lemmas.Option.{same_Some, slice_get_within}
use Rattle.std.proofs.lemmas.Bool.{or_right}
use Rattle.basics.specs.Texts.{bytes_ne, bytes_eq-self}
use Rattle.process_core.specs.Process.{EquallyOften, choice_image}
use Rattle.process_core.specs.Zip.{AllZip-append, AllZip-filter, flat_map_alike}
use Rattle.process_core.specs.Product.{map-flat_map}
use Rattle.process_core.specs.Often.{often_same, often_trans, often-map, often_turned}
use Rattle.process_core.specs.Ready.{Values, Name, Ready, Sum, Combination, Vector, same_label, has_action, actions_of, silent, together, sharing, taking, of_elements, vector_of}
use Rattle.process_core.specs.Choices as core
use Rattle.process_core.specs.Choices.{choice_of}
use Rattle.process_core.specs.Combined.{choices_often}
use Rattle.process_core.specs.Follow.{FollowsReady}
use Rattle.process_core.specs.Idle.{NoRewards}
use Rattle.prism_tree.specs.Syntax as prism
use Rattle.prism_tree.specs.Syntax.{Body}
use Rattle.prism_names.specs.Names.{part_of}
use Rattle.process_core.specs.Instance.{Valuation, numbered, only_if}
use Rattle.prism_flat.specs.Moment.{part_at}
use Rattle.prism_flat.specs.Process as prism_process
use Rattle.jani_meaning.specs.Moment as jani_moment
use Rattle.jani_meaning.specs.Process as jani_process
use Rattle.name_table.specs.Asks.{bodies, variables, actions, new_names}
use Rattle.jani_translation.specs.Automata.{zz_silent, zz_monitor, for_silent, has_silent, is_some_name, earning_actions, earns_silently, has_monitor, rewards_of, automaton, monitor_edges}
use Rattle.jani_translation.specs.Translated.{part_if, silent_vector, silent_vectors, translated}
use Rattle.jani_translation.specs.Laws.{watched_vector}
use Rattle.jani_translation.specs.SeenLaws.{IsSoundUnder, GivesAlike}
use Rattle.jani_translation.specs.StateLaws.{state_of, CommandsAreSound, ItemsAreSound, edge_label, shifted_ready, shifted, ChoicesInOrder, ChoicesWatched}
use Rattle.jani_translation.proofs.Each.{n_bodies}
use Rattle.jani_translation.proofs.Vectors.{vectors_watched}
use Rattle.jani_translation.proofs.Differ.{actions_are_not_silent}
use Rattle.jani_translation.proofs.Written.{body_part}
use Rattle.jani_translation.proofs.Edges.{quiet_label, edges_watched}
use Rattle.jani_translation.proofs.Choices.{any_state, ready_follows, no_silent, silently_for, mods, own, earned, few, are_bodies, actions_are, silent_follows}
use Rattle.jani_translation.proofs.Assigned.{assigned_by, monitor_assigned, monitor_undefined}
use Rattle.jani_translation.proofs.Monitor.{watching, watching_idle, monitor_here, one_silent}
use Rattle.jani_translation.proofs.Watched.{n_numbered, taking-append, SameChoice, each_same, watched_together, sound_items, silent_choices, monitor_number, watchers, commands, no_silent_watcher, actions_watched, part_no_rewards}
use Rattle.jani_tree.specs.Syntax.{element_names}

-- ---- members of lists
get_mapped : {X Y : Type 0} (f : X → Y) (xs : List X) (i : ℕ) (x : X) → slice_get xs i ≡ Some x → slice_get (map f xs) i ≡ Some (f x)
get_mapped f [] i x g = absurd cc
get_mapped f (y ∷ xs) zero x g = ap (λ z. Some (f z)) (same_Some y x g)
get_mapped f (y ∷ xs) (suc i) x g = get_mapped f xs i x g

get_numbered : {X Y : Type 0} (f : ℕ → X → Y) (k : ℕ) (xs : List X) (i : ℕ) (x : X) → slice_get xs i ≡ Some x → slice_get (numbered (λ j y. f j y ∷ []) k xs) i ≡ Some (f (k + i) x)
get_numbered f k [] i x g = absurd cc
get_numbered f k (y ∷ xs) zero x g = let on : k ≡ k + zero = omega arith in ap₂ (λ j z. Some (f j z)) on (same_Some y x g)
get_numbered f k (y ∷ xs) (suc i) x g =
    let on : k + 1 + i ≡ k + suc i = omega arith in
    get_numbered f (k + 1) xs i x g ∙ ap (λ j. Some (f j x)) on

-- ---- the vector of one module's commands without action takes of that module alone
module _ (i : ℕ) where
  abbrev silent_parts : ℕ → List Body → List (Option Name)
  silent_parts k bs = map (option_map (λ n. n.name)) (numbered (λ k m. part_if (nat_eq i k) zz_silent ∷ []) k bs)

  none_taken : (k : ℕ) (bs : List Body) (es : List (List Ready)) → i < k → taking (silent_parts k bs) es ≡ []
  none_taken k [] es l = refl
  none_taken k (b ∷ bs) [] l = refl
  none_taken k (b ∷ bs) (e ∷ es) l =
      ap (λ c. taking (option_map (λ n. n.name) (part_if c zz_silent) ∷ silent_parts (k + 1) bs) (e ∷ es)) (ne_eqb i k (λ r. absurd (omega arith)))
      ∙ none_taken (k + 1) bs es (omega arith)

  one_taken : (k : ℕ) (bs : List Body) (es : List (List Ready)) (j : ℕ) (e : List Ready) → i ≡ k + j → length bs ≡ length es → slice_get es j ≡ Some e →
      taking (silent_parts k bs) es ≡ filter (has_action (Some zz_silent.name)) e ∷ []
  one_taken k bs [] j e q l g = absurd cc
  one_taken k [] (u ∷ es) j e q l g = absurd cc
  one_taken k (b ∷ bs) (u ∷ es) zero e q l g =
      ap (λ c. taking (option_map (λ n. n.name) (part_if c zz_silent) ∷ silent_parts (k + 1) bs) (u ∷ es)) (eq-eqb i k (omega arith))
      ∙ ap₂ (λ x r. filter (has_action (Some zz_silent.name)) x ∷ r) (same_Some u e g) (none_taken (k + 1) bs es (omega arith))
  one_taken k (b ∷ bs) (u ∷ es) (suc j) e q l g =
      ap (λ c. taking (option_map (λ n. n.name) (part_if c zz_silent) ∷ silent_parts (k + 1) bs) (u ∷ es)) (ne_eqb i k (λ r. absurd (omega arith)))
      ∙ one_taken (k + 1) bs es j e (omega arith) (omega arith) g

-- one of one list
together_one : (a : Option Name) (rewards : List Sum) (xs : List Ready) →
    together a rewards (xs ∷ []) ≡ map (λ r. record { label = a; rewards = rewards; participants = r ∷ [] }) xs
together_one a rewards [] = refl
together_one a rewards (x ∷ xs) = ap (λ r. record { label = a; rewards = rewards; participants = x ∷ [] } ∷ r) (together_one a rewards xs)

-- ---- commands without action have the action zz_silent
module _ (file : prism.File) (silently : earns_silently file ≡ true) where
  abbrev n : ℕ
  n = length (element_names (translated file))

  abbrev new_label : Option Name → Option Name
  new_label = edge_label (earns_silently file) (new_names file).action

  labelled : (b : Bool) → b ≡ true → (a : Option Name) → same_label None (edge_label b (new_names file).action a) ≡ false
  labelled b h (Some a) = refl
  labelled true h None = refl
  labelled false h None = absurd cc

  named_silent : (b : Bool) → b ≡ true → (a : Option Name) → same_label None a ≡ same_label (Some zz_silent.name) (edge_label b (new_names file).action a)
  named_silent b h (Some a) = sym (bytes_ne zz_silent.name ((new_names file).action a) (λ e. actions_are_not_silent file a (sym e)))
  named_silent true h None = sym (bytes_eq-self zz_silent.name)
  named_silent false h None = absurd cc

  no_edges : (i : ℕ) (m : List Ready) → filter (has_action None) (map (shifted_ready new_label n i) m) ≡ []
  no_edges i [] = refl
  no_edges i (r ∷ m) =
      ap₂ (λ b l. cond b (shifted_ready new_label n i r ∷ l) l) (labelled (earns_silently file) silently r.action) (no_edges i m)

  none_alone : (rewards : List Sum) (i : ℕ) (ms : List (List Ready)) → silent rewards (numbered (λ i m. map (shifted_ready new_label n i) m ∷ []) i ms) ≡ []
  none_alone rewards i [] = refl
  none_alone rewards i (m ∷ ms) =
      ap₂ (λ x y. map (λ r. record { label = None; rewards = rewards; participants = r ∷ [] }) x ++ y) (no_edges i m) (none_alone rewards (i + 1) ms)

  abbrev FollowsSilent : Ready → Ready → Type 0
  FollowsSilent r t = FollowsReady any_state (state_of file) r t × (has_action None r ≡ has_action (Some zz_silent.name) t)

  silents_follow : (i : ℕ) → i < n → (m : List Ready) → AllZip FollowsSilent m (map (shifted_ready new_label n i) m)
  silents_follow i l [] = tt
  silents_follow i l (r ∷ m) = ((ready_follows file new_label i l r, named_silent (earns_silently file) silently r.action), silents_follow i l m)

  follow_alone : (rs ts : List Ready) → AllZip FollowsSilent rs ts → AllZip (FollowsReady any_state (state_of file)) rs ts
  follow_alone [] [] h = tt
  follow_alone [] (t ∷ ts) h = absurd h
  follow_alone (r ∷ rs) [] h = absurd h
  follow_alone (r ∷ rs) (t ∷ ts) h = (h.0.0, follow_alone rs ts h.1)

  silent_edges : (i : ℕ) → i < n → (m : List Ready) →
      AllZip (FollowsReady any_state (state_of file)) (filter (has_action None) m) (filter (has_action (Some zz_silent.name)) (map (shifted_ready new_label n i) m))
  silent_edges i l m =
      follow_alone _ _ (AllZip-filter FollowsSilent (has_action None) (has_action (Some zz_silent.name)) (λ r t f. f.1) m (map (shifted_ready new_label n i) m) (silents_follow i l m))

  monitor_for_silent : has_monitor file ≡ true
  monitor_for_silent = or_right (is_some_name (earning_actions file)) (earns_silently file) silently

module _ (file : prism.File) (v w : Valuation) (sound : IsSoundUnder file v) (alike : GivesAlike file v w) (s : Values) (long : length s ≡ length (variables file)) where
  abbrev all_elements : List (List Ready)
  all_elements = commands file v w sound alike s long ++ watchers file v w sound alike s long

  abbrev Same : Combination → Combination → Type 0
  Same = SameChoice file s

  n_commands : length (bodies file) ≡ length (commands file v w sound alike s long)
  n_commands =
      let a = n_numbered (λ i m. map (shifted_ready (edge_label (earns_silently file) (new_names file).action) (length (element_names (translated file))) i) m) 0 (mods file v w sound alike s) in
      let d = length-map (map (part_of file) file.modules) (part_at file v s) in
      let e = length-map file.modules (part_of file) in
      let f = n_bodies file in
      omega arith

  -- ---- the combinations of a module's commands without action
  watcher_silent : earns_silently file ≡ true → taking (Some zz_silent.name ∷ []) (watchers file v w sound alike s long) ≡ (watching file v w sound alike s long zz_silent for_silent ∷ []) ∷ []
  watcher_silent h =
      let k = monitor_for_silent file h in
      ap (λ b. taking (Some zz_silent.name ∷ [])
      (map (jani_moment.element_at (translated file) w (state_of file s) (length file.modules)) (only_if b (automaton (new_names file) zz_monitor [] (monitor_edges (new_names file) file))))) k
      ∙ ap (λ m. filter (has_action (Some zz_silent.name)) m ∷ []) (monitor_here file v w sound alike s long (monitor_number file k))
      ∙ ap (λ m. m ∷ []) (one_silent file v w sound alike s long ∙ ap (λ b. only_if b (watching file v w sound alike s long zz_silent for_silent)) h)

  module_is : (i : ℕ) (b : Body) → slice_get (bodies file) i ≡ Some b → slice_get (mods file v w sound alike s) i ≡ Some (part_at file v s (body_part b))
  module_is i b g =
      ap (λ l. slice_get l i) (are_bodies file v w sound alike s)
      ∙ get_mapped (part_at file v s) (map body_part (bodies file)) i (body_part b) (get_mapped body_part (bodies file) i b g)

  module_number : (i : ℕ) (b : Body) → slice_get (bodies file) i ≡ Some b → i < length (element_names (translated file))
  module_number i b g =
      let l = slice_get_within (mods file v w sound alike s) i (part_at file v s (body_part b)) (module_is i b g) in
      let k = few file v w sound alike s in
      omega arith

  silent_taken : earns_silently file ≡ true → (i : ℕ) (b : Body) → slice_get (bodies file) i ≡ Some b →
      taking (jani_moment.vector_of (silent_vector file i)).parts all_elements
      ≡ filter (has_action (Some zz_silent.name)) (map (shifted_ready (edge_label (earns_silently file) (new_names file).action) (length (element_names (translated file))) i) (part_at file v s (body_part b)))
      ∷ (watching file v w sound alike s long zz_silent for_silent ∷ []) ∷ []
  silent_taken h i b g =
      let l = edge_label (earns_silently file) (new_names file).action in
      let k = length (element_names (translated file)) in
      let on : 0 + i ≡ i = omega arith in
      let c = n_commands in
      let n = length-map (numbered (λ k m. part_if (nat_eq i k) zz_silent ∷ []) 0 (bodies file)) (option_map (λ n. n.name)) in
      let q = n_numbered (λ k m. part_if (nat_eq i k) zz_silent) 0 (bodies file) in
      ap (λ ps. taking ps all_elements) (map-append (option_map (λ n. n.name)) (numbered (λ k m. part_if (nat_eq i k) zz_silent ∷ []) 0 (bodies file)) (Some zz_silent ∷ []))
      ∙ taking-append (silent_parts i 0 (bodies file)) (Some zz_silent.name ∷ []) (commands file v w sound alike s long) (watchers file v w sound alike s long) (omega arith)
      ∙ ap₂ (λ x y. x ++ y)
      (one_taken i 0 (bodies file) (commands file v w sound alike s long) i (map (shifted_ready l k i) (part_at file v s (body_part b))) (sym on) n_commands
      (get_numbered (λ i m. map (shifted_ready l k i) m) 0 (mods file v w sound alike s) i (part_at file v s (body_part b)) (module_is i b g)
      ∙ ap (λ j. Some (map (shifted_ready l k j) (part_at file v s (body_part b)))) on))
      (watcher_silent h)

  one_module : ItemsAreSound file v s → earns_silently file ≡ true → (i : ℕ) (b : Body) → slice_get (bodies file) i ≡ Some b →
      AllZip Same (map (λ r. record { label = None; rewards = earned file v w sound alike s None; participants = r ∷ [] }) (filter (has_action None) (part_at file v s (body_part b))))
      (together None (own file v w sound alike s) (taking (jani_moment.vector_of (silent_vector file i)).parts all_elements))
  one_module items h i b g =
      let l = edge_label (earns_silently file) (new_names file).action in
      let m = part_at file v s (body_part b) in
      let k = length file.modules in
      let t = watching file v w sound alike s long zz_silent for_silent in
      let rewards = assigned_by file v w sound alike s long k (rewards_of (new_names file) for_silent file.rewards) in
      let good = sound_items file v s items (monitor_for_silent file h) for_silent silent_choices in
      let rs = filter (has_action None) m in
      let ts = filter (has_action (Some zz_silent.name)) (map (shifted_ready l (length (element_names (translated file))) i) m) in
      subst (λ (x : List Combination). AllZip Same x (together None (own file v w sound alike s) (taking (jani_moment.vector_of (silent_vector file i)).parts all_elements)))
      (together_one None (earned file v w sound alike s None) rs)
      (subst (λ (x : List (List Ready)). AllZip Same (together None (earned file v w sound alike s None) (rs ∷ [])) (together None (own file v w sound alike s) x))
      (sym (silent_taken h i b g))
      (watched_together file s None None None refl (earned file v w sound alike s None) (own file v w sound alike s) rewards t
      (watching_idle file v w sound alike s long (monitor_number file (monitor_for_silent file h)) zz_silent None for_silent)
      (monitor_assigned file v w sound alike s long k None for_silent silently_for good)
      (monitor_undefined file v w sound alike s long k None for_silent silently_for good)
      (rs ∷ []) (ts ∷ []) (silent_edges file h i (module_number i b g) m, tt)
      (All-cons (All NoRewards) rs [] (All-filter (has_action None) NoRewards m (part_no_rewards file v s (body_part b))) (All-nil (All NoRewards)))))

  abbrev taken : Vector → List Combination
  taken u = together u.result (own file v w sound alike s) (taking u.parts all_elements)

  silents_walk : ItemsAreSound file v s → earns_silently file ≡ true → (i : ℕ) (bs : List Body) → ((j : ℕ) (b : Body) → slice_get bs j ≡ Some b → slice_get (bodies file) (i + j) ≡ Some b) →
      AllZip Same (silent (earned file v w sound alike s None) (map (part_at file v s) (map body_part bs)))
      (flat_map taken (map jani_moment.vector_of (numbered (λ i m. only_if (has_silent m) (silent_vector file i)) i bs)))
  silents_walk items h i [] k = tt
  silents_walk items h i (b ∷ bs) k =
      let on : i + 0 ≡ i = omega arith in
      by_test (has_silent b) refl (one_module items h i b (ap (slice_get (bodies file)) (sym on) ∙ k 0 b refl))
      (silents_walk items h (i + 1) bs (λ j c g. let next : i + 1 + j ≡ i + suc j = omega arith in ap (slice_get (bodies file)) next ∙ k (suc j) c g))
    where
      before : List Combination
      before = map (λ r. record { label = None; rewards = earned file v w sound alike s None; participants = r ∷ [] }) (filter (has_action None) (part_at file v s (body_part b)))

      rest : List Combination
      rest = silent (earned file v w sound alike s None) (map (part_at file v s) (map body_part bs))

      by_test : (c : Bool) → has_silent b ≡ c →
          AllZip Same before (together None (own file v w sound alike s) (taking (jani_moment.vector_of (silent_vector file i)).parts all_elements)) →
          AllZip Same rest (flat_map taken (map jani_moment.vector_of (numbered (λ i m. only_if (has_silent m) (silent_vector file i)) (i + 1) bs))) →
          AllZip Same (before ++ rest)
          (flat_map taken (map jani_moment.vector_of (only_if c (silent_vector file i) ++ numbered (λ i m. only_if (has_silent m) (silent_vector file i)) (i + 1) bs)))
      by_test true e p r = AllZip-append Same before rest _ _ p r
      by_test false e p r =
          subst (λ (x : List Ready). AllZip Same (map (λ r. record { label = None; rewards = earned file v w sound alike s None; participants = r ∷ [] }) x ++ rest)
          (flat_map taken (map jani_moment.vector_of (numbered (λ i m. only_if (has_silent m) (silent_vector file i)) (i + 1) bs))))
          (sym (no_silent _ (λ c. refl) b.commands e)) r

  silents_watched : ItemsAreSound file v s → earns_silently file ≡ true →
      AllZip Same (silent (earned file v w sound alike s None) (mods file v w sound alike s)) (flat_map taken (map jani_moment.vector_of (silent_vectors file)))
  silents_watched items h =
      subst (λ (ms : List (List Ready)). AllZip Same (silent (earned file v w sound alike s None) ms) (flat_map taken (map jani_moment.vector_of (silent_vectors file))))
      (sym (are_bodies file v w sound alike s))
      (silents_walk items h 0 (bodies file) (λ j b g. let on : 0 + j ≡ j = omega arith in ap (slice_get (bodies file)) on ∙ g))

  -- ---- all combinations
  abbrev acting : List Combination
  acting = flat_map (λ a. together (Some a) (earned file v w sound alike s (Some a)) (sharing a (mods file v w sound alike s))) (actions_of (mods file v w sound alike s))

  abbrev alone_ones : List Combination
  alone_ones = silent (earned file v w sound alike s None) (mods file v w sound alike s)

  abbrev action_vectors : List Vector
  action_vectors = map (λ a. watched_vector file (new_names file).action a (vector_of a (mods file v w sound alike s))) (actions_of (mods file v w sound alike s))

  acting_watched : ItemsAreSound file v s → AllZip Same acting (flat_map taken action_vectors)
  acting_watched items =
      subst (λ (r : List Combination). AllZip Same acting r)
      (sym (flat_map-map taken (λ a. watched_vector file (new_names file).action a (vector_of a (mods file v w sound alike s))) (actions_of (mods file v w sound alike s))))
      (actions_watched file v w sound alike s long items (actions_of (mods file v w sound alike s))
      (subst (λ (as_ : List Name). All (Contains (actions file)) as_) (sym (actions_are file v w sound alike s)) (All-contains_itself (actions file))))

  -- those that are silent in the translated file
  abbrev alone_there : List Combination
  alone_there = silent (own file v w sound alike s) all_elements

  there_are : alone_there ≡ silent (own file v w sound alike s) (commands file v w sound alike s long)
  there_are =
      flat_map-append (λ m. map (λ r. record { label = None; rewards = own file v w sound alike s; participants = r ∷ [] }) (filter (has_action None) m))
      (commands file v w sound alike s long) (watchers file v w sound alike s long)
      ∙ ap (λ r. silent (own file v w sound alike s) (commands file v w sound alike s long) ++ r) (no_silent_watcher file v w sound alike s long (own file v w sound alike s))
      ∙ append-nil (silent (own file v w sound alike s) (commands file v w sound alike s long))

  quiet_follow : earns_silently file ≡ false → AllZip Same alone_ones alone_there
  quiet_follow quiet =
      let k = length (element_names (translated file)) in
      let ms = mods file v w sound alike s in
      let new = (new_names file).action in
      subst (λ (r : List Combination). AllZip Same alone_ones r)
      (sym (there_are ∙ ap (λ b. silent (own file v w sound alike s) (shifted (edge_label b new) k ms)) quiet ∙ ap (λ l. silent (own file v w sound alike s) (shifted l k ms)) (fun_ext (quiet_label new))))
      (each_same file s _ _ (silent_follows file v w sound alike s quiet))

  abbrev silent_ones : List Vector
  silent_ones = map jani_moment.vector_of (if earns_silently file then silent_vectors file else [])

  all_in_order : ItemsAreSound file v s → earns_silently file ≡ false → AllZip Same (alone_ones ++ acting) (alone_there ++ flat_map taken (action_vectors ++ silent_ones))
  all_in_order items quiet =
      AllZip-append Same alone_ones acting alone_there _ (quiet_follow quiet)
      (subst (λ (us : List Vector). AllZip Same acting (flat_map taken us))
      (sym (ap (λ b. action_vectors ++ map jani_moment.vector_of (if b then silent_vectors file else [])) quiet ∙ append-nil action_vectors))
      (acting_watched items))

  all_turned : ItemsAreSound file v s → earns_silently file ≡ true → AllZip Same (acting ++ alone_ones) (alone_there ++ flat_map taken (action_vectors ++ silent_ones))
  all_turned items h =
      subst (λ (r : List Combination). AllZip Same (acting ++ alone_ones) (r ++ flat_map taken (action_vectors ++ silent_ones)))
      (sym (there_are ∙ none_alone file h (own file v w sound alike s) 0 (mods file v w sound alike s)))
      (subst (λ (r : List Combination). AllZip Same (acting ++ alone_ones) r)
      (sym (ap (λ b. flat_map taken (action_vectors ++ map jani_moment.vector_of (if b then silent_vectors file else []))) h ∙ flat_map-append taken action_vectors (map jani_moment.vector_of (silent_vectors file))))
      (AllZip-append Same acting alone_ones (flat_map taken action_vectors) (flat_map taken (map jani_moment.vector_of (silent_vectors file))) (acting_watched items) (silents_watched items h)))

  -- the choices of the translated file are those of these combinations
  choices_are : CommandsAreSound file v s →
      (jani_process.model (translated file)).choices w (state_of file s)
      ≡ core.choices (state_of file s) (alone_there ++ flat_map taken (action_vectors ++ silent_ones))
  choices_are h =
      ap₂ (λ vs es. core.choices (state_of file s) (of_elements (own file v w sound alike s) vs es)) (vectors_watched file sound.written v s) (edges_watched file v w sound alike s h)

  -- combinations of the file whose choices are found there, in order
  are_images : CommandsAreSound file v s → (cs : List Combination) → AllZip Same cs (alone_there ++ flat_map taken (action_vectors ++ silent_ones)) →
      (jani_process.model (translated file)).choices w (state_of file s) ≡ map (choice_image (option_map (new_names file).action) (state_of file)) (core.choices s cs)
  are_images h cs same =
      choices_are h
      ∙ flat_map_alike Same (λ c. map (choice_image (option_map (new_names file).action) (state_of file)) (choice_of s c)) (choice_of (state_of file s)) (λ c d e. e)
      cs (alone_there ++ flat_map taken (action_vectors ++ silent_ones)) same
      ∙ sym (map-flat_map (choice_image (option_map (new_names file).action) (state_of file)) (choice_of s) cs)

pub choices_in_order : (file : prism.File) → ChoicesInOrder file
choices_in_order file v w sound alike quiet s h items =
    are_images file v w sound alike s h.values h _ (all_in_order file v w sound alike s h.values items quiet)

pub choices_watched : (file : prism.File) → ChoicesWatched file
choices_watched file v w sound alike s h items = by_test (earns_silently file) refl
  where
    by_test : (b : Bool) → earns_silently file ≡ b →
        EquallyOften (map (choice_image (option_map (new_names file).action) (state_of file)) ((prism_process.model file).choices v s)) ((jani_process.model (translated file)).choices w (state_of file s))
    by_test false quiet = often_same _ _ (sym (choices_in_order file v w sound alike quiet s h items))
    by_test true silently =
        often_trans
        (often-map (choice_image (option_map (new_names file).action) (state_of file)) (choices_often s (often_turned (alone_ones file v w sound alike s h.values) (acting file v w sound alike s h.values))))
        (often_same _ _ (sym (are_images file v w sound alike s h.values h _ (all_turned file v w sound alike s h.values items silently))))
