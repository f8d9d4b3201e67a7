-- In automata no expression reads a transient variable, no edge assigns to a label, and destinations assign the same rewards.
use Rattle.std.specs.Prelude.{◌≡◌, List, [], ◌∷◌, ◌++◌, map, Bool, true, false, ◌||◌, Option, Some, None, if◌then◌else◌}
use Rattle.std.specs.List.{flat_map, filter, find, zip, list_any, AllByRecursion as Each}
use Rattle.std.specs.Option.{option_map, option_or as or_else}
use Rattle.std.proofs.Common.{refl, ap, ap₂, ◌∙◌, append-nil}
use Rattle.std.proofs.lemmas.List.{map-append}
use Rattle.basics.specs.Lists.{append_both, flat_map_both}
use Rattle.basics.specs.Each.{each_join}
use Rattle.bridge_io.specs.declared.reason.Fault.{Fault}
use Rattle.bridge_io.specs.declared.reason.Named.{Named}
use Rattle.bridge_io.specs.declared.reason.Reason.TheVariants.{LabelOnEdge, BranchReward}
use Rattle.op_trees.specs.Tree.{Two}
use Rattle.op_trees.specs.Names.{names_of, is_called}
use Rattle.process_core.specs.Product.{flat_map-flat_map}
use Rattle.process_core.specs.Ready.{Name}
use Rattle.prism_tree.specs.declared.syntax.ItemOn.{ItemOn}
use Rattle.prism_tree.specs.Syntax as prism
use Rattle.process_core.specs.Instance.{only_if}
use Rattle.prism_check.specs.Flattened.{IsFlat}
use Rattle.jani_table.specs.declared.operator.JaniOp.TheVariants.{Add}
use Rattle.jani_tree.specs.Syntax.{Expression, Write, Edge, Automaton}
use Rattle.name_rules.specs.Least.{fault_if}
use Rattle.jani_check.specs.Things.{const_thing, var_thing, global_thing, beside, is_label, is_reward}
use Rattle.jani_check.specs.Demands.{assigned, given, destination_demands, edge_demands, automaton_demands}
use Rattle.jani_check.specs.ProfileFaults.{reads, read_fault, demand_profile, value_for, lacks, rewards_by, differ, some_differ, branch_rewards}
use Rattle.jani_translation.specs.Entry.{Entry}
use Rattle.prism_images.specs.Image.{image}
use Rattle.jani_translation.specs.Asks.{bodies, variables, new_names}
use Rattle.jani_translation.specs.Parts.{made, instead_if}
use Rattle.jani_translation.specs.Automata.{zz_silent, zz_monitor, for_states, for_action, for_silent, earning_actions, earns_silently, has_monitor, item_value, sum_behind, sum_to, reward_of, rewards_of, write, destination, edge, automaton, label_value, location_values, module_automata, monitor_edge, monitor_edges, monitor}
use Rattle.jani_translation.specs.Translated.{translated}
use Rattle.jani_translation_laws.specs.ProfileLaws.{AutomataReadsFit, BranchesFit}
use Rattle.jani_translation_laws.proofs.Alike.{source_const, source_var, stand_alike}
use Rattle.jani_translation_laws.proofs.Rewarding.{IsReward, rewards_given}
use Rattle.jani_translation_laws.proofs.Automata.{beside_none}
use Rattle.jani_translation_laws.proofs.Reading.{none_read}

-- nothing comes of a mapped list, where nothing comes of anything
nothing_of : {A B C : Type 0} (F : B → List C) (g : A → B) → ((x : A) → F (g x) ≡ []) → (xs : List A) → flat_map F (map g xs) ≡ []
nothing_of F g h [] = refl
nothing_of F g h (x ∷ xs) = append_both (F (g x)) _ (h x) (nothing_of F g h xs)

module _ (file : prism.File) (flat : IsFlat file) where
  -- ---- commands write neither labels nor structures
  else_no_label : (c : Option prism.Const) (v : Option prism.Var) →
      is_label (or_else (option_map (λ c. const_thing (source_const c)) c) (option_map (λ v. var_thing (source_var v)) v)) ≡ false
  else_no_label None None = refl
  else_no_label None (Some v) = refl
  else_no_label (Some c) v = refl

  else_no_reward : (c : Option prism.Const) (v : Option prism.Var) →
      is_reward (or_else (option_map (λ c. const_thing (source_const c)) c) (option_map (λ v. var_thing (source_var v)) v)) ≡ false
  else_no_reward None None = refl
  else_no_reward None (Some v) = refl
  else_no_reward (Some c) v = refl

  no_label : (x : Name) → is_label (global_thing (translated file) ((new_names file).value x)) ≡ false
  no_label x =
      ap is_label (stand_alike file flat x)
      ∙ else_no_label (find (λ c. is_called x c.name) file.constants) (find (λ v. is_called x v.name) (variables file))

  pub no_reward : (x : Name) → is_reward (global_thing (translated file) ((new_names file).value x)) ≡ false
  no_reward x =
      ap is_reward (stand_alike file flat x)
      ∙ else_no_reward (find (λ c. is_called x c.name) file.constants) (find (λ v. is_called x v.name) (variables file))

  -- ---- the edges of modules
  write_reads : (w : prism.Write) → demand_profile (global_thing (translated file)) (assigned (write (new_names file) w)) ≡ []
  write_reads w =
      append_both (fault_if (is_label (global_thing (translated file) ((new_names file).value w.name.name))) w.name.at LabelOnEdge) _
      (ap (λ b. fault_if b w.name.at LabelOnEdge) (no_label w.name.name)) (none_read file flat w.value)

  writes_read : (ws : List prism.Write) → flat_map (demand_profile (global_thing (translated file))) (map assigned (map (write (new_names file)) ws)) ≡ []
  writes_read [] = refl
  writes_read (w ∷ ws) = append_both (demand_profile (global_thing (translated file)) (assigned (write (new_names file) w))) _ (write_reads w) (writes_read ws)

  branch_reads : (o : Option prism.Expression) (ws : List prism.Write) →
      flat_map (demand_profile (global_thing (translated file))) (destination_demands (destination (new_names file) (record { weight = o; writes = ws }))) ≡ []
  branch_reads None ws = writes_read ws
  branch_reads (Some e) ws = append_both (reads (global_thing (translated file)) (image (new_names file).value e)) _ (none_read file flat e) (writes_read ws)

  edge_reads : (silently : Bool) (c : prism.Command) → flat_map (demand_profile (global_thing (translated file))) (edge_demands (edge (new_names file) silently c)) ≡ []
  edge_reads silently c =
      let F = demand_profile (global_thing (translated file)) in
      append_both (reads (global_thing (translated file)) (image (new_names file).value c.guard)) (flat_map F (flat_map destination_demands (map (destination (new_names file)) c.branches)))
      (none_read file flat c.guard)
      (flat_map-flat_map F destination_demands (map (destination (new_names file)) c.branches)
      ∙ nothing_of (λ d. flat_map F (destination_demands d)) (destination (new_names file)) (λ b. branch_reads b.weight b.writes) c.branches)

  edges_read : (silently : Bool) (cs : List prism.Command) → flat_map (demand_profile (global_thing (translated file))) (flat_map edge_demands (map (edge (new_names file) silently) cs)) ≡ []
  edges_read silently cs =
      let F = demand_profile (global_thing (translated file)) in
      flat_map-flat_map F edge_demands (map (edge (new_names file) silently) cs)
      ∙ nothing_of (λ e. flat_map F (edge_demands e)) (edge (new_names file) silently) (edge_reads silently) cs

  -- ---- what is given to structures
  item_reads : (i : prism.Item) → reads (global_thing (translated file)) (item_value (new_names file) i) ≡ []
  item_reads i =
      let R = read_fault (global_thing (translated file)) in
      flat_map_both R (names_of (image (new_names file).value i.guard)) (names_of (image (new_names file).value i.value) ++ []) (none_read file flat i.guard)
      (ap (flat_map R) (append-nil (names_of (image (new_names file).value i.value))) ∙ none_read file flat i.value)

  sum_reads : (is : List prism.Item) (e : Expression) → reads (global_thing (translated file)) e ≡ [] → reads (global_thing (translated file)) (sum_behind (new_names file) e is) ≡ []
  sum_reads [] e h = h
  sum_reads (i ∷ is) e h =
      sum_reads is (Two 0 Add e (item_value (new_names file) i))
      (flat_map_both (read_fault (global_thing (translated file))) (names_of e) (names_of (item_value (new_names file) i)) h (item_reads i))

  abbrev ReadsNone : Write → Type 0
  ReadsNone w = reads (global_thing (translated file)) w.value ≡ []

  sum_to_reads : (x : Named) (is : List prism.Item) → Each ReadsNone (sum_to (new_names file) x is)
  sum_to_reads x [] = tt
  sum_to_reads x (i ∷ is) = (sum_reads is (item_value (new_names file) i) (item_reads i), tt)

  rewards_read : (wanted : ItemOn → Bool) (ps : List (prism.Rewards × Entry)) → Each ReadsNone (flat_map (λ p. reward_of (new_names file) wanted p.0 p.1) ps)
  rewards_read wanted [] = tt
  rewards_read wanted (p ∷ ps) =
      each_join ReadsNone (reward_of (new_names file) wanted p.0 p.1) _ (sum_to_reads (instead_if p.0.name p.1.name) (filter (λ i. wanted i.on) p.0.items)) (rewards_read wanted ps)

  given_reads : (ws : List Write) → Each ReadsNone ws → flat_map (demand_profile (global_thing (translated file))) (map given ws) ≡ []
  given_reads [] h = refl
  given_reads (w ∷ ws) h = append_both (reads (global_thing (translated file)) w.value) _ h.0 (given_reads ws h.1)

  assigned_reads : (ws : List Write) → Each ReadsNone ws → Each (IsReward file flat) ws → flat_map (demand_profile (global_thing (translated file))) (map assigned ws) ≡ []
  assigned_reads [] h k = refl
  assigned_reads (w ∷ ws) h k =
      append_both (demand_profile (global_thing (translated file)) (assigned w)) _
      (append_both (fault_if (is_label (global_thing (translated file) w.target.name)) w.target.at LabelOnEdge) _
      (ap (λ b. fault_if b w.target.at LabelOnEdge) (ap is_label k.0.0)) h.0) (assigned_reads ws h.1 k.1)

  labels_read : (ps : List (prism.Label × Entry)) → flat_map (demand_profile (global_thing (translated file))) (map given (map (λ p. label_value (new_names file) p.0 p.1) ps)) ≡ []
  labels_read [] = refl
  labels_read (p ∷ ps) = append_both (reads (global_thing (translated file)) (image (new_names file).value p.0.body)) _ (none_read file flat p.0.body) (labels_read ps)

  values_read : flat_map (demand_profile (global_thing (translated file))) (map given (location_values (new_names file) file)) ≡ []
  values_read =
      let F = demand_profile (global_thing (translated file)) in
      let labels = map (λ p. label_value (new_names file) p.0 p.1) (zip file.labels (new_names file).labels) in
      let rewards = rewards_of (new_names file) for_states file.rewards in
      ap (flat_map F) (map-append given labels rewards)
      ∙ flat_map_both F (map given labels) (map given rewards) (labels_read (zip file.labels (new_names file).labels))
      (given_reads rewards (rewards_read for_states (zip file.rewards (new_names file).rewards)))

  -- ---- automata
  automaton_reads : (x : Named) (values : List Write) (edges : List Edge) → flat_map (demand_profile (global_thing (translated file))) (map given values) ≡ [] →
      flat_map (demand_profile (global_thing (translated file))) (flat_map edge_demands edges) ≡ [] →
      flat_map (demand_profile (beside (global_thing (translated file)) [])) (automaton_demands (automaton (new_names file) x values edges)) ≡ []
  automaton_reads x values edges h k =
      let F = demand_profile (global_thing (translated file)) in
      ap (λ g. flat_map (demand_profile g) ((map given values ++ []) ++ flat_map edge_demands edges)) (beside_none file)
      ∙ flat_map_both F (map given values ++ []) (flat_map edge_demands edges) (ap (flat_map F) (append-nil (map given values)) ∙ h) k

  abbrev read_in : Automaton → List Fault
  read_in a = flat_map (demand_profile (beside (global_thing (translated file)) a.variables)) (automaton_demands a)

  modules_read : (silently : Bool) (values : List Write) (ms : List prism.Body) (es : List Entry) → flat_map (demand_profile (global_thing (translated file))) (map given values) ≡ [] →
      flat_map read_in (module_automata (new_names file) silently values ms es) ≡ []
  modules_read silently values [] es h = refl
  modules_read silently values (m ∷ ms) [] h = refl
  modules_read silently values (m ∷ ms) (e ∷ es) h =
      append_both _ (flat_map read_in (module_automata (new_names file) silently [] ms es))
      (automaton_reads m.name values (map (edge (new_names file) silently) m.commands) h (edges_read silently m.commands)) (modules_read silently [] ms es refl)

  earning_reads : (a : Named) (wanted : ItemOn → Bool) → flat_map (demand_profile (global_thing (translated file))) (edge_demands (monitor_edge (new_names file) file a wanted)) ≡ []
  earning_reads a wanted =
      let ws = rewards_of (new_names file) wanted file.rewards in
      ap (flat_map (demand_profile (global_thing (translated file)))) (append-nil (map assigned ws))
      ∙ assigned_reads ws (rewards_read wanted (zip file.rewards (new_names file).rewards)) (rewards_given file flat wanted)

  last_reads : (b : Bool) → flat_map (λ e. flat_map (demand_profile (global_thing (translated file))) (edge_demands e)) (only_if b (monitor_edge (new_names file) file zz_silent for_silent)) ≡ []
  last_reads true = append_both _ [] (earning_reads zz_silent for_silent) refl
  last_reads false = refl

  monitor_reads : (b : Bool) → flat_map read_in (only_if b (automaton (new_names file) zz_monitor [] (monitor_edges (new_names file) file))) ≡ []
  monitor_reads true =
      let F = demand_profile (global_thing (translated file)) in
      append_both _ []
      (automaton_reads zz_monitor [] (monitor_edges (new_names file) file) refl
      (flat_map-flat_map F edge_demands (monitor_edges (new_names file) file)
      ∙ flat_map_both (λ e. flat_map F (edge_demands e)) (map (λ a. monitor_edge (new_names file) file (made ((new_names file).action a)) (for_action a)) (earning_actions file))
      (only_if (earns_silently file) (monitor_edge (new_names file) file zz_silent for_silent))
      (nothing_of (λ e. flat_map F (edge_demands e)) (λ a. monitor_edge (new_names file) file (made ((new_names file).action a)) (for_action a)) (λ a. earning_reads (made ((new_names file).action a)) (for_action a)) (earning_actions file))
      (last_reads (earns_silently file)))) refl
  monitor_reads false = refl

  automata_read : flat_map read_in (translated file).automata ≡ []
  automata_read =
      flat_map_both read_in (module_automata (new_names file) (earns_silently file) (location_values (new_names file) file) (bodies file) (new_names file).modules) (monitor (new_names file) file)
      (modules_read (earns_silently file) (location_values (new_names file) file) (bodies file) (new_names file).modules values_read)
      (monitor_reads (has_monitor file))

pub automata_reads_fit : (file : prism.File) → AutomataReadsFit file
automata_reads_fit file flat = automata_read file flat

-- ---- the rewards of destinations
module _ (file : prism.File) (flat : IsFlat file) where
  none_rewarded : (ws : List prism.Write) → rewards_by (global_thing (translated file)) (map (write (new_names file)) ws) ≡ []
  none_rewarded [] = refl
  none_rewarded (w ∷ ws) =
      ap (λ b. if b then (write (new_names file) w ∷ rewards_by (global_thing (translated file)) (map (write (new_names file)) ws)) else rewards_by (global_thing (translated file)) (map (write (new_names file)) ws))
      (no_reward file flat w.name.name)
      ∙ none_rewarded ws

  none_differ : (b c : prism.Branch) → differ (global_thing (translated file)) (destination (new_names file) b) (destination (new_names file) c) ≡ false
  none_differ b c =
      ap₂ (λ xs ys. list_any (lacks (value_for (map (write (new_names file)) c.writes))) xs || list_any (lacks (value_for (map (write (new_names file)) b.writes))) ys)
      (none_rewarded b.writes) (none_rewarded c.writes)

  one_differs : (b : prism.Branch) (cs : List prism.Branch) → list_any (differ (global_thing (translated file)) (destination (new_names file) b)) (map (destination (new_names file)) cs) ≡ false
  one_differs b [] = refl
  one_differs b (c ∷ cs) = ap₂ (λ x y. x || y) (none_differ b c) (one_differs b cs)

  branches_alike : (bs : List prism.Branch) → some_differ (global_thing (translated file)) (map (destination (new_names file)) bs) ≡ false
  branches_alike [] = refl
  branches_alike (b ∷ bs) = ap₂ (λ x y. x || y) (one_differs b bs) (branches_alike bs)

  edge_alike : (silently : Bool) (c : prism.Command) → branch_rewards (global_thing (translated file)) (edge (new_names file) silently c) ≡ []
  edge_alike silently c = ap (λ b. fault_if b 0 BranchReward) (branches_alike c.branches)

  abbrev alike_in : Automaton → List Fault
  alike_in a = flat_map (branch_rewards (beside (global_thing (translated file)) a.variables)) a.edges

  modules_alike : (silently : Bool) (values : List Write) (ms : List prism.Body) (es : List Entry) → flat_map alike_in (module_automata (new_names file) silently values ms es) ≡ []
  modules_alike silently values [] es = refl
  modules_alike silently values (m ∷ ms) [] = refl
  modules_alike silently values (m ∷ ms) (e ∷ es) =
      append_both _ (flat_map alike_in (module_automata (new_names file) silently [] ms es))
      (ap (λ g. flat_map (branch_rewards g) (map (edge (new_names file) silently) m.commands)) (beside_none file)
      ∙ nothing_of (branch_rewards (global_thing (translated file))) (edge (new_names file) silently) (edge_alike silently) m.commands)
      (modules_alike silently [] ms es)

  last_alike : (b : Bool) → flat_map (branch_rewards (beside (global_thing (translated file)) [])) (only_if b (monitor_edge (new_names file) file zz_silent for_silent)) ≡ []
  last_alike true = refl
  last_alike false = refl

  monitor_alike : (b : Bool) → flat_map alike_in (only_if b (automaton (new_names file) zz_monitor [] (monitor_edges (new_names file) file))) ≡ []
  monitor_alike true =
      let F = branch_rewards (beside (global_thing (translated file)) []) in
      append_both _ []
      (flat_map_both F (map (λ a. monitor_edge (new_names file) file (made ((new_names file).action a)) (for_action a)) (earning_actions file))
      (only_if (earns_silently file) (monitor_edge (new_names file) file zz_silent for_silent))
      (nothing_of F (λ a. monitor_edge (new_names file) file (made ((new_names file).action a)) (for_action a)) (λ a. refl) (earning_actions file))
      (last_alike (earns_silently file))) refl
  monitor_alike false = refl

  automata_alike : flat_map alike_in (translated file).automata ≡ []
  automata_alike =
      flat_map_both alike_in (module_automata (new_names file) (earns_silently file) (location_values (new_names file) file) (bodies file) (new_names file).modules) (monitor (new_names file) file)
      (modules_alike (earns_silently file) (location_values (new_names file) file) (bodies file) (new_names file).modules) (monitor_alike (has_monitor file))

pub branches_fit : (file : prism.File) → BranchesFit file
branches_fit file flat = automata_alike file flat
