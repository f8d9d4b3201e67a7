-- The demands of automata have no fault of types.
use Rattle.std.specs.Prelude.{◌≡◌, List, [], ◌∷◌, ◌++◌, map, Bool, true, false, Option, Some, None}
use Rattle.std.specs.List.{flat_map, zip, AllByRecursion as Each}
use Rattle.std.proofs.Common.{refl, ap, ◌∙◌, append-nil}
use Rattle.std.proofs.Math.Path.{fun_ext}
use Rattle.std.proofs.lemmas.List.{map-append}
use Rattle.basics.specs.Lists.{append_both, flat_map_both}
use Rattle.bridge_io.specs.declared.reason.Named.{Named}
use Rattle.bridge_io.specs.declared.reason.Fault.{Fault}
use Rattle.process_core.specs.Product.{flat_map-flat_map}
use Rattle.process_core.specs.Ready.{Name}
use Rattle.prism_tree.specs.declared.syntax.ItemOn.{ItemOn}
use Rattle.prism_tree.specs.Syntax as prism
use Rattle.process_core.specs.Instance.{only_if}
use Rattle.prism_check.specs.Flattened.{IsFlat}
use Rattle.jani_tree.specs.Syntax.{Write, Edge, Automaton}
use Rattle.std.specs.Option.{option_or as or_else}
use Rattle.jani_check.specs.Things.{global_thing, beside}
use Rattle.jani_check.specs.Demands.{given, assigned, edge_demands, automaton_demands}
use Rattle.jani_check.specs.TypeFaults.{demand_faults}
use Rattle.jani_translation.specs.Entry.{Entry}
use Rattle.jani_translation.specs.Asks.{bodies, new_names}
use Rattle.jani_translation.specs.Parts.{made}
use Rattle.jani_translation.specs.Automata.{zz_silent, zz_monitor, for_states, for_action, for_silent, earning_actions, earns_silently, has_monitor, edge, automaton, rewards_of, label_value, location_values, module_automata, monitor_edge, monitor_edges, monitor}
use Rattle.jani_translation.specs.Translated.{translated}
use Rattle.jani_translation_laws.specs.TypeLaws.{AutomataTypesFit}
use Rattle.jani_translation_laws.proofs.Sources.{bodies_fine}
use Rattle.jani_translation_laws.proofs.Edges.{IsFineCommand, commands_fine, edges_clean, nothing_mapped}
use Rattle.jani_translation_laws.proofs.Rewarding.{IsReward, rewards_given, reward_given, reward_assigned, location_labels_clean}

or_none : {A : Type 0} (o : Option A) → or_else o None ≡ o
or_none None = refl
or_none (Some a) = refl

module _ (file : prism.File) where
  -- an automaton has no variables of its own
  pub beside_none : beside (global_thing (translated file)) [] ≡ global_thing (translated file)
  beside_none = fun_ext (λ x. or_none (global_thing (translated file) x))

module _ (file : prism.File) (flat : IsFlat file) where
  all_given : (ws : List Write) → Each (IsReward file flat) ws → flat_map (demand_faults (global_thing (translated file))) (map given ws) ≡ []
  all_given ws h = nothing_mapped (demand_faults (global_thing (translated file))) given (IsReward file flat) (reward_given file flat) ws h

  all_assigned : (ws : List Write) → Each (IsReward file flat) ws → flat_map (demand_faults (global_thing (translated file))) (map assigned ws) ≡ []
  all_assigned ws h = nothing_mapped (demand_faults (global_thing (translated file))) assigned (IsReward file flat) (reward_assigned file flat) ws h

  values_clean : flat_map (demand_faults (global_thing (translated file))) (map given (location_values (new_names file) file)) ≡ []
  values_clean =
      let F = demand_faults (global_thing (translated file)) in
      let labels = map (λ p. label_value (new_names file) p.0 p.1) (zip file.labels (new_names file).labels) in
      let rewards = rewards_of (new_names file) for_states file.rewards in
      ap (flat_map F) (map-append given labels rewards)
      ∙ flat_map_both F (map given labels) (map given rewards) (location_labels_clean file flat) (all_given rewards (rewards_given file flat for_states))

  automaton_clean : (x : Named) (values : List Write) (edges : List Edge) → flat_map (demand_faults (global_thing (translated file))) (map given values) ≡ [] →
      flat_map (demand_faults (global_thing (translated file))) (flat_map edge_demands edges) ≡ [] →
      flat_map (demand_faults (beside (global_thing (translated file)) [])) (automaton_demands (automaton (new_names file) x values edges)) ≡ []
  automaton_clean x values edges h k =
      let F = demand_faults (global_thing (translated file)) in
      ap (λ g. flat_map (demand_faults g) ((map given values ++ []) ++ flat_map edge_demands edges)) (beside_none file)
      ∙ flat_map_both F (map given values ++ []) (flat_map edge_demands edges) (ap (flat_map F) (append-nil (map given values)) ∙ h) k

  abbrev faults_in : Automaton → List Fault
  faults_in a = flat_map (demand_faults (beside (global_thing (translated file)) a.variables)) (automaton_demands a)

  modules_clean : (silently : Bool) (values : List Write) (ms : List prism.Body) (es : List Entry) →
      flat_map (demand_faults (global_thing (translated file))) (map given values) ≡ [] → Each (λ m. Each (IsFineCommand file flat) m.commands) ms →
      flat_map faults_in (module_automata (new_names file) silently values ms es) ≡ []
  modules_clean silently values [] es h k = refl
  modules_clean silently values (m ∷ ms) [] h k = refl
  modules_clean silently values (m ∷ ms) (e ∷ es) h k =
      append_both _ (flat_map faults_in (module_automata (new_names file) silently [] ms es))
      (automaton_clean m.name values (map (edge (new_names file) silently) m.commands) h (edges_clean file flat silently m.commands k.0))
      (modules_clean silently [] ms es refl k.1)

  earning_clean : (a : Named) (wanted : ItemOn → Bool) → flat_map (demand_faults (global_thing (translated file))) (edge_demands (monitor_edge (new_names file) file a wanted)) ≡ []
  earning_clean a wanted =
      let F = demand_faults (global_thing (translated file)) in
      let ws = rewards_of (new_names file) wanted file.rewards in
      ap (flat_map F) (append-nil (map assigned ws)) ∙ all_assigned ws (rewards_given file flat wanted)

  earning_all : (as_ : List Name) →
      flat_map (λ e. flat_map (demand_faults (global_thing (translated file))) (edge_demands e)) (map (λ a. monitor_edge (new_names file) file (made ((new_names file).action a)) (for_action a)) as_) ≡ []
  earning_all [] = refl
  earning_all (a ∷ as_) = append_both _ _ (earning_clean (made ((new_names file).action a)) (for_action a)) (earning_all as_)

  earning_last : (b : Bool) → flat_map (λ e. flat_map (demand_faults (global_thing (translated file))) (edge_demands e)) (only_if b (monitor_edge (new_names file) file zz_silent for_silent)) ≡ []
  earning_last true = append_both _ [] (earning_clean zz_silent for_silent) refl
  earning_last false = refl

  monitor_clean : (b : Bool) → flat_map faults_in (only_if b (automaton (new_names file) zz_monitor [] (monitor_edges (new_names file) file))) ≡ []
  monitor_clean true =
      let F = demand_faults (global_thing (translated file)) in
      append_both _ []
      (automaton_clean zz_monitor [] (monitor_edges (new_names file) file) refl
      (flat_map-flat_map F edge_demands (monitor_edges (new_names file) file)
      ∙ flat_map_both (λ e. flat_map F (edge_demands e)) (map (λ a. monitor_edge (new_names file) file (made ((new_names file).action a)) (for_action a)) (earning_actions file))
      (only_if (earns_silently file) (monitor_edge (new_names file) file zz_silent for_silent))
      (earning_all (earning_actions file)) (earning_last (earns_silently file)))) refl
  monitor_clean false = refl

  automata_clean : flat_map faults_in (translated file).automata ≡ []
  automata_clean =
      flat_map_both faults_in (module_automata (new_names file) (earns_silently file) (location_values (new_names file) file) (bodies file) (new_names file).modules) (monitor (new_names file) file)
      (modules_clean (earns_silently file) (location_values (new_names file) file) (bodies file) (new_names file).modules values_clean (commands_fine file flat 0 (bodies file) (bodies_fine file flat)))
      (monitor_clean (has_monitor file))

pub automata_fit : (file : prism.File) → AutomataTypesFit file
automata_fit file flat = automata_clean file flat
