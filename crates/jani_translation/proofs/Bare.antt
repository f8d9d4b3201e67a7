-- A PRISM file without its places is translated to what the file is translated to, without its places.
use Rattle.std.specs.Prelude.{◌≡◌, ℕ, List, [], ◌∷◌, map, codes, Bool, true, false, ◌&&◌, ◌||◌, Option, Some, None, is_none, if◌then◌else◌, nat_eq}
use Rattle.std.specs.List.{flat_map, filter, list_any, zip}
use Rattle.std.specs.Option.{option_map}
use Rattle.std.proofs.Common.{refl, sym, ap, ap₂, ◌∙◌}
use Rattle.std.proofs.Math.Path.{fun_ext}
use Rattle.basics.specs.Lists.{map_agree}
use Rattle.bridge_io.specs.declared.reason.Named.{Named}
use Rattle.op_trees.specs.Tree.{Truth, Number, Name as At, One, Two, Three, bare}
use Rattle.process_core.specs.Product.{map-map}
use Rattle.process_core.specs.Ready.{Name, same_label}
use Rattle.prism_tree.specs.declared.syntax.ItemOn.{ItemOn}
use Rattle.prism_tree.specs.declared.syntax.ItemOn.TheVariants as On
use Rattle.prism_tree.specs.Syntax as prism
use Rattle.prism_tree.specs.Syntax.{Body, Command, Branch, Item, Rewards}
use Rattle.prism_print.specs.Same.{bare_body, bare_branch, bare_command, bare_const, bare_item, bare_label, bare_on, bare_range, bare_rewards}
use Rattle.prism_print.specs.Same as source
use Rattle.process_core.specs.Instance.{numbered, only_if}
use Rattle.basics.specs.Options.{is_some-map}
use Rattle.basics.specs.Mapped.{chosen_mapped, kept_mapped, any_mapped, joined, turned, gathered, some_turned}
use Rattle.prism_flat.specs.Scene.{has_condition}
use Rattle.jani_table.specs.declared.operator.JaniOp.TheVariants.{Add, Ite}
use Rattle.op_trees.specs.Names.{bare_name}
use Rattle.jani_tree.specs.Places.{bare_kind, bare_var, bare_write, bare_destination, bare_edge, bare_automaton, bare_vector, bare_element}
use Rattle.jani_tree.specs.Places as target
use Rattle.jani_tree.specs.Syntax.{Expression, is_always, number, bounded, Write, plain_element}
use Rattle.jani_meaning.proofs.Bare.{numbered_mapped, mapped_numbered}
use Rattle.name_table.specs.declared.entry.Entry.{Entry}
use Rattle.name_table.specs.Asks.{bodies, variables, actions, action_of, NewNames, new_names}
use Rattle.name_table.proofs.Bare.{action-bare, called-bare, bodies-bare, variables-bare, actions-bare, new_names-bare}
use Rattle.prism_images.specs.Image.{image}
use Rattle.prism_images.proofs.Bare.{image-bare}
use Rattle.jani_translation.specs.Parts.{made, instead_if, note, nought, constant, kind_of, restriction, start_of, start_under, unless_always, variable, label, structure}
use Rattle.jani_translation.specs.Automata.{loc, zz_silent, zz_monitor, for_states, for_silent, for_action, has_items, has_silent, earning_actions, earns_silently, is_some_name, has_monitor, item_value, sum_behind, sum_to, reward_of, rewards_of, label_value, location_values, write, destination, edge_action, edge, automaton, module_automaton, module_automata, monitor_edge, monitor_edges, automata}
use Rattle.jani_translation.specs.Translated.{has_command, part_if, silent_vector, silent_vectors, global_variables, jani_actions, action_vector, vectors, translated_by, translated}

-- ---- lists
zip_mapped : {A B C : Type 0} (f : A → B) (xs : List A) (ys : List C) → zip (map f xs) ys ≡ map (λ p. (f p.0, p.1)) (zip xs ys)
zip_mapped f [] ys = refl
zip_mapped f (x ∷ xs) [] = refl
zip_mapped f (x ∷ xs) (y ∷ ys) = ap (λ ps. (f x, y) ∷ ps) (zip_mapped f xs ys)

-- what is made of each member and its entry
module _ {A B : Type 0} (f : A → A) (h : B → B) where
  each_turned : (g : A → Entry → B) → ((x : A) (e : Entry) → g (f x) e ≡ h (g x e)) → (xs : List A) (es : List Entry) →
      map (λ p. g p.0 p.1) (zip (map f xs) es) ≡ map h (map (λ p. g p.0 p.1) (zip xs es))
  each_turned g e xs es = ap (map (λ p. g p.0 p.1)) (zip_mapped f xs es) ∙ turned h (λ p. (f p.0, p.1)) (λ p. g p.0 p.1) (λ p. g p.0 p.1) (λ p. e p.0 p.1) (zip xs es)

  each_gathered : (g : A → Entry → List B) → ((x : A) (e : Entry) → g (f x) e ≡ map h (g x e)) → (xs : List A) (es : List Entry) →
      flat_map (λ p. g p.0 p.1) (zip (map f xs) es) ≡ map h (flat_map (λ p. g p.0 p.1) (zip xs es))
  each_gathered g e xs es = ap (flat_map (λ p. g p.0 p.1)) (zip_mapped f xs es) ∙ gathered h (λ p. (f p.0, p.1)) (λ p. g p.0 p.1) (λ p. g p.0 p.1) (λ p. e p.0 p.1) (zip xs es)

  numbered_turned : (g k : ℕ → A → List B) → ((i : ℕ) (x : A) → g i (f x) ≡ map h (k i x)) → (i : ℕ) (xs : List A) → numbered g i (map f xs) ≡ map h (numbered k i xs)
  numbered_turned g k e i xs = numbered_mapped f g (λ i x. map h (k i x)) e i xs ∙ sym (mapped_numbered h k i xs)

-- one member, where a test holds
only_turned : {A : Type 0} (h : A → A) (b c : Bool) (x y : A) → b ≡ c → x ≡ h y → only_if b x ≡ map h (only_if c y)
only_turned h b c x y e k = ap₂ only_if e k ∙ chosen_mapped (map h) c (y ∷ []) []

part_turned : (b c : Bool) (x : Name) → b ≡ c → part_if b (made x) ≡ option_map bare_name (part_if c (made x))
part_turned b c x e = ap (λ t. part_if t (made x)) e ∙ chosen_mapped (option_map bare_name) c (Some (made x)) None

-- ---- constants, variables, labels and reward structures
instead_if-bare : (n : Option Named) (x : Name) → instead_if (option_map bare_name n) x ≡ bare_name (instead_if n x)
instead_if-bare None x = refl
instead_if-bare (Some n) x = refl

structure-bare : (r : Rewards) (e : Entry) → structure (bare_rewards r) e ≡ bare_var (structure r e)
structure-bare r e =
    ap₂ (λ n c. record { name = n; kind = number; kind_at = 0; transient = true; start = Some nought; note = note (codes "reward:") c e }) (instead_if-bare r.name e.name) (called-bare r.name)

module _ (new : Name → Name) where
  optional-bare : (o : Option prism.Expression) → option_map (image new) (option_map bare o) ≡ option_map bare (option_map (image new) o)
  optional-bare o = some_turned bare bare _ _ (image-bare new) o

  constant-bare : (c : prism.Const) (e : Entry) → constant new (bare_const c) e ≡ target.bare_const (constant new c e)
  constant-bare c e = ap (λ v. record { name = record { name = e.name; at = 0 }; ty = c.ty; value = v; note = note (codes "constant:") (Some c.name.name) e }) (optional-bare c.value)

  kind-bare : (r : Option prism.Range) → kind_of new (option_map bare_range r) ≡ bare_kind (kind_of new r)
  kind-bare None = refl
  kind-bare (Some r) = ap₂ bounded (image-bare new r.low) (image-bare new r.high)

  start-bare : (o : Option prism.Expression) (r : Option prism.Range) → start_of new (option_map bare o) (option_map bare_range r) ≡ bare (start_of new o r)
  start-bare (Some e) r = image-bare new e
  start-bare None (Some r) = image-bare new r.low
  start-bare None None = refl

  under-bare : (any : Bool) (o : Option prism.Expression) (r : Option prism.Range) →
      start_under new any (option_map bare o) (option_map bare_range r) ≡ option_map bare (start_under new any o r)
  under-bare true o r = refl
  under-bare false o r = ap Some (start-bare o r)

  variable-bare : (any : Bool) (x : prism.Var) (e : Entry) → variable new any (source.bare_var x) e ≡ bare_var (variable new any x e)
  variable-bare any x e =
      ap₂ (λ k s. record { name = record { name = e.name; at = 0 }; kind = k; kind_at = 0; transient = false; start = s; note = note (codes "variable:") (Some x.name.name) e })
      (kind-bare x.range) (under-bare any x.start x.range)

  -- ---- the initial condition
  always-bare : (e : Expression) → is_always (bare e) ≡ is_always e
  always-bare (Truth at b) = refl
  always-bare (Number at d) = refl
  always-bare (At at x) = refl
  always-bare (One at o a) = refl
  always-bare (Two at o a b) = refl
  always-bare (Three at o a b c) = refl

  unless-bare : (b : Bool) (e : Expression) → (if b then None else Some (bare e)) ≡ option_map bare (if b then None else Some e)
  unless-bare true e = refl
  unless-bare false e = refl

  restriction-bare : (o : Option prism.Expression) → restriction new (option_map bare o) ≡ option_map bare (restriction new o)
  restriction-bare None = refl
  restriction-bare (Some e) = ap unless_always (image-bare new e) ∙ ap (λ b. if b then None else Some (bare (image new e))) (always-bare (image new e)) ∙ unless-bare (is_always (image new e)) (image new e)

-- ---- what rewards there are
-- a kind of items that doesn't depend on places
abbrev IsPlaceless : (ItemOn → Bool) → Type 0
IsPlaceless wanted = (on : ItemOn) → wanted (bare_on on) ≡ wanted on

states_placeless : IsPlaceless for_states
states_placeless On.InState = refl
states_placeless On.Silent = refl
states_placeless (On.Action a) = refl

silent_placeless : IsPlaceless for_silent
silent_placeless On.InState = refl
silent_placeless On.Silent = refl
silent_placeless (On.Action a) = refl

action_placeless : (x : Name) → IsPlaceless (for_action x)
action_placeless x On.InState = refl
action_placeless x On.Silent = refl
action_placeless x (On.Action a) = refl

none-bare : (a : Option Named) → is_none (option_map bare_name a) ≡ is_none a
none-bare None = refl
none-bare (Some a) = refl

module _ (file : prism.File) where
  items-bare : (wanted : ItemOn → Bool) → IsPlaceless wanted → has_items wanted (source.bare_file file) ≡ has_items wanted file
  items-bare wanted h = any_mapped bare_rewards _ (λ r. list_any (λ i. wanted i.on) r.items) (λ r. any_mapped bare_item _ (λ i. wanted i.on) (λ i. h i.on) r.items) file.rewards

  earning-bare : earning_actions (source.bare_file file) ≡ earning_actions file
  earning-bare = ap₂ filter (fun_ext (λ a. items-bare (for_action a) (action_placeless a))) (actions-bare file)

  silently-bare : earns_silently (source.bare_file file) ≡ earns_silently file
  silently-bare =
      ap₂ (λ x y. x && y) (items-bare for_silent silent_placeless)
      (ap (list_any has_silent) (bodies-bare file) ∙ any_mapped bare_body _ has_silent (λ m. any_mapped bare_command _ (λ c. is_none c.action) (λ c. none-bare c.action) m.commands) (bodies file))

  monitor-bare : has_monitor (source.bare_file file) ≡ has_monitor file
  monitor-bare = ap₂ (λ as_ b. is_some_name as_ || b) earning-bare silently-bare

module _ (names : NewNames) where
  -- ---- rewards
  item-bare : (i : Item) → item_value names (bare_item i) ≡ bare (item_value names i)
  item-bare i = ap₂ (λ g v. Three 0 Ite g v nought) (image-bare names.value i.guard) (image-bare names.value i.value)

  sum-bare : (e : Expression) (is : List Item) → sum_behind names (bare e) (map bare_item is) ≡ bare (sum_behind names e is)
  sum-bare e [] = refl
  sum-bare e (i ∷ is) = ap (λ v. sum_behind names (Two 0 Add (bare e) v) (map bare_item is)) (item-bare i) ∙ sum-bare (Two 0 Add e (item_value names i)) is

  sum_to-bare : (x : Named) (is : List Item) → sum_to names (bare_name x) (map bare_item is) ≡ map bare_write (sum_to names x is)
  sum_to-bare x [] = refl
  sum_to-bare x (i ∷ is) =
      ap (λ v. record { target = bare_name x; value = v } ∷ []) (ap (λ e. sum_behind names e (map bare_item is)) (item-bare i) ∙ sum-bare (item_value names i) is)

  module _ (wanted : ItemOn → Bool) (h : IsPlaceless wanted) where
    reward-bare : (r : Rewards) (e : Entry) → reward_of names wanted (bare_rewards r) e ≡ map bare_write (reward_of names wanted r e)
    reward-bare r e =
        ap₂ (sum_to names) (instead_if-bare r.name e.name) (kept_mapped bare_item _ (λ i. wanted i.on) (λ i. h i.on) r.items)
        ∙ sum_to-bare (instead_if r.name e.name) (filter (λ i. wanted i.on) r.items)

    rewards-bare : (rs : List Rewards) → rewards_of names wanted (map bare_rewards rs) ≡ map bare_write (rewards_of names wanted rs)
    rewards-bare rs = each_gathered bare_rewards bare_write (reward_of names wanted) reward-bare rs names.rewards

  values-bare : (file : prism.File) → location_values names (source.bare_file file) ≡ map bare_write (location_values names file)
  values-bare file =
      joined bare_write _ _ _ _
      (each_turned bare_label bare_write (label_value names) (λ l e. ap (λ v. record { target = record { name = e.name; at = 0 }; value = v }) (image-bare names.value l.body)) file.labels names.labels)
      (rewards-bare for_states states_placeless file.rewards)

  -- ---- commands
  write-bare : (w : prism.Write) → write names (source.bare_write w) ≡ bare_write (write names w)
  write-bare w = ap (λ v. record { target = record { name = names.value w.name.name; at = 0 }; value = v }) (image-bare names.value w.value)

  destination-bare : (b : Branch) → destination names (bare_branch b) ≡ bare_destination (destination names b)
  destination-bare b = ap₂ (λ w ws. record { location = loc; weight = w; writes = ws }) (optional-bare names.value b.weight) (turned bare_write source.bare_write _ _ write-bare b.writes)

  edge_action-bare : (silently : Bool) (a : Option Named) → edge_action names silently (option_map bare_name a) ≡ option_map bare_name (edge_action names silently a)
  edge_action-bare silently None = chosen_mapped (option_map bare_name) silently (Some zz_silent) None
  edge_action-bare silently (Some a) = refl

  edge-bare : (silently : Bool) (c : Command) → edge names silently (bare_command c) ≡ bare_edge (edge names silently c)
  edge-bare silently c =
      ap (λ a. record {
        location = loc;
        action = a;
        guard = Some (image names.value (bare c.guard));
        destinations = map (destination names) (map bare_branch c.branches);
        at = 0;
      }) (edge_action-bare silently c.action)
      ∙ ap₂ (λ g ds. record { location = loc; action = option_map bare_name (edge_action names silently c.action); guard = Some g; destinations = ds; at = 0 })
      (image-bare names.value c.guard) (turned bare_destination bare_branch _ _ destination-bare c.branches)

  -- ---- automata
  module_automaton-bare : (silently : Bool) (values : List Write) (m : Body) (e : Entry) →
      module_automaton names silently (map bare_write values) (bare_body m) e ≡ bare_automaton (module_automaton names silently values m e)
  module_automaton-bare silently values m e =
      ap (automaton names (record { name = e.name; at = 0 }) (map bare_write values)) (turned bare_edge bare_command _ _ (edge-bare silently) m.commands)

  automata_of-bare : (silently : Bool) (values : List Write) (ms : List Body) (es : List Entry) →
      module_automata names silently (map bare_write values) (map bare_body ms) es ≡ map bare_automaton (module_automata names silently values ms es)
  automata_of-bare silently values [] es = refl
  automata_of-bare silently values (m ∷ ms) [] = refl
  automata_of-bare silently values (m ∷ ms) (e ∷ es) = ap₂ (λ a b. a ∷ b) (module_automaton-bare silently values m e) (automata_of-bare silently [] ms es)

  module _ (file : prism.File) where
    gains-bare : (a : Named) (wanted : ItemOn → Bool) → IsPlaceless wanted → monitor_edge names (source.bare_file file) (bare_name a) wanted ≡ bare_edge (monitor_edge names file a wanted)
    gains-bare a wanted h =
        ap (λ ws. record { location = loc; action = Some (bare_name a); guard = None; destinations = record { location = loc; weight = None; writes = ws } ∷ []; at = 0 })
        (rewards-bare wanted h file.rewards)

    monitor_edges-bare : monitor_edges names (source.bare_file file) ≡ map bare_edge (monitor_edges names file)
    monitor_edges-bare =
        joined bare_edge _ _ _ _
        (ap (map (λ a. monitor_edge names (source.bare_file file) (made (names.action a)) (for_action a))) (earning-bare file)
        ∙ map_agree _ (λ a. bare_edge (monitor_edge names file (made (names.action a)) (for_action a))) (λ a. gains-bare (made (names.action a)) (for_action a) (action_placeless a)) (earning_actions file)
        ∙ sym (map-map bare_edge (λ a. monitor_edge names file (made (names.action a)) (for_action a)) (earning_actions file)))
        (only_turned bare_edge _ _ _ _ (silently-bare file) (gains-bare zz_silent for_silent silent_placeless))

    automata-bare : automata names (source.bare_file file) ≡ map bare_automaton (automata names file)
    automata-bare =
        joined bare_automaton _ _ _ _
        (ap₂ (λ b vs. module_automata names b vs (bodies (source.bare_file file)) names.modules) (silently-bare file) (values-bare file)
        ∙ ap (λ ms. module_automata names (earns_silently file) (map bare_write (location_values names file)) ms names.modules) (bodies-bare file)
        ∙ automata_of-bare (earns_silently file) (location_values names file) (bodies file) names.modules)
        (only_turned bare_automaton _ _ _ _ (monitor-bare file) (ap (automaton names zz_monitor []) monitor_edges-bare))

    -- ---- the file
    command-bare : (a : Name) (m : Body) → has_command a (bare_body m) ≡ has_command a m
    command-bare a m = any_mapped bare_command _ (λ c. same_label (Some a) (action_of c)) (λ c. ap (same_label (Some a)) (action-bare c)) m.commands

    -- at each module, whether it takes part
    abbrev taking_part : ℕ → ℕ → Body → List (Option Named)
    taking_part i k m = part_if (nat_eq i k) zz_silent ∷ []

    silent-bare : (i : ℕ) → silent_vector (source.bare_file file) i ≡ bare_vector (silent_vector file i)
    silent-bare i =
        ap (λ ps. record { parts = ps; result = None; at = 0 })
        (joined (option_map bare_name) _ _ (numbered (taking_part i) 0 (bodies file)) (Some zz_silent ∷ [])
        (ap (numbered (taking_part i) 0) (bodies-bare file)
        ∙ numbered_turned bare_body (option_map bare_name) (taking_part i) (taking_part i) (λ k m. ap (λ p. p ∷ []) (part_turned (nat_eq i k) (nat_eq i k) (codes "zz_silent") refl)) 0 (bodies file)) refl)

    silents-bare : silent_vectors (source.bare_file file) ≡ map bare_vector (silent_vectors file)
    silents-bare =
        ap (numbered (λ i m. only_if (has_silent m) (silent_vector (source.bare_file file) i)) 0) (bodies-bare file)
        ∙ numbered_turned bare_body bare_vector _ _ (λ i m. only_turned bare_vector _ _ _ _ (any_mapped bare_command _ (λ c. is_none c.action) (λ c. none-bare c.action) m.commands) (silent-bare i)) 0 (bodies file)

    action_vector-bare : (a : Name) → action_vector names (source.bare_file file) a ≡ bare_vector (action_vector names file a)
    action_vector-bare a =
        ap (λ ps. record { parts = ps; result = Some (made (names.action a)); at = 0 })
        (joined (option_map bare_name) _ _ (map (λ m. part_if (has_command a m) (made (names.action a))) (bodies file)) (only_if (has_monitor file) (part_if (has_items (for_action a) file) (made (names.action a))))
        (ap (map (λ m. part_if (has_command a m) (made (names.action a)))) (bodies-bare file)
        ∙ turned (option_map bare_name) bare_body _ _ (λ m. part_turned _ _ (names.action a) (command-bare a m)) (bodies file))
        (only_turned (option_map bare_name) _ _ _ _ (monitor-bare file) (part_turned _ _ (names.action a) (items-bare file (for_action a) (action_placeless a)))))

    vectors-bare : vectors names (source.bare_file file) ≡ map bare_vector (vectors names file)
    vectors-bare =
        joined bare_vector _ _ _ _
        (ap (map (action_vector names (source.bare_file file))) (actions-bare file)
        ∙ map_agree _ (λ a. bare_vector (action_vector names file a)) action_vector-bare (actions file)
        ∙ sym (map-map bare_vector (action_vector names file) (actions file)))
        (ap₂ (λ b vs. if b then vs else []) (silently-bare file) silents-bare ∙ chosen_mapped (map bare_vector) (earns_silently file) (silent_vectors file) [])

    actions_of-bare : jani_actions names (source.bare_file file) ≡ map bare_name (jani_actions names file)
    actions_of-bare =
        joined bare_name _ _ _ _
        (ap (map (λ a. made (names.action a))) (actions-bare file) ∙ sym (map-map bare_name (λ a. made (names.action a)) (actions file)))
        (only_turned bare_name _ _ _ _ (silently-bare file) refl)

    globals-bare : global_variables names (source.bare_file file) ≡ map bare_var (global_variables names file)
    globals-bare =
        joined bare_var _ _ _ _
        (ap₂ (λ any xs. map (λ p. variable names.value any p.0 p.1) (zip xs names.variables)) (is_some-map bare file.init) (variables-bare file)
        ∙ each_turned source.bare_var bare_var (variable names.value (has_condition file)) (variable-bare names.value (has_condition file)) (variables file) names.variables)
        (joined bare_var _ _ _ _ (each_turned bare_label bare_var label (λ l e. refl) file.labels names.labels)
        (each_turned bare_rewards bare_var structure structure-bare file.rewards names.rewards))

    by-bare : translated_by names (source.bare_file file) ≡ target.bare_file (translated_by names file)
    by-bare =
        ap₂ (λ as_ cs. record (translated_by names (source.bare_file file)) { actions = as_; constants = cs }) actions_of-bare
        (each_turned bare_const target.bare_const (constant names.value) (constant-bare names.value) file.constants names.constants)
        ∙ ap (λ (o : Option Expression). record (target.bare_file (translated_by names file)) {
          variables = global_variables names (source.bare_file file);
          restrict = o;
          automata = automata names (source.bare_file file);
          elements = map (λ a. plain_element a.name) (automata names (source.bare_file file));
          vectors = vectors names (source.bare_file file);
        }) (restriction-bare names.value file.init)
        ∙ ap₂ (λ xs vs. record (target.bare_file (translated_by names file)) {
          variables = xs;
          automata = automata names (source.bare_file file);
          elements = map (λ a. plain_element a.name) (automata names (source.bare_file file));
          vectors = vs;
        }) globals-bare vectors-bare
        ∙ ap₂ (λ as_ es. record (target.bare_file (translated_by names file)) { automata = as_; elements = es }) automata-bare
        (ap (map (λ a. plain_element a.name)) automata-bare ∙ turned bare_element bare_automaton (λ a. plain_element a.name) (λ a. plain_element a.name) (λ a. refl) (automata names file))

translated-bare : (file : prism.File) → translated (source.bare_file file) ≡ target.bare_file (translated file)
translated-bare file = ap (λ names. translated_by names (source.bare_file file)) (new_names-bare file) ∙ by-bare (new_names file) file

-- files that are the same but for places are translated to such files
pub translated_alike : (f g : prism.File) → source.bare_file f ≡ source.bare_file g → target.bare_file (translated f) ≡ target.bare_file (translated g)
translated_alike f g e = sym (translated-bare f) ∙ ap translated e ∙ translated-bare g
