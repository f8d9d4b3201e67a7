-- Every name that a translated file uses is declared.
use Rattle.std.specs.Prelude.{◌≡◌, ℕ, zero, suc, ◌+◌, ◌≤◌, List, [], ◌∷◌, ◌++◌, map, length, take, drop, Bool, true, false, not, ◌||◌, Option, Some, None, nat_eq, bytes_eq, if◌then◌else◌}
use Rattle.std.specs.List.{flat_map, filter, list_any, zip, AllByRecursion as Each}
use Rattle.std.specs.Option.{option_map}
use Rattle.std.proofs.Common.{refl, sym, ap, subst, ◌∙◌, arith, length-append}
use Rattle.std.proofs.lemmas.List.{length-map}
use Rattle.std.proofs.lemmas.List.Concat.{flat_map-append}
use Rattle.std.proofs.lemmas.Bool.{or_right}
use Rattle.basics.specs.Texts.{bytes_eq-self, bytes_eq-true}
use Rattle.basics.specs.Lists.{append_both}
use Rattle.basics.specs.Each.{each_then, each_map, map_each, each_join, each_empty, each_zip, each_filter, each_flat, each_any}
use Rattle.bridge_io.specs.declared.reason.Named.{Named}
use Rattle.bridge_io.specs.declared.reason.Reason.TheVariants.{Unknown}
use Rattle.bridge_io.specs.declared.reason.Fault.{Fault}
use Rattle.op_trees.specs.declared.tree.Ty.{Ty}
use Rattle.op_trees.specs.Tree.{Truth, Number, Name as At, One, Two, Three, AllNames}
use Rattle.op_trees.specs.Names.{names_of as names_in}
use Rattle.name_rules.proofs.Plain.{fault_none, among_names}
use Rattle.process_core.specs.Ready.{Name}
use Rattle.prism_tree.specs.declared.syntax.ItemOn.{ItemOn}
use Rattle.prism_tree.specs.Syntax as prism
use Rattle.process_core.specs.Instance.{numbered, only_if}
use Rattle.op_trees.specs.declared.wanted.Wanted.TheVariants as W
use Rattle.prism_flat.specs.Scene.{has_condition}
use Rattle.jani_table.specs.declared.operator.JaniOp.TheVariants.{Add}
use Rattle.jani_tree.specs.Syntax.{Expression, Const, Var, Write, Destination, Edge, Automaton, Vector, is_always, element_names}
use Rattle.basics.specs.Options.{if_some, IfAny}
use Rattle.op_trees.specs.Wanted.{wanted_by}
use Rattle.jani_check.specs.Demands.{Demand, fixed, varying, assigned, given, const_demands, bound_demands, var_demands, destination_demands, edge_demands, automaton_demands, outer_demands}
use Rattle.jani_check.specs.NameFaults.{is_among, global_names, automaton_names, unless_known, unknown_by, edge_locations, locations_used, actions_used, unknown_in, vector_actions, unknown_enabled}
use Rattle.jani_translation.specs.Entry.{Entry}
use Rattle.prism_images.specs.Image.{image}
use Rattle.prism_images.proofs.Form.{one_names}
use Rattle.jani_translation.specs.Asks.{bodies, variables, actions, new_name, value_names, entries, some_from, labels_at, rewards_at}
use Rattle.jani_translation.specs.Parts.{made, instead, instead_if, kind_of, restriction, start_of, constant, variable, label, structure}
use Rattle.jani_translation.specs.Automata.{loc, zz_silent, zz_monitor, for_states, for_silent, for_action, earning_actions, earns_silently, has_monitor, item_value, sum_behind, sum_to, reward_of, rewards_of, label_value, location_values, write, destination, edge_action, edge, automaton, module_automata, monitor_edge, monitor_edges, monitor, has_silent, has_items}
use Rattle.jani_translation.specs.Translated.{has_command, part_if, silent_vector, silent_vectors, action_vector, translated}
use Rattle.jani_translation.proofs.Fresh.{enough}
use Rattle.jani_translation_laws.specs.NameLaws.{NoUnknownNames}
use Rattle.jani_translation_laws.proofs.Known.{IsKnown, Good, GoodConst, GoodRange, GoodVar, GoodLabel, GoodWrite, GoodBranch, GoodCommand, GoodBody, GoodItem, GoodRewards, IsGood, is_good}
use Rattle.jani_translation_laws.proofs.Actions.{Has, IsAction, HasAction, front, back, each_among, actions_among, actions_of_commands}
use Rattle.jani_translation_laws.proofs.Form.{each_only, each_numbered}
use Rattle.jani_translation_laws.proofs.Doubled.{names_of, entry_names, names, cs, vs, ls, rs, values_named, actions_named}
use Rattle.jani_translation.proofs.Counts.{elements_named, plain_none}

-- ---- names that are declared

is_known : (known : Name → Bool) (n : Named) → known n.name ≡ true → unless_known known n ≡ []
is_known known n h = fault_none (not (known n.name)) n.at Unknown (ap not h)

is_declared : (ns : List Named) (n : Named) → Has (names_of ns) n.name → unless_known (is_among ns) n ≡ []
is_declared ns n h = is_known (is_among ns) n (among_names ns n.name ∙ h)

-- ---- parts of a list
within : {X : Type 0} (Q : X → Type 0) (a n k : ℕ) (xs : List X) → a + n ≤ k → Each Q (take k xs) → Each Q (take n (drop a xs))
within Q zero zero k xs l h = tt
within Q zero (suc n) k [] l h = tt
within Q zero (suc n) zero (x ∷ xs) l h = absurd (omega arith)
within Q zero (suc n) (suc k) (x ∷ xs) l h = (h.0, within Q zero n k xs (omega arith) h.1)
within Q (suc a) zero k [] l h = tt
within Q (suc a) (suc n) k [] l h = tt
within Q (suc a) n zero (x ∷ xs) l h = absurd (omega arith)
within Q (suc a) n (suc k) (x ∷ xs) l h = within Q a n k xs (omega arith) h.1

-- the new name of an old one is that of one of the first entries
new_front : (Q : Name → Type 0) (ys : List Name) (es : List Entry) (x : Name) → length ys ≤ length es → list_any (λ y. bytes_eq y x) ys ≡ true →
    Each (λ e. Q e.name) (take (length ys) es) → Q (new_name ys es x)
new_front Q [] es x l k h = absurd cc
new_front Q (y ∷ ys) [] x l k h = absurd (omega arith)
new_front Q (y ∷ ys) (e ∷ es) x l k h = by_test (bytes_eq y x) k (λ q. new_front Q ys es x (omega arith) q h.1)
  where
    by_test : (b : Bool) → (b || list_any (λ u. bytes_eq u x) ys) ≡ true → (list_any (λ u. bytes_eq u x) ys ≡ true → Q (new_name ys es x)) → Q (if b then e.name else new_name ys es x)
    by_test true q r = h.0
    by_test false q r = r q

-- what is in a list has its image in the list of images
has_image : (f : Name → Name) (a : Name) (xs : List Name) → Has xs a → Has (map f xs) (f a)
has_image f a [] h = absurd cc
has_image f a (x ∷ xs) h = by_test (bytes_eq x a) refl h (has_image f a xs)
  where
    by_test : (b : Bool) → bytes_eq x a ≡ b → (b || list_any (λ y. bytes_eq y a) xs) ≡ true → (Has xs a → Has (map f xs) (f a)) →
        (bytes_eq (f x) (f a) || list_any (λ y. bytes_eq y (f a)) (map f xs)) ≡ true
    by_test true e q r =
        let s : bytes_eq (f x) (f a) ≡ true = ap (λ u. bytes_eq (f u) (f a)) (bytes_eq-true x a e) ∙ bytes_eq-self (f a) in
        ap (λ b. b || list_any (λ y. bytes_eq y (f a)) (map f xs)) s
    by_test false e q r = or_right (bytes_eq (f x) (f a)) (list_any (λ y. bytes_eq y (f a)) (map f xs)) (r q)

module _ (file : prism.File) where
  abbrev globals : List Name
  globals = names_of (global_names (translated file))

  abbrev all_values : ℕ
  all_values = cs file + (vs file + (ls file + rs file))

  first_in : Each (λ e. Has globals e.name) (some_from 0 all_values (entries file))
  first_in =
      map_each (Has globals) (λ e. e.name) (some_from 0 all_values (entries file))
      (subst (λ g. Each (Has g) (entry_names (some_from 0 all_values (entries file)))) (sym (values_named file)) (each_among (entry_names (some_from 0 all_values (entries file)))))

  part_in : (a n : ℕ) → a + n ≤ all_values → Each (λ e. Has globals e.name) (some_from a n (entries file))
  part_in a n l = within (λ e. Has globals e.name) a n all_values (entries file) l first_in

  n_values : length (value_names file) ≡ cs file + vs file
  n_values =
      let a = length-append (map (λ c. c.name.name) file.constants) (map (λ x. x.name.name) (variables file)) in
      let b = length-map file.constants (λ c. c.name.name) in
      let c = length-map (variables file) (λ x. x.name.name) in
      omega arith

  new_in : (x : Name) → IsKnown file x → Has globals ((names file).value x)
  new_in x k = new_front (Has globals) (value_names file) (entries file) x (enough file) k (part_in 0 (length (value_names file)) (let n = n_values in omega arith))

  -- ---- actions
  abbrev action_names : List Name
  action_names = names_of (translated file).actions

  action_in : (a : Name) → IsAction file a → Has action_names ((names file).action a)
  action_in a h =
      subst (λ l. Has l ((names file).action a)) (sym (actions_named file))
      (front (map (names file).action (actions file)) (only_if (earns_silently file) zz_silent.name) ((names file).action a) (has_image (names file).action a (actions file) h))

  silent_in : earns_silently file ≡ true → Has action_names zz_silent.name
  silent_in e =
      subst (λ l. Has l zz_silent.name) (sym (actions_named file))
      (back (map (names file).action (actions file)) (only_if (earns_silently file) zz_silent.name) zz_silent.name
      (subst (λ b. Has (only_if b zz_silent.name) zz_silent.name) (sym e) refl))

  abbrev IsUsed : Named → Type 0
  IsUsed n = unless_known (is_among (translated file).actions) n ≡ []

  action_used : (a : Name) → IsAction file a → (at : ℕ) → IsUsed (record { name = (names file).action a; at = at })
  action_used a h at = is_declared (translated file).actions (record { name = (names file).action a; at = at }) (action_in a h)

  silent_used : earns_silently file ≡ true → IsUsed zz_silent
  silent_used e = is_declared (translated file).actions zz_silent (silent_in e)

  -- ---- expressions and assignments, where the global names are known
  module _ (known : Name → Bool) (all : (x : Name) → Has globals x → known x ≡ true) where
    abbrev Clean : Expression → Type 0
    Clean e = flat_map (unless_known known) (names_in e) ≡ []

    join : (xs ys : List Named) → flat_map (unless_known known) xs ≡ [] → flat_map (unless_known known) ys ≡ [] → flat_map (unless_known known) (xs ++ ys) ≡ []
    join xs ys h k = flat_map-append (unless_known known) xs ys ∙ append_both (flat_map (unless_known known) xs) (flat_map (unless_known known) ys) h k

    clean_names : (e : prism.Expression) → AllNames (IsKnown file) e → Clean (image (names file).value e)
    clean_names (Truth at b) h = refl
    clean_names (Number at d) h = refl
    clean_names (At at x) h =
        append_both (unless_known known (record { name = (names file).value x; at = at })) []
        (is_known known (record { name = (names file).value x; at = at }) (all ((names file).value x) (new_in x h))) refl
    clean_names (One at o a) h = ap (λ l. flat_map (unless_known known) l) (one_names at o (image (names file).value a)) ∙ clean_names a h
    clean_names (Two at o a b) h = join (names_in (image (names file).value a)) (names_in (image (names file).value b)) (clean_names a h.0) (clean_names b h.1)
    clean_names (Three at o a b c) h =
        join (names_in (image (names file).value a)) (names_in (image (names file).value b) ++ names_in (image (names file).value c)) (clean_names a h.0)
        (join (names_in (image (names file).value b)) (names_in (image (names file).value c)) (clean_names b h.1) (clean_names c h.2))

    clean : (e : prism.Expression) → Good file e → Clean (image (names file).value e)
    clean e g = clean_names e g.1

    abbrev Fine : Demand → Type 0
    Fine d = unknown_by known d ≡ []

    -- ---- constants and variables
    optional : (t : Ty) (o : Option prism.Expression) → IfAny (Good file) o → Each Fine (map (fixed (wanted_by t)) (if_some (option_map (image (names file).value) o)))
    optional t None g = tt
    optional t (Some e) g = (clean e g, tt)

    bounds : (r : Option prism.Range) → IfAny (GoodRange file) r → Each Fine (bound_demands (kind_of (names file).value r))
    bounds None g = tt
    bounds (Some r) g = (clean r.low g.0, (clean r.high g.1, tt))

    starts : (s : Option prism.Expression) (r : Option prism.Range) → IfAny (Good file) s → IfAny (GoodRange file) r → Clean (start_of (names file).value s r)
    starts (Some e) r g h = clean e g
    starts None (Some r) g h = clean r.low h.0
    starts None None g h = refl

    variable_fine : (any : Bool) (x : prism.Var) (e : Entry) → GoodVar file x → Each Fine (var_demands (variable (names file).value any x e))
    variable_fine true x e g = each_join Fine (bound_demands (kind_of (names file).value x.range)) _ (bounds x.range g.0) tt
    variable_fine false x e g =
        each_join Fine (bound_demands (kind_of (names file).value x.range)) _ (bounds x.range g.0) (starts x.start x.range g.1 g.0, tt)

    -- ---- the initial condition
    restriction_fine : (o : Option prism.Expression) → IfAny (Good file) o → Each Fine (map (varying W.Bool) (if_some (restriction (names file).value o)))
    restriction_fine None g = tt
    restriction_fine (Some e) g = by_always (is_always (image (names file).value e))
      where
        by_always : (b : Bool) → Each Fine (map (varying W.Bool) (if_some (if b then None else Some (image (names file).value e))))
        by_always true = tt
        by_always false = (clean e g, tt)

    -- ---- rewards
    item_clean : (i : prism.Item) → GoodItem file i → Clean (item_value (names file) i)
    item_clean i g =
        join (names_in (image (names file).value i.guard)) (names_in (image (names file).value i.value) ++ []) (clean i.guard g.0)
        (join (names_in (image (names file).value i.value)) [] (clean i.value g.1) refl)

    sum_clean : (e : Expression) (is : List prism.Item) → Clean e → Each (GoodItem file) is → Clean (sum_behind (names file) e is)
    sum_clean e [] h g = h
    sum_clean e (i ∷ is) h g =
        sum_clean (Two 0 Add e (item_value (names file) i)) is (join (names_in e) (names_in (item_value (names file) i)) h (item_clean i g.0)) g.1

    abbrev WriteFine : Write → Type 0
    WriteFine w = (known w.target.name ≡ true) × Clean w.value

    given_fine : (w : Write) → WriteFine w → Fine (given w)
    given_fine w h = append_both (unless_known known w.target) (flat_map (unless_known known) (names_in w.value)) (is_known known w.target h.0) h.1

    assigned_fine : (w : Write) → WriteFine w → Fine (assigned w)
    assigned_fine w h = append_both (unless_known known w.target) (flat_map (unless_known known) (names_in w.value)) (is_known known w.target h.0) h.1

    sum_fine : (x : Named) (is : List prism.Item) → known x.name ≡ true → Each (GoodItem file) is → Each WriteFine (sum_to (names file) x is)
    sum_fine x [] n g = tt
    sum_fine x (i ∷ is) n g = ((n, sum_clean (item_value (names file) i) is (item_clean i g.0) g.1), tt)

    instead_known : (o : Option Named) (x : Name) → known x ≡ true → known (instead_if o x).name ≡ true
    instead_known None x h = h
    instead_known (Some n) x h = h

    reward_fine : (wanted : ItemOn → Bool) (r : prism.Rewards) (e : Entry) → GoodRewards file r → Has globals e.name → Each WriteFine (reward_of (names file) wanted r e)
    reward_fine wanted r e g n =
        sum_fine (instead_if r.name e.name) (filter (λ i. wanted i.on) r.items) (instead_known r.name e.name (all e.name n)) (each_filter (GoodItem file) (λ i. wanted i.on) r.items g)

    rewards_fine : (wanted : ItemOn → Bool) → Each (GoodRewards file) file.rewards → Each WriteFine (rewards_of (names file) wanted file.rewards)
    rewards_fine wanted g =
        each_flat (λ p. GoodRewards file p.0 × Has globals (p.1).name) WriteFine (λ p. reward_of (names file) wanted p.0 p.1) (λ p h. reward_fine wanted p.0 p.1 h.0 h.1)
        (zip file.rewards (names file).rewards)
        (each_zip (GoodRewards file) (λ e. Has globals e.name) file.rewards (names file).rewards g (part_in (rewards_at file (entries file)) (rs file) (omega arith)))

    values_fine : Each (GoodLabel file) file.labels → Each (GoodRewards file) file.rewards → Each WriteFine (location_values (names file) file)
    values_fine lg rg =
        each_join WriteFine (map (λ p. label_value (names file) p.0 p.1) (zip file.labels (names file).labels)) (rewards_of (names file) for_states file.rewards)
        (each_map (λ p. GoodLabel file p.0 × Has globals (p.1).name) WriteFine (λ p. label_value (names file) p.0 p.1) (λ p h. (all (p.1).name h.1, clean (p.0).body h.0))
        (zip file.labels (names file).labels)
        (each_zip (GoodLabel file) (λ e. Has globals e.name) file.labels (names file).labels lg (part_in (labels_at file (entries file)) (ls file) (omega arith))))
        (rewards_fine for_states rg)

    -- ---- commands
    write_fine : (w : prism.Write) → GoodWrite file w → WriteFine (write (names file) w)
    write_fine w g = (all ((names file).value w.name.name) (new_in w.name.name g.0), clean w.value g.1)

    weighed : (o : Option prism.Expression) (ws : List Write) → IfAny (Good file) o → Each WriteFine ws →
        Each Fine (destination_demands (record { location = loc; weight = option_map (image (names file).value) o; writes = ws }))
    weighed None ws g h = each_map WriteFine Fine assigned assigned_fine ws h
    weighed (Some e) ws g h = (clean e g, each_map WriteFine Fine assigned assigned_fine ws h)

    abbrev DestinationFine : Destination → Type 0
    DestinationFine d = Each Fine (destination_demands d)

    destination_fine : (b : prism.Branch) → GoodBranch file b → DestinationFine (destination (names file) b)
    destination_fine b g = weighed b.weight (map (write (names file)) b.writes) g.0 (each_map (GoodWrite file) WriteFine (write (names file)) write_fine b.writes g.1)

    abbrev IsLoc : Named → Type 0
    IsLoc n = unless_known (is_among (loc ∷ [])) n ≡ []

    -- what an edge demands, its locations and its action are known
    abbrev EdgeFine : Edge → Type 0
    EdgeFine e = Each Fine (edge_demands e) × Each IsLoc (edge_locations e) × Each IsUsed (if_some e.action)

    edge_used : (b : Bool) → earns_silently file ≡ b → (o : Option Named) → IfAny (λ a. IsAction file a.name) o → Each IsUsed (if_some (edge_action (names file) b o))
    edge_used true e None h = (silent_used e, tt)
    edge_used false e None h = tt
    edge_used b e (Some a) h = (action_used a.name h a.at, tt)

    edge_fine : (c : prism.Command) → GoodCommand file c → HasAction file c → EdgeFine (edge (names file) (earns_silently file) c)
    edge_fine c g a = (
      (
        clean c.guard g.0,
        each_flat DestinationFine Fine destination_demands (λ d h. h) (map (destination (names file)) c.branches)
            (each_map (GoodBranch file) DestinationFine (destination (names file)) destination_fine c.branches g.2),
      ),
      (refl, at_loc c.branches),
      edge_used (earns_silently file) refl c.action a,
    )
      where
        at_loc : (bs : List prism.Branch) → Each IsLoc (map (λ d. d.location) (map (destination (names file)) bs))
        at_loc [] = tt
        at_loc (b ∷ bs) = (refl, at_loc bs)

    edges_fine : (ds : List prism.Command) → Each (GoodCommand file) ds → Each (HasAction file) ds → Each EdgeFine (map (edge (names file) (earns_silently file)) ds)
    edges_fine [] g a = tt
    edges_fine (c ∷ ds) g a = (edge_fine c g.0 a.0, edges_fine ds g.1 a.1)

    monitor_edge_fine : Each (GoodRewards file) file.rewards → (a : Named) (wanted : ItemOn → Bool) → IsUsed a → EdgeFine (monitor_edge (names file) file a wanted)
    monitor_edge_fine g a wanted u = (
      each_join Fine (map assigned (rewards_of (names file) wanted file.rewards)) [] (each_map WriteFine Fine assigned assigned_fine (rewards_of (names file) wanted file.rewards) (rewards_fine wanted g)) tt,
      (refl, (refl, tt)),
      (u, tt),
    )

    silently : (b : Bool) → earns_silently file ≡ b → Each (GoodRewards file) file.rewards → Each EdgeFine (only_if b (monitor_edge (names file) file zz_silent for_silent))
    silently true e g = (monitor_edge_fine g zz_silent for_silent (silent_used e), tt)
    silently false e g = tt

    monitor_edges_fine : Each (GoodRewards file) file.rewards → Each EdgeFine (monitor_edges (names file) file)
    monitor_edges_fine g =
        each_join EdgeFine (map (λ a. monitor_edge (names file) file (made ((names file).action a)) (for_action a)) (earning_actions file))
        (only_if (earns_silently file) (monitor_edge (names file) file zz_silent for_silent))
        (each_map (IsAction file) EdgeFine (λ a. monitor_edge (names file) file (made ((names file).action a)) (for_action a))
        (λ a h. monitor_edge_fine g (made ((names file).action a)) (for_action a) (action_used a h 0)) (earning_actions file)
        (each_filter (IsAction file) (λ a. has_items (for_action a) file) (actions file) (actions_among file)))
        (silently (earns_silently file) refl g)

    -- ---- automata
    automaton_demanded : (x : Named) (ws : List Write) (es : List Edge) → Each WriteFine ws → Each EdgeFine es →
        flat_map (unknown_by known) (automaton_demands (automaton (names file) x ws es)) ≡ []
    automaton_demanded x ws es w e =
        each_empty (unknown_by known) (automaton_demands (automaton (names file) x ws es))
        (each_join Fine (map given ws ++ []) (flat_map edge_demands es)
        (each_join Fine (map given ws) [] (each_map WriteFine Fine given given_fine ws w) tt)
        (each_flat EdgeFine Fine edge_demands (λ d h. h.0) es e))

    automaton_placed : (x : Named) (ws : List Write) (es : List Edge) → Each EdgeFine es →
        flat_map (unless_known (is_among (loc ∷ []))) (locations_used (automaton (names file) x ws es)) ≡ []
    automaton_placed x ws es e =
        each_empty (unless_known (is_among (loc ∷ []))) (loc ∷ flat_map edge_locations es) (refl, each_flat EdgeFine IsLoc edge_locations (λ d h. h.1) es e)

    automaton_acting : (x : Named) (ws : List Write) (es : List Edge) → Each EdgeFine es →
        flat_map (unless_known (is_among (translated file).actions)) (actions_used (automaton (names file) x ws es)) ≡ []
    automaton_acting x ws es e =
        each_empty (unless_known (is_among (translated file).actions)) (flat_map (λ d. if_some d.action) es) (each_flat EdgeFine IsUsed (λ d. if_some d.action) (λ d h. h.2) es e)

  -- ---- in automata no variable is known besides
  abbrev global : Name → Bool
  global = is_among (global_names (translated file))

  all_global : (x : Name) → Has globals x → global x ≡ true
  all_global x h = among_names (global_names (translated file)) x ∙ h

  abbrev inside : Name → Bool
  inside x = global x || false

  all_inside : (x : Name) → Has globals x → inside x ≡ true
  all_inside x h = ap (λ b. b || false) (all_global x h)

  abbrev faults_in : Automaton → List Fault
  faults_in = unknown_in global (is_among (translated file).actions)

  automaton_known : (x : Named) (ws : List Write) (es : List Edge) → Each (WriteFine inside all_inside) ws → Each (EdgeFine inside all_inside) es → faults_in (automaton (names file) x ws es) ≡ []
  automaton_known x ws es w e =
      append_both (flat_map (unknown_by inside) (automaton_demands (automaton (names file) x ws es))) _ (automaton_demanded inside all_inside x ws es w e)
      (append_both (flat_map (unless_known (is_among (loc ∷ []))) (locations_used (automaton (names file) x ws es))) _ (automaton_placed inside all_inside x ws es e)
      (automaton_acting inside all_inside x ws es e))

  modules_known : (ws : List Write) (ms : List prism.Body) (es : List Entry) → Each (WriteFine inside all_inside) ws → Each (GoodBody file) ms → Each (λ m. Each (HasAction file) m.commands) ms →
      flat_map faults_in (module_automata (names file) (earns_silently file) ws ms es) ≡ []
  modules_known ws [] es w g a = refl
  modules_known ws (m ∷ ms) [] w g a = refl
  modules_known ws (m ∷ ms) (e ∷ es) w g a =
      append_both (faults_in (automaton (names file) (instead m.name e.name) ws (map (edge (names file) (earns_silently file)) m.commands))) _
      (automaton_known (instead m.name e.name) ws (map (edge (names file) (earns_silently file)) m.commands) w (edges_fine inside all_inside m.commands g.0.1 a.0))
      (modules_known [] ms es tt g.1 a.1)

  monitor_known : (b : Bool) → Each (GoodRewards file) file.rewards → flat_map faults_in (only_if b (automaton (names file) zz_monitor [] (monitor_edges (names file) file))) ≡ []
  monitor_known true g =
      append_both (faults_in (automaton (names file) zz_monitor [] (monitor_edges (names file) file))) []
      (automaton_known zz_monitor [] (monitor_edges (names file) file) tt (monitor_edges_fine inside all_inside g)) refl
  monitor_known false g = refl

  automata_known : IsGood file → flat_map faults_in (translated file).automata ≡ []
  automata_known g =
      let as_ = module_automata (names file) (earns_silently file) (location_values (names file) file) (bodies file) (names file).modules in
      flat_map-append faults_in as_ (monitor (names file) file)
      ∙ append_both (flat_map faults_in as_) (flat_map faults_in (monitor (names file) file))
      (modules_known (location_values (names file) file) (bodies file) (names file).modules (values_fine inside all_inside g.labels g.rewards) g.bodies (actions_of_commands file))
      (monitor_known (has_monitor file) g.rewards)

  -- ---- outside of automata
  abbrev FineHere : Demand → Type 0
  FineHere d = unknown_by global d ≡ []

  outer_known : IsGood file → flat_map (unknown_by global) (outer_demands (translated file)) ≡ []
  outer_known g =
      let new = (names file).value in
      let cons = map (λ p. constant new p.0 p.1) (zip file.constants (names file).constants) in
      let xs = map (λ p. variable new (has_condition file) p.0 p.1) (zip (variables file) (names file).variables) in
      let ys = map (λ p. label p.0 p.1) (zip file.labels (names file).labels) in
      let zs = map (λ p. structure p.0 p.1) (zip file.rewards (names file).rewards) in
      let ConstFine : Const → Type 0 = λ c. Each FineHere (const_demands c) in
      let VarFine : Var → Type 0 = λ x. Each FineHere (var_demands x) in
      each_empty (unknown_by global) (outer_demands (translated file))
      (each_join FineHere (flat_map const_demands cons) (flat_map var_demands (xs ++ (ys ++ zs)) ++ map (varying W.Bool) (if_some (translated file).restrict))
      (each_flat ConstFine FineHere const_demands (λ c h. h) cons
      (each_map (λ p. GoodConst file p.0 × Unit {0}) ConstFine (λ p. constant new p.0 p.1) (λ p h. optional global all_global (p.0).ty (p.0).value h.0)
      (zip file.constants (names file).constants) (each_zip (GoodConst file) (λ e. Unit {0}) file.constants (names file).constants g.constants (any_entry (names file).constants))))
      (each_join FineHere (flat_map var_demands (xs ++ (ys ++ zs))) (map (varying W.Bool) (if_some (translated file).restrict))
      (each_flat VarFine FineHere var_demands (λ x h. h) (xs ++ (ys ++ zs))
      (each_join VarFine xs (ys ++ zs)
      (each_map (λ p. GoodVar file p.0 × Unit {0}) VarFine (λ p. variable new (has_condition file) p.0 p.1) (λ p h. variable_fine global all_global (has_condition file) p.0 p.1 h.0)
      (zip (variables file) (names file).variables) (each_zip (GoodVar file) (λ e. Unit {0}) (variables file) (names file).variables g.variables (any_entry (names file).variables)))
      (each_join VarFine ys zs
      (each_any VarFine (λ p. label p.0 p.1) (λ p. (refl, tt)) (zip file.labels (names file).labels))
      (each_any VarFine (λ p. structure p.0 p.1) (λ p. (refl, tt)) (zip file.rewards (names file).rewards)))))
      (restriction_fine global all_global file.init g.init)))
    where
      any_entry : (es : List Entry) → Each (λ e. Unit {0}) es
      any_entry [] = tt
      any_entry (e ∷ es) = (tt, any_entry es)

  -- ---- elements and vectors
  elements_known : flat_map (unless_known (is_among (automaton_names (translated file)))) (element_names (translated file)) ≡ []
  elements_known =
      let ns = automaton_names (translated file) in
      ap (flat_map (unless_known (is_among ns))) (elements_named file)
      ∙ each_empty (unless_known (is_among ns)) ns
      (each_then (λ n. Has (names_of ns) n.name) (λ n. unless_known (is_among ns) n ≡ []) (λ n h. is_declared ns n h) ns
      (map_each (Has (names_of ns)) (λ n. n.name) ns (each_among (names_of ns))))

  abbrev PartUsed : Option Named → Type 0
  PartUsed p = Each IsUsed (if_some p)

  part_used : (b : Bool) (a : Named) → IsUsed a → PartUsed (part_if b a)
  part_used true a u = (u, tt)
  part_used false a u = tt

  abbrev VectorUsed : Vector → Type 0
  VectorUsed v = Each IsUsed (vector_actions v)

  silent_vector_used : IsUsed zz_silent → (i : ℕ) → VectorUsed (silent_vector file i)
  silent_vector_used u i =
      let ps = numbered (λ k m. part_if (nat_eq i k) zz_silent ∷ []) 0 (bodies file) in
      each_join IsUsed (flat_map if_some (ps ++ Some zz_silent ∷ [])) []
      (each_flat PartUsed IsUsed if_some (λ p h. h) (ps ++ Some zz_silent ∷ [])
      (each_join PartUsed ps (Some zz_silent ∷ [])
      (each_numbered PartUsed (λ k m. part_if (nat_eq i k) zz_silent ∷ []) (λ k m. (part_used (nat_eq i k) zz_silent u, tt)) 0 (bodies file)) ((u, tt), tt)))
      tt

  silent_vectors_used : (b : Bool) → earns_silently file ≡ b → Each VectorUsed (if b then silent_vectors file else [])
  silent_vectors_used true e =
      each_numbered VectorUsed (λ i m. only_if (has_silent m) (silent_vector file i))
      (λ i m. each_only VectorUsed (has_silent m) (silent_vector file i) (silent_vector_used (silent_used e) i)) 0 (bodies file)
  silent_vectors_used false e = tt

  action_vector_used : (a : Name) → IsAction file a → VectorUsed (action_vector (names file) file a)
  action_vector_used a h =
      let u = action_used a h 0 in
      let n = made ((names file).action a) in
      let ps = map (λ m. part_if (has_command a m) n) (bodies file) in
      let qs = only_if (has_monitor file) (part_if (has_items (for_action a) file) n) in
      each_join IsUsed (flat_map if_some (ps ++ qs)) (n ∷ [])
      (each_flat PartUsed IsUsed if_some (λ p k. k) (ps ++ qs)
      (each_join PartUsed ps qs
      (each_any PartUsed (λ m. part_if (has_command a m) n) (λ m. part_used (has_command a m) n u) (bodies file))
      (each_only PartUsed (has_monitor file) (part_if (has_items (for_action a) file) n) (part_used (has_items (for_action a) file) n u))))
      (u, tt)

  vectors_known : flat_map (unless_known (is_among (translated file).actions)) (flat_map vector_actions (translated file).vectors) ≡ []
  vectors_known =
      each_empty (unless_known (is_among (translated file).actions)) (flat_map vector_actions (translated file).vectors)
      (each_flat VectorUsed IsUsed vector_actions (λ v h. h) (translated file).vectors
      (each_join VectorUsed (map (action_vector (names file) file) (actions file)) (if earns_silently file then silent_vectors file else [])
      (each_map (IsAction file) VectorUsed (action_vector (names file) file) action_vector_used (actions file) (actions_among file))
      (silent_vectors_used (earns_silently file) refl)))

pub none_unknown : (file : prism.File) → NoUnknownNames file
none_unknown file flat =
    let g = is_good file flat in
    let t = translated file in
    append_both (flat_map (unknown_by (is_among (global_names t))) (outer_demands t)) _ (outer_known file g)
    (append_both (flat_map (unknown_in (is_among (global_names t)) (is_among t.actions)) t.automata) _ (automata_known file g)
    (append_both (flat_map (unless_known (is_among (automaton_names t))) (element_names t)) _ (elements_known file)
    (append_both (flat_map (unless_known (is_among t.actions)) (flat_map vector_actions t.vectors)) _ (vectors_known file)
    (plain_none (unknown_enabled (is_among t.actions)) (λ n. refl) t.automata))))
