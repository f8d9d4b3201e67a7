-- No two participants of a vector assign one variable: each module's edges with an action assign its own variables alone,
-- and the monitor assigns rewards.
use Rattle.std.specs.Prelude.{◌≡◌, ℕ, ◌+◌, ◌<◌, List, [], ◌∷◌, ◌++◌, map, Bool, true, false, ◌||◌, Option, Some, None, Contains, nat_eq, is_some, bytes_eq, if◌then◌else◌}
use Rattle.std.specs.List.{flat_map, filter, list_any, AllByRecursion as Each}
use Rattle.std.specs.Option.{option_map}
use Rattle.std.proofs.Common.{refl, sym, ap, ap₂, subst, ◌∙◌, arith, append-nil}
use Rattle.std.proofs.lemmas.Bool.Decides.{nat_tests}
use Rattle.basics.specs.Texts.{bytes_ne}
use Rattle.basics.specs.Lists.{append_parts, append_both, flat_map_both}
use Rattle.basics.specs.Each.{each_join, each_parts, each_of, each_filter}
use Rattle.bridge_io.specs.declared.reason.Named.{Named}
use Rattle.bridge_io.specs.declared.reason.Reason.TheVariants.{WrittenTwice}
use Rattle.op_trees.specs.declared.tree.Ty.TheVariants as T
use Rattle.process_core.specs.Ready.{Name}
use Rattle.prism_tree.specs.declared.syntax.ItemOn.{ItemOn}
use Rattle.prism_tree.specs.Syntax as prism
use Rattle.process_core.specs.Instance.{numbered, only_if}
use Rattle.op_trees.specs.Wanted.{wanted_by}
use Rattle.prism_check.specs.Demands.{varying, written, branch_demands, command_demands}
use Rattle.prism_check.specs.TypeFaults.{Variable, variable_called, types, type_faults_of, target_of, target_by, target, wanted_at, write_faults}
use Rattle.prism_check.specs.TypeFaults as source
use Rattle.prism_check.specs.Flattened.{IsFlat}
use Rattle.jani_tree.specs.Syntax.{Write, Automaton, Vector}
use Rattle.name_rules.specs.Least.{fault_if}
use Rattle.jani_check.specs.Things.{is_called, automaton_called, global_thing, is_lasting}
use Rattle.basics.specs.Options.{if_some, IfAny}
use Rattle.jani_check.specs.TypeFaults.{has_action, with_automaton, taken_part, participants, assigned_by, edge_shared, shared_by, meet, clashing_writes}
use Rattle.jani_translation.specs.Entry.{Entry}
use Rattle.jani_translation.specs.Asks.{bodies, actions, value_names, new_names}
use Rattle.jani_translation.specs.Parts.{made}
use Rattle.jani_translation.specs.Automata.{zz_silent, zz_monitor, for_action, for_silent, has_items, has_silent, earning_actions, earns_silently, has_monitor, rewards_of, write, destination, edge_action, edge, automaton, module_automaton, location_values, module_automata, monitor_edge, monitor_edges, monitor}
use Rattle.jani_translation.specs.Translated.{has_command, part_if, silent_vector, silent_vectors, action_vector, translated}
use Rattle.jani_translation.proofs.Differ.{values_differ, actions_are_not_silent}
use Rattle.jani_translation_laws.specs.TypeLaws.{NoClashingWrites}
use Rattle.jani_translation.proofs.Clean.{values_distinct}
use Rattle.prism_check.proofs.Typed.{no_formula}
use Rattle.jani_translation_laws.proofs.Sources.{IsFine, IsFineBody, EachFrom, bodies_fine}
use Rattle.jani_translation_laws.proofs.Writes.{written_fine}
use Rattle.jani_translation_laws.proofs.Rewarding.{IsReward, rewards_given}
use Rattle.jani_translation_laws.proofs.Once.{is_value}
use Rattle.jani_translation_laws.proofs.Lone.{automata_found}
use Rattle.jani_translation.proofs.Counts.{elements_named}

-- ---- lists have no name in common, whose names belong to their numbers
abbrev OwnLists : (ℕ → Name → Type 0) → ℕ → List (List Name) → Type 0
OwnLists P i ls = EachFrom (λ k xs. Each (P k) xs) i ls

abbrev AreApart : (ℕ → Name → Type 0) → Type 0
AreApart P = (i j : ℕ) (y z : Name) → (i ≡ j → ⊥) → P i y → P j z → bytes_eq y z ≡ false

module _ (P : ℕ → Name → Type 0) (apart : AreApart P) where
  not_in : (i j : ℕ) (y : Name) (zs : List Name) → (i ≡ j → ⊥) → P i y → Each (P j) zs → list_any (bytes_eq y) zs ≡ false
  not_in i j y [] d p h = refl
  not_in i j y (z ∷ zs) d p h = ap₂ (λ a b. a || b) (apart i j y z d p h.0) (not_in i j y zs d p h.1)

  in_none : (i j : ℕ) (y : Name) (ls : List (List Name)) → i < j → P i y → OwnLists P j ls → list_any (list_any (bytes_eq y)) ls ≡ false
  in_none i j y [] l p h = refl
  in_none i j y (zs ∷ ls) l p h = ap₂ (λ a b. a || b) (not_in i j y zs (λ q. absurd (omega arith)) p h.0) (in_none i (j + 1) y ls (omega arith) p h.1)

  first_apart : (i : ℕ) (xs : List Name) (ls : List (List Name)) → Each (P i) xs → OwnLists P (i + 1) ls → list_any (λ x. list_any (list_any (bytes_eq x)) ls) xs ≡ false
  first_apart i [] ls h k = refl
  first_apart i (x ∷ xs) ls h k = ap₂ (λ a b. a || b) (in_none i (i + 1) x ls (omega arith) h.0 k) (first_apart i xs ls h.1 k)

  none_meet : (i : ℕ) (ls : List (List Name)) → OwnLists P i ls → meet ls ≡ false
  none_meet i [] h = refl
  none_meet i (xs ∷ ls) h = ap₂ (λ a b. a || b) (first_apart i xs ls h.0 h.1) (none_meet (i + 1) ls h.1)

-- ---- what each automaton takes part with
module _ (file : prism.File) where
  abbrev share : Automaton → Option Named → List Name
  share a None = []
  share a (Some n) = shared_by (global_thing (translated file)) a n.name

  abbrev shares : List Automaton → List (Option Named) → List (List Name)
  shares [] ps = []
  shares (a ∷ as_) [] = []
  shares (a ∷ as_) (p ∷ ps) = share a p ∷ shares as_ ps

  taken_is : (a : Automaton) (p : Option Named) → automaton_called (translated file) a.name.name ≡ Some a →
      taken_part (shared_by (global_thing (translated file))) [] (translated file) a.name p ≡ share a p
  taken_is a None h = refl
  taken_is a (Some n) h = ap (with_automaton (λ a. shared_by (global_thing (translated file)) a n.name) []) h

  shares_are : (as_ : List Automaton) (ps : List (Option Named)) → Each (λ a. automaton_called (translated file) a.name.name ≡ Some a) as_ →
      participants (shared_by (global_thing (translated file))) [] (translated file) (map (λ a. a.name) as_) ps ≡ shares as_ ps
  shares_are [] ps h = refl
  shares_are (a ∷ as_) [] h = refl
  shares_are (a ∷ as_) (p ∷ ps) h = ap₂ (λ x r. x ∷ r) (taken_is a p h.0) (shares_are as_ ps h.1)

if_either : (b : Bool) (ns : List Name) → ns ≡ [] → (if b then ns else []) ≡ []
if_either true ns h = h
if_either false ns h = refl

each_if : (P : Name → Type 0) (b : Bool) (ns : List Name) → Each P ns → Each P (if b then ns else [])
each_if P true ns h = h
each_if P false ns h = tt

none_if : (P : Name → Type 0) (b : Bool) (ns : List Name) → b ≡ false → Each P (if (b || false) then ns else [])
none_if P true ns e = absurd cc
none_if P false ns e = tt

module _ (file : prism.File) (flat : IsFlat file) where
  -- ---- the monitor assigns rewards alone
  none_lasting : (ws : List Write) → Each (IsReward file flat) ws → filter (λ y. is_lasting (global_thing (translated file) y)) (map (λ w. w.target.name) ws) ≡ []
  none_lasting [] h = refl
  none_lasting (w ∷ ws) h =
      let rest = filter (λ y. is_lasting (global_thing (translated file) y)) (map (λ w. w.target.name) ws) in
      ap (λ b. if b then (w.target.name ∷ rest) else rest) (ap is_lasting h.0.0) ∙ none_lasting ws h.1

  pub monitor_shares_none : (a : Named) (wanted : ItemOn → Bool) → assigned_by (λ y. is_lasting (global_thing (translated file) y)) (monitor_edge (new_names file) file a wanted) ≡ []
  monitor_shares_none a wanted =
      let ws = rewards_of (new_names file) wanted file.rewards in
      ap (λ us. filter (λ y. is_lasting (global_thing (translated file) y)) (map (λ w. w.target.name) us)) (append-nil ws)
      ∙ none_lasting ws (rewards_given file flat wanted)

  -- ---- a command with an action writes variables of its module alone
  own_by : (i at : ℕ) (o : Option Variable) → write_faults (target_of i o) true at ≡ [] → option_map (λ v. v.owner) o ≡ Some (Some i)
  own_by i at None h = absurd cc
  own_by i at (Some v) h = ap Some (by_owner v.owner h)
    where
      by_number : (n : ℕ) (b : Bool) → nat_eq n i ≡ b → write_faults (if b then source.own v.ty else source.foreign (wanted_by v.ty)) true at ≡ [] → Some n ≡ Some i
      by_number n true e k = let s : n ≡ i = grind (arith, nat_tests, e) in ap Some s
      by_number n false e k = absurd cc

      by_owner : (o : Option ℕ) → write_faults (target_by o i v.ty) true at ≡ [] → o ≡ Some i
      by_owner None k = absurd cc
      by_owner (Some n) k = by_number n (nat_eq n i) refl k

  pub writes_own : (i : ℕ) (w : prism.Write) → IsFine file flat i (written true w) → option_map (λ v. v.owner) (variable_called file w.name.name) ≡ Some (Some i)
  writes_own i w h =
      own_by i w.name.at (variable_called file w.name.name)
      (ap (λ o. write_faults (target_of i (if is_some o then None else variable_called file w.name.name)) true w.name.at) (sym (no_formula file flat w.name.name))
      ∙ (append_parts (write_faults (target file i w.name.name) true w.name.at) (type_faults_of (types file) (wanted_at (target file i w.name.name)) w.value) h.0).0)

  -- ---- the monitor shares nothing
  earning_shares : (x : Name) (a : Named) (wanted : ItemOn → Bool) → edge_shared (λ y. is_lasting (global_thing (translated file) y)) (monitor_edge (new_names file) file a wanted) x ≡ []
  earning_shares x a wanted =
      if_either (has_action x (monitor_edge (new_names file) file a wanted)) (assigned_by (λ y. is_lasting (global_thing (translated file) y)) (monitor_edge (new_names file) file a wanted))
      (monitor_shares_none a wanted)

  earning_all_share : (x : Name) (as_ : List Name) →
      flat_map (λ e. edge_shared (λ y. is_lasting (global_thing (translated file) y)) e x) (map (λ a. monitor_edge (new_names file) file (made ((new_names file).action a)) (for_action a)) as_) ≡ []
  earning_all_share x [] = refl
  earning_all_share x (a ∷ as_) = append_both _ _ (earning_shares x (made ((new_names file).action a)) (for_action a)) (earning_all_share x as_)

  last_shares : (x : Name) (b : Bool) → flat_map (λ e. edge_shared (λ y. is_lasting (global_thing (translated file) y)) e x) (only_if b (monitor_edge (new_names file) file zz_silent for_silent)) ≡ []
  last_shares x true = append_both _ [] (earning_shares x zz_silent for_silent) refl
  last_shares x false = refl

  monitor_none : (x : Name) → shared_by (global_thing (translated file)) (automaton (new_names file) zz_monitor [] (monitor_edges (new_names file) file)) x ≡ []
  monitor_none x =
      flat_map_both (λ e. edge_shared (λ y. is_lasting (global_thing (translated file) y)) e x)
      (map (λ a. monitor_edge (new_names file) file (made ((new_names file).action a)) (for_action a)) (earning_actions file))
      (only_if (earns_silently file) (monitor_edge (new_names file) file zz_silent for_silent)) (earning_all_share x (earning_actions file)) (last_shares x (earns_silently file))

  monitor_list : (P : Name → Type 0) (p : Option Named) → Each P (share file (automaton (new_names file) zz_monitor [] (monitor_edges (new_names file) file)) p)
  monitor_list P None = tt
  monitor_list P (Some n) = subst (Each P) (sym (monitor_none n.name)) tt

  monitor_lists : (P : ℕ → Name → Type 0) (k : ℕ) (b : Bool) (ps : List (Option Named)) →
      OwnLists P k (shares file (only_if b (automaton (new_names file) zz_monitor [] (monitor_edges (new_names file) file))) ps)
  monitor_lists P k true [] = tt
  monitor_lists P k true (p ∷ ps) = (monitor_list (P k) p, tt)
  monitor_lists P k false ps = tt

  -- ---- the new name of a module's variable
  record IsOwn (i : ℕ) (y : Name) : Type 0 where
    old : Name
    known : Contains (value_names file) old
    owner : option_map (λ v. v.owner) (variable_called file old) ≡ Some (Some i)
    is : y ≡ (new_names file).value old

  own_apart : AreApart IsOwn
  own_apart i j y z d p q =
      bytes_ne y z
      (λ e. let s : q.old ≡ p.old = values_differ file (values_distinct file flat) p.old q.old p.known (sym q.is ∙ sym e ∙ p.is) in
      let r : Some (Some i) ≡ Some (Some j) = sym p.owner ∙ ap (λ x. option_map (λ v. v.owner) (variable_called file x)) (sym s) ∙ q.owner in
      let t : i ≡ j = cc in
      d t)

  -- ---- edges with an action assign such names alone
  write_own : (i : ℕ) (w : prism.Write) → IsFine file flat i (written true w) → IsOwn i (write (new_names file) w).target.name
  write_own i w h = record { old = w.name.name; known = is_value file flat w (written_fine file flat i true w h); owner = writes_own i w h; is = refl }

  writes_all : (i : ℕ) (ws : List prism.Write) (rest : List Write) → Each (IsFine file flat i) (map (written true) ws) → Each (IsOwn i) (map (λ w. w.target.name) rest) →
      Each (IsOwn i) (map (λ w. w.target.name) (map (write (new_names file)) ws ++ rest))
  writes_all i [] rest h k = k
  writes_all i (w ∷ ws) rest h k = (write_own i w h.0, writes_all i ws rest h.1 k)

  branches_own : (i : ℕ) (bs : List prism.Branch) → Each (λ b. Each (IsFine file flat i) (branch_demands true b)) bs →
      Each (IsOwn i) (map (λ w. w.target.name) (flat_map (λ d. d.writes) (map (destination (new_names file)) bs)))
  branches_own i [] h = tt
  branches_own i (b ∷ bs) h =
      writes_all i b.writes (flat_map (λ d. d.writes) (map (destination (new_names file)) bs))
      (each_parts (IsFine file flat i) (map (varying (wanted_by T.Real)) (if_some b.weight)) (map (written true) b.writes) h.0).1 (branches_own i bs h.1)

  abbrev targets_of : prism.Command → List Name
  targets_of c = map (λ w. w.target.name) (flat_map (λ d. d.writes) (map (destination (new_names file)) c.branches))

  abbrev assigns : prism.Command → List Name
  assigns c = filter (λ y. is_lasting (global_thing (translated file) y)) (targets_of c)

  edge_own : (i : ℕ) (x : Name) (silently : Bool) (c : prism.Command) → (x ≡ zz_silent.name → ⊥) → Each (IsFine file flat i) (command_demands c) →
      Each (IsOwn i) (edge_shared (λ y. is_lasting (global_thing (translated file) y)) (edge (new_names file) silently c) x)
  edge_own i x silently c d h = by_action c.action h.1
    where
      by_silently : (s : Bool) → Each (IsOwn i) (if (list_any (is_called x) (if_some (edge_action (new_names file) s None))) then (assigns c) else [])
      by_silently true = none_if (IsOwn i) (bytes_eq zz_silent.name x) (assigns c) (bytes_ne zz_silent.name x (λ e. d (sym e)))
      by_silently false = tt

      by_action : (o : Option Named) → Each (IsFine file flat i) (flat_map (branch_demands (is_some o)) c.branches) →
          Each (IsOwn i) (if (list_any (is_called x) (if_some (edge_action (new_names file) silently o))) then (assigns c) else [])
      by_action None k = by_silently silently
      by_action (Some a) k =
          each_if (IsOwn i) (list_any (is_called x) (if_some (edge_action (new_names file) silently (Some a)))) (assigns c)
          (each_filter (IsOwn i) (λ y. is_lasting (global_thing (translated file) y)) (targets_of c)
          (branches_own i c.branches (each_of (IsFine file flat i) (branch_demands true) c.branches k)))

  edges_own : (i : ℕ) (x : Name) (silently : Bool) (cs : List prism.Command) → (x ≡ zz_silent.name → ⊥) → Each (λ c. Each (IsFine file flat i) (command_demands c)) cs →
      Each (IsOwn i) (flat_map (λ e. edge_shared (λ y. is_lasting (global_thing (translated file) y)) e x) (map (edge (new_names file) silently) cs))
  edges_own i x silently [] d h = tt
  edges_own i x silently (c ∷ cs) d h =
      each_join (IsOwn i) (edge_shared (λ y. is_lasting (global_thing (translated file) y)) (edge (new_names file) silently c) x)
      (flat_map (λ e. edge_shared (λ y. is_lasting (global_thing (translated file) y)) e x) (map (edge (new_names file) silently) cs))
      (edge_own i x silently c d h.0) (edges_own i x silently cs d h.1)

  -- ---- vectors of actions
  abbrev NotSilent : Option Named → Type 0
  NotSilent p = IfAny (λ n. n.name ≡ zz_silent.name → ⊥) p

  module_own : (i : ℕ) (silently : Bool) (values : List Write) (m : prism.Body) (e : Entry) (p : Option Named) → NotSilent p → IsFineBody file flat i m →
      Each (IsOwn i) (share file (module_automaton (new_names file) silently values m e) p)
  module_own i silently values m e None d h = tt
  module_own i silently values m e (Some n) d h = edges_own i n.name silently m.commands d (each_of (IsFine file flat i) command_demands m.commands h.1)

  modules_own : (i : ℕ) (silently : Bool) (values : List Write) (ms : List prism.Body) (es : List Entry) (ps : List (Option Named)) → Each NotSilent ps → EachFrom (IsFineBody file flat) i ms →
      OwnLists IsOwn i (shares file (module_automata (new_names file) silently values ms es ++ monitor (new_names file) file) ps)
  modules_own i silently values [] es ps d h = monitor_lists IsOwn i (has_monitor file) ps
  modules_own i silently values (m ∷ ms) [] ps d h = monitor_lists IsOwn i (has_monitor file) ps
  modules_own i silently values (m ∷ ms) (e ∷ es) [] d h = tt
  modules_own i silently values (m ∷ ms) (e ∷ es) (p ∷ ps) d h = (module_own i silently values m e p d.0 h.0, modules_own (i + 1) silently [] ms es ps d.1 h.1)

  part_named : (a : Name) (b : Bool) → NotSilent (part_if b (made ((new_names file).action a)))
  part_named a true = actions_are_not_silent file a
  part_named a false = tt

  parts_named : (a : Name) (ms : List prism.Body) → Each NotSilent (map (λ m. part_if (has_command a m) (made ((new_names file).action a))) ms)
  parts_named a [] = tt
  parts_named a (m ∷ ms) = (part_named a (has_command a m), parts_named a ms)

  last_named : (a : Name) (b c : Bool) → Each NotSilent (only_if b (part_if c (made ((new_names file).action a))))
  last_named a true c = (part_named a c, tt)
  last_named a false c = tt

  one_clash : (v : Vector) → meet (shares file (translated file).automata v.parts) ≡ false → clashing_writes (translated file) v ≡ []
  one_clash v h = ap (λ b. fault_if b v.at WrittenTwice) (ap meet
      (ap (λ es. participants (shared_by (global_thing (translated file))) [] (translated file) es v.parts) (elements_named file) ∙ shares_are file (translated file).automata v.parts (automata_found file)) ∙ h)

  action_clash : (a : Name) → clashing_writes (translated file) (action_vector (new_names file) file a) ≡ []
  action_clash a =
      one_clash (action_vector (new_names file) file a)
      (none_meet IsOwn own_apart 0 (shares file (translated file).automata (action_vector (new_names file) file a).parts)
      (modules_own 0 (earns_silently file) (location_values (new_names file) file) (bodies file) (new_names file).modules (action_vector (new_names file) file a).parts
      (each_join NotSilent (map (λ m. part_if (has_command a m) (made ((new_names file).action a))) (bodies file))
      (only_if (has_monitor file) (part_if (has_items (for_action a) file) (made ((new_names file).action a))))
      (parts_named a (bodies file)) (last_named a (has_monitor file) (has_items (for_action a) file)))
      (bodies_fine file flat)))

  actions_clash : (as_ : List Name) → flat_map (clashing_writes (translated file)) (map (action_vector (new_names file) file) as_) ≡ []
  actions_clash [] = refl
  actions_clash (a ∷ as_) = append_both _ _ (action_clash a) (actions_clash as_)

  -- ---- in vectors without action one module takes part
  abbrev IsAt : ℕ → ℕ → Name → Type 0
  IsAt i k y = i ≡ k

  at_apart : (i : ℕ) → AreApart (IsAt i)
  at_apart i j k y z d p q = absurd (d (sym p ∙ q))

  each_at : (i k : ℕ) (ns : List Name) → i ≡ k → Each (IsAt i k) ns
  each_at i k [] e = tt
  each_at i k (n ∷ ns) e = (e, each_at i k ns e)

  silent_list : (i k : ℕ) (a : Automaton) (b : Bool) → nat_eq i k ≡ b → Each (IsAt i k) (share file a (part_if b zz_silent))
  silent_list i k a true e = let s : i ≡ k = grind (arith, nat_tests, e) in each_at i k (share file a (Some zz_silent)) s
  silent_list i k a false e = tt

  silent_lists : (i k : ℕ) (silently : Bool) (values : List Write) (ms : List prism.Body) (es : List Entry) →
      OwnLists (IsAt i) k (shares file (module_automata (new_names file) silently values ms es ++ monitor (new_names file) file) (numbered (λ k m. part_if (nat_eq i k) zz_silent ∷ []) k ms ++ Some zz_silent ∷ []))
  silent_lists i k silently values [] es = monitor_lists (IsAt i) k (has_monitor file) (Some zz_silent ∷ [])
  silent_lists i k silently values (m ∷ ms) [] = monitor_lists (IsAt i) k (has_monitor file) (numbered (λ k m. part_if (nat_eq i k) zz_silent ∷ []) k (m ∷ ms) ++ Some zz_silent ∷ [])
  silent_lists i k silently values (m ∷ ms) (e ∷ es) = (
    silent_list i k (module_automaton (new_names file) silently values m e) (nat_eq i k) refl,
    silent_lists i (k + 1) silently [] ms es,
  )

  silent_clash : (i : ℕ) → clashing_writes (translated file) (silent_vector file i) ≡ []
  silent_clash i =
      one_clash (silent_vector file i)
      (none_meet (IsAt i) (at_apart i) 0 (shares file (translated file).automata (silent_vector file i).parts)
      (silent_lists i 0 (earns_silently file) (location_values (new_names file) file) (bodies file) (new_names file).modules))

  silent_one : (i : ℕ) (b : Bool) → flat_map (clashing_writes (translated file)) (only_if b (silent_vector file i)) ≡ []
  silent_one i true = append_both _ [] (silent_clash i) refl
  silent_one i false = refl

  silent_all : (i : ℕ) (ms : List prism.Body) → flat_map (clashing_writes (translated file)) (numbered (λ i m. only_if (has_silent m) (silent_vector file i)) i ms) ≡ []
  silent_all i [] = refl
  silent_all i (m ∷ ms) =
      flat_map_both (clashing_writes (translated file)) (only_if (has_silent m) (silent_vector file i)) (numbered (λ i m. only_if (has_silent m) (silent_vector file i)) (i + 1) ms)
      (silent_one i (has_silent m)) (silent_all (i + 1) ms)

  silent_if : (b : Bool) → flat_map (clashing_writes (translated file)) (if b then silent_vectors file else []) ≡ []
  silent_if true = silent_all 0 (bodies file)
  silent_if false = refl

  pub none_clash : flat_map (clashing_writes (translated file)) (translated file).vectors ≡ []
  none_clash =
      flat_map_both (clashing_writes (translated file)) (map (action_vector (new_names file) file) (actions file)) (if earns_silently file then silent_vectors file else [])
      (actions_clash (actions file)) (silent_if (earns_silently file))

pub no_clashing_writes : (file : prism.File) → NoClashingWrites file
no_clashing_writes file flat = none_clash file flat
