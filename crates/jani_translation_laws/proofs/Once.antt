-- Nothing is assigned twice in one location, nor in one destination of an edge.
use Rattle.std.specs.Prelude.{◌≡◌, ℕ, suc, ◌+◌, ◌<◌, List, [], ◌∷◌, ◌++◌, map, max, length, drop, Bool, true, false, cond, Some, Contains, slice_get, bytes_eq}
use Rattle.std.specs.List.{IsDistinct, flat_map, filter, find, zip, AllByRecursion as Each}
use Rattle.std.specs.Option.{option_map}
use Rattle.std.proofs.Common.{refl, sym, ap, subst, ◌∙◌, arith, append-nil}
use Rattle.std.proofs.lemmas.List.Elements.{Contains-append_right}
use Rattle.basics.specs.Texts.{bytes_ne, bytes_eq-self, bytes_eq-true}
use Rattle.basics.specs.Lists.{append_both, slice_get-drop, flat_map_both}
use Rattle.basics.specs.Each.{each_then, each_with, empty_each, each_empty}
use Rattle.bridge_io.specs.declared.reason.Named.{Named}
use Rattle.bridge_io.specs.declared.reason.Reason.{Reason}
use Rattle.bridge_io.specs.declared.reason.Reason.TheVariants.{WrittenTwice}
use Rattle.op_trees.specs.declared.tree.Ty.{Ty}
use Rattle.op_trees.specs.Names.{is_called}
use Rattle.process_core.specs.Ready.{Name}
use Rattle.prism_tree.specs.declared.syntax.ItemOn.{ItemOn}
use Rattle.prism_tree.specs.Syntax as prism
use Rattle.process_core.specs.Instance.{only_if}
use Rattle.prism_check.specs.Demands.{var_type}
use Rattle.prism_check.specs.NameFaults as source
use Rattle.prism_check.specs.TypeFaults as source_types
use Rattle.prism_check.specs.Flattened.{IsFlat}
use Rattle.jani_tree.specs.Syntax.{Write}
use Rattle.name_rules.specs.Least.{fault_if}
use Rattle.jani_check.specs.NameFaults.{clash, doubled_after}
use Rattle.jani_check.specs.TypeFaults.{repeated, edge_repeats, repeated_writes}
use Rattle.jani_translation.specs.Entry.{Entry}
use Rattle.jani_translation.specs.Asks.{bodies, variables, value_names, entries, new_names, labels_at, rewards_at}
use Rattle.jani_translation.proofs.Parts.{values_apart}
use Rattle.jani_translation.specs.Parts.{made, instead_if}
use Rattle.jani_translation.specs.Automata.{zz_silent, zz_monitor, for_states, for_action, for_silent, earning_actions, earns_silently, has_monitor, sum_to, reward_of, rewards_of, write, destination, edge, automaton, label_value, location_values, module_automata, monitor_edge, monitor_edges, monitor}
use Rattle.jani_translation.proofs.SameSeen.{zip-take}
use Rattle.jani_translation.proofs.Differ.{values_differ}
use Rattle.jani_translation_laws.specs.TypeLaws.{AutomataWriteOnce}
use Rattle.jani_translation.proofs.Clean.{DiffersFrom, distinct_from, values_distinct, declared_type}
use Rattle.jani_translation_laws.proofs.Alike.{structure_name}
use Rattle.jani_translation_laws.proofs.Sources.{IsFineBody, EachFrom, bodies_fine}
use Rattle.jani_translation_laws.proofs.Writes.{IsFineWrite}
use Rattle.jani_translation_laws.proofs.Edges.{IsFineBranch, IsFineCommand, commands_fine, nothing_mapped}

-- names that are distinct are not doubled
not_doubled : (reason : Reason) (earlier ns : List Named) → IsDistinct bytes_eq (map (λ n. n.name) ns) → Each (DiffersFrom ns) earlier → doubled_after reason earlier ns ≡ []
unfolding IsDistinct
not_doubled reason earlier [] d h = refl
not_doubled reason earlier (n ∷ ns) d h =
    append_both (flat_map (clash reason n) earlier) (doubled_after reason (n ∷ earlier) ns)
    (each_empty (clash reason n) earlier
    (each_then (DiffersFrom (n ∷ ns)) (λ m. clash reason n m ≡ []) (λ m k. ap (λ b. fault_if b (max m.at n.at) reason) k.0) earlier h))
    (not_doubled reason (n ∷ earlier) ns d.1 (d.0, each_then (DiffersFrom (n ∷ ns)) (DiffersFrom ns) (λ m k. k.1) earlier h))

abbrev names_of : List Write → List Name
names_of ws = map (λ n. n.name) (map (λ w. w.target) ws)

not_repeated : (ws : List Write) → IsDistinct bytes_eq (names_of ws) → repeated ws ≡ []
not_repeated ws d = not_doubled WrittenTwice [] (map (λ w. w.target) ws) d tt

-- ---- what commands write
contains_var : (x : Name) (t : Ty) (vs : List prism.Var) → declared_type x vs ≡ Some t → Contains (map (λ v. v.name.name) vs) x
contains_var x t [] h = absurd cc
contains_var x t (v ∷ vs) h = by_answer (bytes_eq v.name.name x) refl (contains_var x t vs) h
  where
    by_answer : (b : Bool) → bytes_eq v.name.name x ≡ b → (declared_type x vs ≡ Some t → Contains (map (λ v. v.name.name) vs) x) →
        option_map var_type (cond b (Some v) (find (λ v. is_called x v.name) vs)) ≡ Some t → Contains (map (λ v. v.name.name) (v ∷ vs)) x
    by_answer true e r h = (0, omega arith, bytes_eq-true v.name.name x e)
    by_answer false e r h = let k = r h in let l = k.1 in (suc k.0, omega arith, k.2)

module _ (file : prism.File) (flat : IsFlat file) where
  pub is_value : (w : prism.Write) → IsFineWrite file flat w → Contains (value_names file) w.name.name
  is_value w h =
      Contains-append_right (map (λ c. c.name.name) file.constants) (map (λ v. v.name.name) (variables file)) w.name.name
      (contains_var w.name.name h.ty (variables file) h.variable)

  others_renamed : (x : Name) (ws : List prism.Write) → Contains (value_names file) x → Each (λ y. bytes_eq x y ≡ false) (map (λ n. n.name) (map (λ w. w.name) ws)) →
      Each (λ y. bytes_eq ((new_names file).value x) y ≡ false) (names_of (map (write (new_names file)) ws))
  others_renamed x [] c h = tt
  others_renamed x (w ∷ ws) c h = (
    bytes_ne ((new_names file).value x) ((new_names file).value w.name.name)
        (λ q. let e = values_differ file (values_distinct file flat) x w.name.name c (sym q) in
        let r : true ≡ false = sym (ap (bytes_eq x) e ∙ bytes_eq-self x) ∙ h.0 in absurd cc),
    others_renamed x ws c h.1,
  )

  renamed_distinct : (ws : List prism.Write) → Each (IsFineWrite file flat) ws → IsDistinct bytes_eq (map (λ n. n.name) (map (λ w. w.name) ws)) →
      IsDistinct bytes_eq (names_of (map (write (new_names file)) ws))
  unfolding IsDistinct
  renamed_distinct [] h d = tt
  renamed_distinct (w ∷ ws) h d = (others_renamed w.name.name ws (is_value w h.0) d.0, renamed_distinct ws h.1 d.1)

  branch_once : (b : prism.Branch) → IsFineBranch file flat b → source.doubled WrittenTwice (map (λ w. w.name) b.writes) ≡ [] → repeated (map (write (new_names file)) b.writes) ≡ []
  branch_once b h k = not_repeated (map (write (new_names file)) b.writes) (renamed_distinct b.writes h.1 (distinct_from WrittenTwice [] (map (λ w. w.name) b.writes) k))

  branches_once : (bs : List prism.Branch) → Each (IsFineBranch file flat) bs → flat_map (λ b. source.doubled WrittenTwice (map (λ w. w.name) b.writes)) bs ≡ [] →
      flat_map (λ d. repeated d.writes) (map (destination (new_names file)) bs) ≡ []
  branches_once bs h k =
      nothing_mapped (λ d. repeated d.writes) (destination (new_names file)) (λ b. IsFineBranch file flat b × (source.doubled WrittenTwice (map (λ w. w.name) b.writes) ≡ []))
      (λ b r. branch_once b r.0 r.1) bs
      (each_with (IsFineBranch file flat) (λ b. source.doubled WrittenTwice (map (λ w. w.name) b.writes) ≡ []) (λ b. IsFineBranch file flat b × (source.doubled WrittenTwice (map (λ w. w.name) b.writes) ≡ []))
      (λ b p q. (p, q)) bs h (empty_each (λ b. source.doubled WrittenTwice (map (λ w. w.name) b.writes)) bs k))

  edges_once : (silently : Bool) (cs : List prism.Command) → Each (IsFineCommand file flat) cs → flat_map source_types.repeated_writes cs ≡ [] → flat_map edge_repeats (map (edge (new_names file) silently) cs) ≡ []
  edges_once silently cs h k =
      nothing_mapped edge_repeats (edge (new_names file) silently) (λ c. IsFineCommand file flat c × (source_types.repeated_writes c ≡ []))
      (λ c r. branches_once c.branches r.0.1 r.1) cs
      (each_with (IsFineCommand file flat) (λ c. source_types.repeated_writes c ≡ []) (λ c. IsFineCommand file flat c × (source_types.repeated_writes c ≡ []))
      (λ c p q. (p, q)) cs h (empty_each source_types.repeated_writes cs k))

-- ---- what labels and structures are given
abbrev ApartFrom : Name → ℕ → List Entry → Type 0
ApartFrom z n es = (i : ℕ) (u : Entry) → i < n → slice_get es i ≡ Some u → bytes_eq z u.name ≡ false

abbrev AreApart : ℕ → List Entry → Type 0
AreApart n es = (i j : ℕ) (e u : Entry) → i < n → j < n → (i ≡ j → ⊥) → slice_get es i ≡ Some e → slice_get es j ≡ Some u → bytes_eq e.name u.name ≡ false

module _ (file : prism.File) where
  one_apart : (z : Name) (r : prism.Rewards) (e : Entry) (is : List prism.Item) (ws : List Write) → bytes_eq z e.name ≡ false → Each (λ y. bytes_eq z y ≡ false) (names_of ws) →
      Each (λ y. bytes_eq z y ≡ false) (names_of (sum_to (new_names file) (instead_if r.name e.name) is ++ ws))
  one_apart z r e [] ws h k = k
  one_apart z r e (i ∷ is) ws h k = (ap (bytes_eq z) (structure_name r e) ∙ h, k)

  rewards_apart : (z : Name) (wanted : ItemOn → Bool) (rs : List prism.Rewards) (es : List Entry) → ApartFrom z (length rs) es →
      Each (λ y. bytes_eq z y ≡ false) (names_of (flat_map (λ p. reward_of (new_names file) wanted p.0 p.1) (zip rs es)))
  rewards_apart z wanted [] es h = tt
  rewards_apart z wanted (r ∷ rs) [] h = tt
  rewards_apart z wanted (r ∷ rs) (e ∷ es) h =
      one_apart z r e (filter (λ i. wanted i.on) r.items) _ (h 0 e (omega arith) refl) (rewards_apart z wanted rs es (λ i u l g. h (suc i) u (omega arith) g))

  one_distinct : (r : prism.Rewards) (e : Entry) (is : List prism.Item) (ws : List Write) → Each (λ y. bytes_eq e.name y ≡ false) (names_of ws) → IsDistinct bytes_eq (names_of ws) →
      IsDistinct bytes_eq (names_of (sum_to (new_names file) (instead_if r.name e.name) is ++ ws))
  unfolding IsDistinct
  one_distinct r e [] ws h d = d
  one_distinct r e (i ∷ is) ws h d = (subst (λ z. Each (λ y. bytes_eq z y ≡ false) (names_of ws)) (sym (structure_name r e)) h, d)

  rewards_distinct : (wanted : ItemOn → Bool) (rs : List prism.Rewards) (es : List Entry) → AreApart (length rs) es →
      IsDistinct bytes_eq (names_of (flat_map (λ p. reward_of (new_names file) wanted p.0 p.1) (zip rs es)))
  unfolding IsDistinct
  rewards_distinct wanted [] es h = tt
  rewards_distinct wanted (r ∷ rs) [] h = tt
  rewards_distinct wanted (r ∷ rs) (e ∷ es) h =
      one_distinct r e (filter (λ i. wanted i.on) r.items) _
      (rewards_apart e.name wanted rs es (λ i u l g. h 0 (suc i) e u (omega arith) (omega arith) (λ q. absurd (omega arith)) refl g))
      (rewards_distinct wanted rs es (λ i j a b k l d g m. h (suc i) (suc j) a b (omega arith) (omega arith) (λ q. d (omega arith)) g m))

  labels_apart : (z : Name) (ls : List prism.Label) (es : List Entry) (ws : List Write) → ApartFrom z (length ls) es → Each (λ y. bytes_eq z y ≡ false) (names_of ws) →
      Each (λ y. bytes_eq z y ≡ false) (names_of (map (λ p. label_value (new_names file) p.0 p.1) (zip ls es) ++ ws))
  labels_apart z [] es ws h k = k
  labels_apart z (l ∷ ls) [] ws h k = k
  labels_apart z (l ∷ ls) (e ∷ es) ws h k = (h 0 e (omega arith) refl, labels_apart z ls es ws (λ i u m g. h (suc i) u (omega arith) g) k)

  labels_distinct : (ls : List prism.Label) (es : List Entry) (ws : List Write) → AreApart (length ls) es →
      ((i : ℕ) (u : Entry) → i < length ls → slice_get es i ≡ Some u → Each (λ y. bytes_eq u.name y ≡ false) (names_of ws)) → IsDistinct bytes_eq (names_of ws) →
      IsDistinct bytes_eq (names_of (map (λ p. label_value (new_names file) p.0 p.1) (zip ls es) ++ ws))
  unfolding IsDistinct
  labels_distinct [] es ws h k d = d
  labels_distinct (l ∷ ls) [] ws h k d = d
  labels_distinct (l ∷ ls) (e ∷ es) ws h k d = (
    labels_apart e.name ls es ws (λ i u m g. h 0 (suc i) e u (omega arith) (omega arith) (λ q. absurd (omega arith)) refl g) (k 0 e (omega arith) refl),
    labels_distinct ls es ws (λ i j a b p q r g m. h (suc i) (suc j) a b (omega arith) (omega arith) (λ q. r (omega arith)) g m)
        (λ i u m g. k (suc i) u (omega arith) g) d,
  )

  rewards_once : (wanted : ItemOn → Bool) → IsDistinct bytes_eq (names_of (rewards_of (new_names file) wanted file.rewards))
  rewards_once wanted =
      let at = rewards_at file (entries file) in
      subst (λ ps. IsDistinct bytes_eq (names_of (flat_map (λ p. reward_of (new_names file) wanted p.0 p.1) ps))) (sym (zip-take file.rewards (drop at (entries file))))
      (rewards_distinct wanted file.rewards (drop at (entries file))
      (λ i j e u k l d g h. values_apart file (at + i) (at + j) e u (omega arith) (omega arith) (λ q. d (omega arith)) (sym (slice_get-drop at i (entries file)) ∙ g) (sym (slice_get-drop at j (entries file)) ∙ h)))

  values_once : IsDistinct bytes_eq (names_of (location_values (new_names file) file))
  values_once =
      let at = labels_at file (entries file) in
      let to = rewards_at file (entries file) in
      let ws = rewards_of (new_names file) for_states file.rewards in
      subst (λ ps. IsDistinct bytes_eq (names_of (map (λ p. label_value (new_names file) p.0 p.1) ps ++ ws))) (sym (zip-take file.labels (drop at (entries file))))
      (labels_distinct file.labels (drop at (entries file)) ws
      (λ i j e u k l d g h. values_apart file (at + i) (at + j) e u (omega arith) (omega arith) (λ q. d (omega arith)) (sym (slice_get-drop at i (entries file)) ∙ g) (sym (slice_get-drop at j (entries file)) ∙ h))
      (λ i e k g.
      subst (λ ps. Each (λ y. bytes_eq e.name y ≡ false) (names_of (flat_map (λ p. reward_of (new_names file) for_states p.0 p.1) ps))) (sym (zip-take file.rewards (drop to (entries file))))
      (rewards_apart e.name for_states file.rewards (drop to (entries file))
      (λ j u l h. values_apart file (at + i) (to + j) e u (omega arith) (omega arith) (λ q. absurd (omega arith)) (sym (slice_get-drop at i (entries file)) ∙ g) (sym (slice_get-drop to j (entries file)) ∙ h))))
      (rewards_once for_states))

  -- ---- the monitor
  earning_once : (a : Named) (wanted : ItemOn → Bool) → edge_repeats (monitor_edge (new_names file) file a wanted) ≡ []
  earning_once a wanted = append_both (repeated (rewards_of (new_names file) wanted file.rewards)) [] (not_repeated (rewards_of (new_names file) wanted file.rewards) (rewards_once wanted)) refl

  earning_all_once : (as_ : List Name) → flat_map edge_repeats (map (λ a. monitor_edge (new_names file) file (made ((new_names file).action a)) (for_action a)) as_) ≡ []
  earning_all_once [] = refl
  earning_all_once (a ∷ as_) = append_both _ _ (earning_once (made ((new_names file).action a)) (for_action a)) (earning_all_once as_)

  last_once : (b : Bool) → flat_map edge_repeats (only_if b (monitor_edge (new_names file) file zz_silent for_silent)) ≡ []
  last_once true = append_both _ [] (earning_once zz_silent for_silent) refl
  last_once false = refl

  monitor_once : (b : Bool) → flat_map repeated_writes (only_if b (automaton (new_names file) zz_monitor [] (monitor_edges (new_names file) file))) ≡ []
  monitor_once true =
      append_both _ []
      (flat_map_both edge_repeats (map (λ a. monitor_edge (new_names file) file (made ((new_names file).action a)) (for_action a)) (earning_actions file))
      (only_if (earns_silently file) (monitor_edge (new_names file) file zz_silent for_silent)) (earning_all_once (earning_actions file)) (last_once (earns_silently file))) refl
  monitor_once false = refl

module _ (file : prism.File) (flat : IsFlat file) where
  modules_once : (silently : Bool) (values : List Write) (i : ℕ) (ms : List prism.Body) (es : List Entry) → repeated values ≡ [] → EachFrom (IsFineBody file flat) i ms →
      Each (λ m. Each (IsFineCommand file flat) m.commands) ms → flat_map repeated_writes (module_automata (new_names file) silently values ms es) ≡ []
  modules_once silently values i [] es h k c = refl
  modules_once silently values i (m ∷ ms) [] h k c = refl
  modules_once silently values i (m ∷ ms) (e ∷ es) h k c =
      append_both _ (flat_map repeated_writes (module_automata (new_names file) silently [] ms es))
      (append_both (repeated values ++ []) (flat_map edge_repeats (map (edge (new_names file) silently) m.commands)) (append-nil (repeated values) ∙ h) (edges_once file flat silently m.commands c.0 k.0.2))
      (modules_once silently [] (i + 1) ms es refl k.1 c.1)

pub automata_write_once : (file : prism.File) → AutomataWriteOnce file
automata_write_once file flat =
    flat_map_both repeated_writes (module_automata (new_names file) (earns_silently file) (location_values (new_names file) file) (bodies file) (new_names file).modules) (monitor (new_names file) file)
    (modules_once file flat (earns_silently file) (location_values (new_names file) file) 0 (bodies file) (new_names file).modules
    (not_repeated (location_values (new_names file) file) (values_once file)) (bodies_fine file flat) (commands_fine file flat 0 (bodies file) (bodies_fine file flat)))
    (monitor_once file (has_monitor file))
