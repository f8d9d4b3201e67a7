-- The labels and state rewards of a translated file: the first location gives them their values.
use Rattle.std.specs.Prelude.{◌≡◌, ℕ, suc, ◌+◌, ◌<◌, List, [], ◌∷◌, ◌++◌, map, length, drop, Bool, true, false, ◌&&◌, cond, Option, Some, None, slice_get, bytes_eq}
use Rattle.std.specs.List.{All, AllByRecursion, filter, find, flat_map, zip}
use Rattle.std.proofs.Common.{refl, sym, ap, ap₂, ◌∙◌, arith, append-nil}
use Rattle.std.proofs.lemmas.List.Elements.{All-head, All-tail}
use Rattle.basics.specs.Texts.{bytes_eq-self}
use Rattle.basics.specs.Lists.{slice_get-drop, slice_get-take}
use Rattle.bridge_io.specs.declared.reason.Named.{Named}
use Rattle.op_trees.specs.Seen.{Seen}
use Rattle.basics.specs.Options.{if_some}
use Rattle.process_core.specs.Ready.{Values, Name}
use Rattle.process_core.specs.Choices.{number_of, truth_of}
use Rattle.process_core.specs.declared.data.Mark.TheVariants as M
use Rattle.prism_tree.specs.Syntax as prism
use Rattle.prism_names.specs.Names.{unchanged, see}
use Rattle.process_core.specs.Instance.{Valuation, numbered, only_if}
use Rattle.prism_flat.specs.Moment as prism_moment
use Rattle.prism_flat.specs.Moment.{item_at}
use Rattle.prism_flat.specs.Process.{state_reward}
use Rattle.process_core.specs.Bounds.{summed}
use Rattle.prism_flat.specs.Scene.{has_condition}
use Rattle.jani_tree.specs.Syntax.{Automaton, Location, Var, File}
use Rattle.jani_tree.specs.Syntax as jani
use Rattle.op_trees.specs.Names.{is_called}
use Rattle.jani_meaning.specs.Elements.{owned_by, is_label, labels, is_boolean}
use Rattle.jani_meaning.specs.Scene as jani_scene
use Rattle.jani_meaning.specs.Moment as jani_moment
use Rattle.name_table.specs.declared.entry.Entry.{Entry}
use Rattle.name_table.specs.Asks.{bodies, variables, entries, labels_at, rewards_at, NewNames, new_names}
use Rattle.jani_translation.specs.Parts.{instead_if, variable, label, structure}
use Rattle.jani_translation.specs.Automata.{loc, for_states, earns_silently, has_monitor, label_value, sum_to, reward_of, rewards_of, location_values, module_automaton, module_automata, monitor, automaton, zz_monitor, monitor_edges}
use Rattle.jani_translation.specs.Translated.{translated}
use Rattle.jani_translation.specs.SeenLaws.{IsSound, IsSoundUnder, GivesAlike}
use Rattle.jani_translation.specs.StateLaws.{at_home, state_of, SoundItem, MarksAreSound, LabelsSeenAlike, MarksAlike}
use Rattle.jani_translation.proofs.Counts.{element_total, named}
use Rattle.jani_translation.proofs.Each.{n_bodies, for_labels, for_rewards, for_modules}
use Rattle.jani_translation.proofs.Elements.{elements_are}
use Rattle.jani_translation.proofs.StateNames.{owned_more}
use Rattle.jani_translation.proofs.Edges.{new_structures, structures_owned, filter_owned, here, expression_here}
use Rattle.name_table.proofs.Parts.{values_apart}
use Rattle.jani_translation.proofs.Sums.{nought_is, items_seen, state_items}
use Rattle.jani_translation.proofs.OneForOne.{filter-none}

-- ---- what a list of writes gives to a name
given : Name → List jani.Write → Option jani.Write
given x ws = find (λ u. is_called x u.target) ws

given_behind : (x : Name) (u : jani.Write) (ws : List jani.Write) → is_called x u.target ≡ false → given x (u ∷ ws) ≡ given x ws
unfolding given
given_behind x u ws h = by_test (is_called x u.target) h
  where
    by_test : (b : Bool) → b ≡ false → cond b (Some u) (given x ws) ≡ given x ws
    by_test true e = absurd cc
    by_test false e = refl

given_here : (x : Name) (u : jani.Write) (ws : List jani.Write) → is_called x u.target ≡ true → given x (u ∷ ws) ≡ Some u
unfolding given
given_here x u ws h = by_test (is_called x u.target) h
  where
    by_test : (b : Bool) → b ≡ true → cond b (Some u) (given x ws) ≡ Some u
    by_test true e = refl
    by_test false e = absurd cc

-- another name than those of these entries
abbrev IsFarFrom : Name → List Entry → Type 0
IsFarFrom x es = (i : ℕ) (u : Entry) → slice_get es i ≡ Some u → bytes_eq x u.name ≡ false

abbrev AreFarFrom : Name → List Entry → Type 0
AreFarFrom x es = (i : ℕ) (u : Entry) → slice_get es i ≡ Some u → bytes_eq u.name x ≡ false

abbrev pub AreApart : List Entry → Type 0
AreApart es = (i j : ℕ) (e u : Entry) → (i ≡ j → ⊥) → slice_get es i ≡ Some e → slice_get es j ≡ Some u → bytes_eq e.name u.name ≡ false

-- what is given to each entry's name
abbrev Gives : {X : Type 0} → (X → Entry → Option jani.Write) → List jani.Write → List X → List Entry → Type 0
Gives f ws xs es = AllByRecursion (λ p. given p.1.name ws ≡ f p.0 p.1) (zip xs es)

gives_behind : {X : Type 0} (f : X → Entry → Option jani.Write) (u : jani.Write) (ws : List jani.Write) (xs : List X) (es : List Entry) →
    IsFarFrom u.target.name es → Gives f ws xs es → Gives f (u ∷ ws) xs es
gives_behind f u ws [] es h g = tt
gives_behind f u ws (x ∷ xs) [] h g = tt
gives_behind f u ws (x ∷ xs) (e ∷ es) h g = (given_behind e.name u ws (h 0 e refl) ∙ g.0, gives_behind f u ws xs es (λ i k q. h (suc i) k q) g.1)

gives_behind_all : {X : Type 0} (f : X → Entry → Option jani.Write) (us ws : List jani.Write) (xs : List X) (es : List Entry) →
    AllByRecursion (λ u. IsFarFrom u.target.name es) us → Gives f ws xs es → Gives f (us ++ ws) xs es
gives_behind_all f [] ws xs es h g = g
gives_behind_all f (u ∷ us) ws xs es h g = gives_behind f u (us ++ ws) xs es h.0 (gives_behind_all f us ws xs es h.1 g)

-- the first of some writes
abbrev first_write : List jani.Write → Option jani.Write
first_write [] = None
first_write (u ∷ us) = Some u

module _ (names : NewNames) where
  labels_given : (ls : List prism.Label) (es : List Entry) (more : List jani.Write) → AreApart es →
      Gives (λ l e. Some (label_value names l e)) (map (λ p. label_value names p.0 p.1) (zip ls es) ++ more) ls es
  labels_given [] es more h = tt
  labels_given (l ∷ ls) [] more h = tt
  labels_given (l ∷ ls) (e ∷ es) more h = (
    given_here e.name (label_value names l e) (map (λ p. label_value names p.0 p.1) (zip ls es) ++ more) (bytes_eq-self e.name),
    gives_behind (λ l e. Some (label_value names l e)) (label_value names l e) (map (λ p. label_value names p.0 p.1) (zip ls es) ++ more) ls es
        (λ i u g. h 0 (suc i) e u (λ q. absurd (omega arith)) refl g)
        (labels_given ls es more (λ i j a b d p q. h (suc i) (suc j) a b (λ r. d (omega arith)) p q)),
  )

  label_targets : (ls : List prism.Label) (es fs : List Entry) → ((i : ℕ) (e : Entry) → slice_get es i ≡ Some e → IsFarFrom e.name fs) →
      AllByRecursion (λ u. IsFarFrom u.target.name fs) (map (λ p. label_value names p.0 p.1) (zip ls es))
  label_targets [] es fs h = tt
  label_targets (l ∷ ls) [] fs h = tt
  label_targets (l ∷ ls) (e ∷ es) fs h = (h 0 e refl, label_targets ls es fs (λ i u g. h (suc i) u g))

  named_at : (o : Option Named) (x : Name) → (instead_if o x).name ≡ x
  named_at None x = refl
  named_at (Some n) x = refl

  -- nothing that is given to other names
  none_given : (x : Name) (rs : List prism.Rewards) (es : List Entry) → AreFarFrom x es → given x (flat_map (λ p. reward_of names for_states p.0 p.1) (zip rs es)) ≡ None
  unfolding given
  none_given x [] es h = refl
  none_given x (r ∷ rs) [] h = refl
  none_given x (r ∷ rs) (e ∷ es) h = by_items (filter (λ i. for_states i.on) r.items) (none_given x rs es (λ i u g. h (suc i) u g))
    where
      by_items : (is : List prism.Item) → given x (flat_map (λ p. reward_of names for_states p.0 p.1) (zip rs es)) ≡ None →
          given x (sum_to names (instead_if r.name e.name) is ++ flat_map (λ p. reward_of names for_states p.0 p.1) (zip rs es)) ≡ None
      by_items [] t = t
      by_items (i ∷ is) t = given_behind x _ (flat_map (λ p. reward_of names for_states p.0 p.1) (zip rs es)) (ap (λ n. bytes_eq n x) (named_at r.name e.name) ∙ h 0 e refl) ∙ t

  rewards_given : (rs : List prism.Rewards) (es : List Entry) → AreApart es →
      Gives (λ r e. first_write (reward_of names for_states r e)) (flat_map (λ p. reward_of names for_states p.0 p.1) (zip rs es)) rs es
  rewards_given [] es h = tt
  rewards_given (r ∷ rs) [] h = tt
  rewards_given (r ∷ rs) (e ∷ es) h = by_items (rewards_given rs es (λ i j a b d p q. h (suc i) (suc j) a b (λ r. d (omega arith)) p q)) (filter (λ i. for_states i.on) r.items)
    where
      rest : List jani.Write
      rest = flat_map (λ p. reward_of names for_states p.0 p.1) (zip rs es)

      by_items : Gives (λ r e. first_write (reward_of names for_states r e)) rest rs es → (is : List prism.Item) →
          (given e.name (sum_to names (instead_if r.name e.name) is ++ rest) ≡ first_write (sum_to names (instead_if r.name e.name) is))
          × Gives (λ r e. first_write (reward_of names for_states r e)) (sum_to names (instead_if r.name e.name) is ++ rest) rs es
      by_items later [] = (none_given e.name rs es (λ i u g. h (suc i) 0 u e (λ q. absurd (omega arith)) g refl), later)
      by_items later (i ∷ is) = (
        given_here e.name _ rest (ap (λ n. bytes_eq n e.name) (named_at r.name e.name) ∙ bytes_eq-self e.name),
        gives_behind (λ r e. first_write (reward_of names for_states r e)) _ rest rs es
            (λ j u g. ap (λ n. bytes_eq n u.name) (named_at r.name e.name) ∙ h 0 (suc j) e u (λ q. absurd (omega arith)) refl g) later,
      )

-- ---- the entries of labels and structures
module _ (file : prism.File) where
  labels_apart : AreApart (new_names file).labels
  labels_apart i j e u d g h =
      let a = slice_get-take (length file.labels) i (drop (labels_at file (entries file)) (entries file)) e g in
      let b = slice_get-take (length file.labels) j (drop (labels_at file (entries file)) (entries file)) u h in
      let p = a.0 in
      let q = b.0 in
      values_apart file (labels_at file (entries file) + i) (labels_at file (entries file) + j) e u (omega arith) (omega arith) (λ r. d (omega arith))
      (sym (slice_get-drop (labels_at file (entries file)) i (entries file)) ∙ a.1) (sym (slice_get-drop (labels_at file (entries file)) j (entries file)) ∙ b.1)

  pub rewards_apart : AreApart (new_names file).rewards
  rewards_apart i j e u d g h =
      let a = slice_get-take (length file.rewards) i (drop (rewards_at file (entries file)) (entries file)) e g in
      let b = slice_get-take (length file.rewards) j (drop (rewards_at file (entries file)) (entries file)) u h in
      let p = a.0 in
      let q = b.0 in
      values_apart file (rewards_at file (entries file) + i) (rewards_at file (entries file) + j) e u (omega arith) (omega arith) (λ r. d (omega arith))
      (sym (slice_get-drop (rewards_at file (entries file)) i (entries file)) ∙ a.1) (sym (slice_get-drop (rewards_at file (entries file)) j (entries file)) ∙ b.1)

  labels_no_rewards : (i : ℕ) (e : Entry) → slice_get (new_names file).labels i ≡ Some e → IsFarFrom e.name (new_names file).rewards
  labels_no_rewards i e g j u h =
      let a = slice_get-take (length file.labels) i (drop (labels_at file (entries file)) (entries file)) e g in
      let b = slice_get-take (length file.rewards) j (drop (rewards_at file (entries file)) (entries file)) u h in
      let p = a.0 in
      let q = b.0 in
      values_apart file (labels_at file (entries file) + i) (rewards_at file (entries file) + j) e u (omega arith) (omega arith) (λ r. absurd (omega arith))
      (sym (slice_get-drop (labels_at file (entries file)) i (entries file)) ∙ a.1) (sym (slice_get-drop (rewards_at file (entries file)) j (entries file)) ∙ b.1)

  labels_in_location : Gives (λ l e. Some (label_value (new_names file) l e)) (location_values (new_names file) file) file.labels (new_names file).labels
  labels_in_location = labels_given (new_names file) file.labels (new_names file).labels (rewards_of (new_names file) for_states file.rewards) labels_apart

  rewards_in_location : Gives (λ r e. first_write (reward_of (new_names file) for_states r e)) (location_values (new_names file) file) file.rewards (new_names file).rewards
  rewards_in_location =
      gives_behind_all (λ r e. first_write (reward_of (new_names file) for_states r e)) (map (λ p. label_value (new_names file) p.0 p.1) (zip file.labels (new_names file).labels))
      (rewards_of (new_names file) for_states file.rewards) file.rewards (new_names file).rewards
      (label_targets (new_names file) file.labels (new_names file).labels (new_names file).rewards labels_no_rewards)
      (rewards_given (new_names file) file.rewards (new_names file).rewards rewards_apart)

-- ---- the labels of the file
abbrev new_labels : prism.File → List Var
new_labels file = map (λ p. label p.0 p.1) (zip file.labels (new_names file).labels)

labels_in : (file : prism.File) → filter (λ x. x.transient && is_boolean x.kind) (translated file).variables ≡ new_labels file
labels_in file =
    let names = new_names file in
    filter-none (λ x. x.transient && is_boolean x.kind) (λ p. variable names.value (has_condition file) p.0 p.1) (λ p. refl) (zip (variables file) names.variables) _
    ∙ filter-both (λ x. x.transient && is_boolean x.kind) (λ p. label p.0 p.1) (λ p. refl) (zip file.labels names.labels) (new_structures file)
    ∙ ap (λ r. new_labels file ++ r)
    (ap (filter (λ x. x.transient && is_boolean x.kind)) (sym (append-nil (new_structures file)))
    ∙ filter-none (λ x. x.transient && is_boolean x.kind) (λ p. structure p.0 p.1) (λ p. refl) (zip file.rewards names.rewards) [])
    ∙ append-nil (new_labels file)
  where
    filter-both : {X : Type 0} (p : Var → Bool) (f : X → Var) → ((x : X) → p (f x) ≡ true) → (xs : List X) (rest : List Var) → filter p (map f xs ++ rest) ≡ map f xs ++ filter p rest
    filter-both p f h [] rest = refl
    filter-both p f h (x ∷ xs) rest = ap₂ (λ b l. cond b (f x ∷ l) l) (h x) (filter-both p f h xs rest)

labels_owned : (file : prism.File) → labels (translated file) ≡ owned_by None (new_labels file)
labels_owned file =
    let g = translated file in
    ap (λ r. filter is_label (owned_by None g.variables ++ r)) (owned_more file)
    ∙ ap (filter is_label) (append-nil (owned_by None g.variables))
    ∙ filter_owned (λ x. x.transient && is_boolean x.kind) g.variables
    ∙ ap (owned_by None) (labels_in file)

-- ---- what a transient variable is
module _ (g : File) (w : Valuation) (st : Values) (x : Var) where
  abbrev given_by : ℕ → Automaton → List Seen
  given_by i a = jani_moment.given_to g w st (record { owner = None; var = x }) i a

  abbrev GivesNothing : Automaton → Type 0
  GivesNothing a = (i : ℕ) → given_by i a ≡ []

  nothing_given : (i : ℕ) (as_ : List Automaton) → AllByRecursion GivesNothing as_ → numbered given_by i as_ ≡ []
  nothing_given i [] h = refl
  nothing_given i (a ∷ as_) h = ap₂ (λ p q. p ++ q) (h.0 i) (nothing_given (i + 1) as_ h.1)

  -- a location that gives nothing
  empty_gives : (names : NewNames) (n : Named) (es : List jani.Edge) → GivesNothing (automaton names n [] es)
  empty_gives names n es i =
      by_test (jani_moment.is_number 0 (slice_get st i))
    where
      by_test : (b : Bool) → map (λ u. jani_scene.see u.value (jani_moment.names_in g w st i)) (if_some (jani_moment.given_in g w st x.name.name (cond b (Some (record { name = loc; values = [] })) None))) ≡ []
      by_test true = refl
      by_test false = refl

  modules_give : (names : NewNames) (silently : Bool) (ms : List prism.Body) (es : List Entry) (rest : List Automaton) → AllByRecursion GivesNothing rest →
      AllByRecursion GivesNothing (module_automata names silently [] ms es ++ rest)
  modules_give names silently [] es rest h = h
  modules_give names silently (m ∷ ms) [] rest h = h
  modules_give names silently (m ∷ ms) (e ∷ es) rest h = (empty_gives names (module_automaton names silently [] m e).name (module_automaton names silently [] m e).edges, modules_give names silently ms es rest h)

  monitor_gives : (names : NewNames) (b : Bool) (n : Named) (es : List jani.Edge) → AllByRecursion GivesNothing (only_if b (automaton names n [] es))
  monitor_gives names true n es = (empty_gives names n es, tt)
  monitor_gives names false n es = tt

  -- what the first location gives
  abbrev seen_of : Option jani.Write → Seen
  seen_of None = jani_scene.start_of (jani_scene.constant_names g w) x.start
  seen_of (Some u) = jani_scene.see u.value (jani_moment.names_in g w st 0)

  first_gives : (names : NewNames) (silently : Bool) (values : List jani.Write) (ms : List prism.Body) (es : List Entry) (rest : List Automaton) → 0 < length ms → length ms ≡ length es →
      slice_get st 0 ≡ Some at_home → AllByRecursion GivesNothing rest →
      numbered given_by 0 (module_automata names silently values ms es ++ rest)
      ≡ map (λ u. jani_scene.see u.value (jani_moment.names_in g w st 0)) (if_some (given x.name.name values))
  unfolding given
  first_gives names silently values [] es rest l q h k = absurd (omega arith)
  first_gives names silently values (m ∷ ms) [] rest l q h k = absurd cc
  first_gives names silently values (m ∷ ms) (e ∷ es) rest l q h k =
      let L : Location = record { name = loc; values = values } in
      ap₂ (λ p r. p ++ r)
      (ap (λ v. map (λ u. jani_scene.see u.value (jani_moment.names_in g w st 0)) (if_some (jani_moment.given_in g w st x.name.name (cond (jani_moment.is_number 0 v) (Some L) None)))) h)
      (nothing_given 1 (module_automata names silently [] ms es ++ rest) (modules_give names silently ms es rest k))
      ∙ append-nil (map (λ u. jani_scene.see u.value (jani_moment.names_in g w st 0)) (if_some (given x.name.name values)))

  first_seen : (o : Option jani.Write) →
      jani_moment.first_or g w st (jani_scene.start_of (jani_scene.constant_names g w) x.start) (map (λ u. jani_scene.see u.value (jani_moment.names_in g w st 0)) (if_some o)) ≡ seen_of o
  first_seen None = refl
  first_seen (Some u) = refl

module _ (file : prism.File) (v w : Valuation) (sound : IsSoundUnder file v) (alike : GivesAlike file v w) (s : Values) (h : MarksAreSound file v s) where
  abbrev g : File
  g = translated file

  abbrev old : Name → Seen
  old = prism_moment.names_in file v s unchanged

  transient_is : (x : Var) →
      jani_moment.transient_at g w (state_of file s) (record { owner = None; var = x })
      ≡ seen_of g w (state_of file s) x (given x.name.name (location_values (new_names file) file))
  transient_is x =
      let names = new_names file in
      let st = state_of file s in
      let values = location_values names file in
      let k = n_bodies file in
      let some = h.some_module in
      let n = element_total file in
      ap (λ as_. jani_moment.first_or g w st (jani_scene.start_of (jani_scene.constant_names g w) x.start) (numbered (given_by g w st x) 0 as_)) (elements_are file)
      ∙ ap (jani_moment.first_or g w st (jani_scene.start_of (jani_scene.constant_names g w) x.start))
      (first_gives g w st x names (earns_silently file) values (bodies file) names.modules (monitor names file) (omega arith) (for_modules file)
      (home_first (bodies file) names.modules (for_modules file) (omega arith))
      (monitor_gives g w st x names (has_monitor file) zz_monitor (monitor_edges names file)))
      ∙ first_seen g w st x (given x.name.name values)
    where
      home_first : (ms : List prism.Body) (es : List Entry) → length ms ≡ length es → 0 < length ms →
          slice_get (map (λ a. at_home) (named (module_automata (new_names file) (earns_silently file) (location_values (new_names file) file) ms es ++ monitor (new_names file) file)) ++ s) 0 ≡ Some at_home
      home_first [] es q l = absurd (omega arith)
      home_first (m ∷ ms) [] q l = absurd cc
      home_first (m ∷ ms) (e ∷ es) q l = refl

  -- ---- labels
  labels_here : (ls : List prism.Label) (es : List Entry) → length ls ≡ length es → All (λ l. IsSound old l.body) ls →
      Gives (λ l e. Some (label_value (new_names file) l e)) (location_values (new_names file) file) ls es →
      map (jani_moment.transient_at g w (state_of file s)) (owned_by None (map (λ p. label p.0 p.1) (zip ls es))) ≡ map (λ l. see l.body old) ls
  labels_here [] es q a k = refl
  labels_here (l ∷ ls) [] q a k = absurd cc
  labels_here (l ∷ ls) (e ∷ es) q a k =
      ap₂ (λ x r. x ∷ r)
      (transient_is (label l e) ∙ ap (seen_of g w (state_of file s) (label l e)) k.0
      ∙ expression_here file v w sound alike s h.values 0 l.body (All-head (λ l. IsSound old l.body) l ls a))
      (labels_here ls es (omega arith) (All-tail (λ l. IsSound old l.body) l ls a) k.1)

  -- ---- state rewards
  reward_seen : (r : prism.Rewards) (e : Entry) (is : List prism.Item) → All (SoundItem file v s) is →
      number_of (seen_of g w (state_of file s) (structure r e) (first_write (sum_to (new_names file) (instead_if r.name e.name) is))).value
      ≡ (summed (map (λ i. (item_at old i).item) is)).value
  unfolding jani_scene.see
  reward_seen r e [] a = ap Some nought_is
  reward_seen r e (i ∷ is) a = items_seen (new_names file) old (jani_moment.names_in g w (state_of file s) 0) (here file v w sound alike s h.values 0) i is a

  reward_here : (r : prism.Rewards) (e : Entry) → All (SoundItem file v s) (filter (λ i. for_states i.on) r.items) → given e.name (location_values (new_names file) file) ≡ first_write (reward_of (new_names file) for_states r e) →
      number_of (jani_moment.transient_at g w (state_of file s) (record { owner = None; var = structure r e })).value ≡ (state_reward (map (item_at old) r.items)).value
  reward_here r e a k =
      ap (λ x. number_of x.value) (transient_is (structure r e))
      ∙ ap (λ o. number_of (seen_of g w (state_of file s) (structure r e) o).value)
      (ap (λ x. given x (location_values (new_names file) file)) (called r.name) ∙ k)
      ∙ reward_seen r e (filter (λ i. for_states i.on) r.items) a
      ∙ ap (λ l. (summed l).value) (sym (state_items old r.items))
    where
      called : (o : Option Named) → (instead_if o e.name).name ≡ e.name
      called None = refl
      called (Some n) = refl

  rewards_here : (rs : List prism.Rewards) (es : List Entry) → length rs ≡ length es → All (λ r. All (SoundItem file v s) (filter (λ i. for_states i.on) r.items)) rs →
      Gives (λ r e. first_write (reward_of (new_names file) for_states r e)) (location_values (new_names file) file) rs es →
      map (λ r. M.Number (number_of r.value)) (map (jani_moment.transient_at g w (state_of file s)) (owned_by None (map (λ p. structure p.0 p.1) (zip rs es))))
      ≡ map (λ items. M.Number (state_reward items).value) (map (λ r. map (item_at old) r.items) rs)
  rewards_here [] es q a k = refl
  rewards_here (r ∷ rs) [] q a k = absurd cc
  rewards_here (r ∷ rs) (e ∷ es) q a k =
      ap₂ (λ x t. x ∷ t) (ap M.Number (reward_here r e (All-head (λ r. All (SoundItem file v s) (filter (λ i. for_states i.on) r.items)) r rs a) k.0))
      (rewards_here rs es (omega arith) (All-tail (λ r. All (SoundItem file v s) (filter (λ i. for_states i.on) r.items)) r rs a) k.1)

pub labels_seen_alike : (file : prism.File) → LabelsSeenAlike file
labels_seen_alike file v w sound alike s h =
    ap (map (jani_moment.transient_at (translated file) w (state_of file s))) (labels_owned file)
    ∙ labels_here file v w sound alike s h file.labels (new_names file).labels (for_labels file) h.labels (labels_in_location file)

pub marks_alike : (file : prism.File) → MarksAlike file
marks_alike file v w sound alike s h =
    ap₂ (λ a b. map (λ l. M.Truth (truth_of l.value)) a ++ b) (labels_seen_alike file v w sound alike s h)
    (ap (λ os. map (λ r. M.Number (number_of r.value)) (map (jani_moment.transient_at (translated file) w (state_of file s)) os)) (structures_owned file)
    ∙ rewards_here file v w sound alike s h file.rewards (new_names file).rewards (for_rewards file) h.items (rewards_in_location file))
