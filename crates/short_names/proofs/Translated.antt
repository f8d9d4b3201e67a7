-- The form of a translated file, whatever holds of each of its new names and of the three names of its own.
use Rattle.std.specs.Prelude.{◌≡◌, ℕ, List, [], ◌∷◌, ◌++◌, map, length, Bool, true, false, Option, Some, None, nat_eq, if◌then◌else◌}
use Rattle.std.specs.List.{filter, zip, AllByRecursion as Each}
use Rattle.std.specs.Option.{option_map}
use Rattle.std.proofs.Common.{refl, arith, drop, length-drop}
use Rattle.basics.specs.Each.{each_map, each_join, each_zip, each_filter, each_take, each_drop, each_flat, each_any, any_map}
use Rattle.bridge_io.specs.declared.reason.Named.{Named}
use Rattle.op_trees.specs.Tree.{Truth, Number, Name as At, One, Two, Three, AllNames}
use Rattle.op_trees.specs.SeenLaws.{names_then}
use Rattle.process_core.specs.Ready.{Name}
use Rattle.prism_tree.specs.Syntax as prism
use Rattle.prism_flat.specs.Scene.{has_condition}
use Rattle.prism_tree.specs.declared.syntax.ItemOn.{ItemOn}
use Rattle.process_core.specs.Instance.{numbered, only_if}
use Rattle.basics.specs.Options.{IfAny}
use Rattle.prism_print.specs.Printable.{IsPrintableExpression, AreBranches}
use Rattle.prism_print.proofs.Printable.{literals}
use Rattle.jani_table.specs.declared.operator.JaniOp.TheVariants.{Add}
use Rattle.jani_tree.specs.Syntax.{Expression, Write, Edge, Automaton, is_always, plain_element}
use Rattle.basics.specs.Lists.{IsNotEmpty as HasItems}
use Rattle.jani_tree.specs.Form.{NameForm, ExprForm, KindForm, ConstRead, VarRead, WriteRead, DestinationRead, EdgeRead, AutomatonRead, PartForm, VectorRead, RestrictionRead, FileWith, ElementRead}
use Rattle.name_table.specs.declared.entry.Entry.{Entry}
use Rattle.prism_images.specs.Image.{image, image_one}
use Rattle.prism_images.specs.Laws.{HasItsOperands}
use Rattle.prism_images.proofs.Form.{form_kept}
use Rattle.name_table.specs.Asks.{bodies, variables, actions, value_names, NewNames, new_names, entries, some_from, labels_at, rewards_at, modules_at, actions_at}
use Rattle.jani_translation.specs.Parts.{made, instead, instead_if, nought, kind_of, restriction, start_of, start_under, constant, variable, label, structure}
use Rattle.jani_translation.specs.Automata.{loc, zz_silent, zz_monitor, for_states, for_silent, for_action, earning_actions, earns_silently, has_monitor, item_value, sum_behind, sum_to, reward_of, rewards_of, label_value, location_values, write, destination, edge_action, edge, automaton, module_automata, monitor_edge, monitor_edges, monitor, automata, has_silent, has_items}
use Rattle.jani_translation.specs.Translated.{has_command, part_if, silent_vector, silent_vectors, global_variables, jani_actions, action_vector, vectors, translated}
use Rattle.jani_translation_laws.proofs.Known.{IsKnown, Good, GoodConst, GoodRange, GoodVar, GoodLabel, GoodWrite, GoodBranch, GoodCommand, GoodBody, GoodItem, GoodRewards, IsGood, is_good}
use Rattle.jani_translation_laws.proofs.Entries.{new_has, known_name as some_name}
use Rattle.jani_translation_laws.proofs.Form.{each_only, each_numbered}
use Rattle.jani_translation.proofs.Each.{n_entries}
use Rattle.jani_translation.proofs.Fresh.{enough}
use Rattle.prism_tree.specs.declared.operator.PrismOp.{PrismOp}
use Rattle.prism_tree.specs.declared.operator.PrismOp.TheVariants as O
use Rattle.prism_check.specs.Flattened.{IsFlat}
use Rattle.jani_translation_laws.proofs.Actions.{IsAction, HasAction, actions_among, actions_of_commands}

-- ---- expressions

operands : (e : prism.Expression) → IsPrintableExpression e → HasItsOperands e
operands (Truth at b) p = tt
operands (Number at d) p = tt
operands (At at x) p = tt
operands (One at o a) p = (p.0, operands a p.1)
operands (Two at o a b) p = (p.0, operands a p.1, operands b p.2)
operands (Three at o a b c) p = (p.0, operands a p.1, operands b p.2, operands c p.3)

nought_form : (P : Name → Type 0) → ExprForm P nought
nought_form P = refl

module _ (P : Name → Type 0) where
  named_form : (e : Expression) → ExprForm HasItems e → AllNames P e → ExprForm P e
  named_form (Truth at b) f n = tt
  named_form (Number at d) f n = f
  named_form (At at x) f n = n
  named_form (One at o a) f n = (f.0, named_form a f.1 n)
  named_form (Two at o a b) f n = (f.0, named_form a f.1 n.0, named_form b f.2 n.1)
  named_form (Three at o a b c) f n = (f.0, named_form a f.1 n.0, named_form b f.2 n.1, named_form c f.3 n.2)

  one_names : (at : ℕ) (o : PrismOp) (a : Expression) → AllNames P a → AllNames P (image_one at o a)
  one_names at O.Neg a h = (tt, h)
  one_names at o a h = h

  image_names : (new : Name → Name) (e : prism.Expression) → AllNames (λ x. P (new x)) e → AllNames P (image new e)
  image_names new (Truth at b) n = tt
  image_names new (Number at d) n = tt
  image_names new (At at x) n = n
  image_names new (One at o a) n = one_names at o (image new a) (image_names new a n)
  image_names new (Two at o a b) n = (image_names new a n.0, image_names new b n.1)
  image_names new (Three at o a b c) n = (image_names new a n.0, image_names new b n.1, image_names new c n.2)

-- ---- a file, under its new names
module _ (P : Name → Type 0) (file : prism.File) (all : Each (λ e. P e.name) (entries file)) (loc_name : P loc.name) (silent_name : P zz_silent.name) (monitor_name : P zz_monitor.name) where
  abbrev names : NewNames
  names = new_names file

  abbrev HasName : Entry → Type 0
  HasName e = P e.name

  names_from : (at n : ℕ) → Each HasName (some_from at n (entries file))
  names_from at n = each_take HasName n (drop at (entries file)) (each_drop HasName at (entries file) all)

  known_name : (x : Name) → IsKnown file x → P (names.value x)
  known_name x k = new_has P (value_names file) (entries file) x (enough file) k all

  action_name : (x : Name) → IsAction file x → P (names.action x)
  action_name x k =
      let n = n_entries file in
      let d = length-drop (actions_at file (entries file)) (entries file) in
      new_has P (actions file) (drop (actions_at file (entries file)) (entries file)) x (omega arith) k (each_drop HasName (actions_at file (entries file)) (entries file) all)

  form : (e : prism.Expression) → Good file e → ExprForm P (image names.value e)
  form e g =
      let some = names_then (IsKnown file) (λ x. HasItems (names.value x)) (λ x k. some_name file x k) e g.1 in
      let own_names = names_then (IsKnown file) (λ x. P (names.value x)) (λ x k. known_name x k) e g.1 in
      named_form P (image names.value e) (form_kept names.value e (operands e g.0) (literals e g.0) some) (image_names P names.value e own_names)

  forms : (o : Option prism.Expression) → IfAny (Good file) o → IfAny (ExprForm P) (option_map (image names.value) o)
  forms o g = any_map (Good file) (ExprForm P) (image names.value) form o g

  -- ---- constants and variables
  constant_read : (c : prism.Const) (e : Entry) → GoodConst file c → HasName e → (ConstRead P) (constant names.value c e)
  constant_read c e g n = record { name = n; value = forms c.value g }

  kind_form : (r : Option prism.Range) → IfAny (GoodRange file) r → (KindForm P) (kind_of names.value r)
  kind_form None g = tt
  kind_form (Some r) g = (form r.low g.0, form r.high g.1)

  start_form : (s : Option prism.Expression) (r : Option prism.Range) → IfAny (Good file) s → IfAny (GoodRange file) r → (ExprForm P) (start_of names.value s r)
  start_form (Some e) r g h = form e g
  start_form None (Some r) g h = form r.low h.0
  start_form None None g h = tt

  variable_read : (x : prism.Var) (e : Entry) → GoodVar file x → HasName e → (VarRead P) (variable names.value (has_condition file) x e)
  variable_read x e g n = record { name = n; kind = kind_form x.range g.0; start = under_form (has_condition file) (start_form x.start x.range g.1 g.0); begins = λ t. absurd cc }
    where
      under_form : (any : Bool) → ExprForm P (start_of names.value x.start x.range) → IfAny (ExprForm P) (start_under names.value any x.start x.range)
      under_form true h = tt
      under_form false h = h

  label_read : (l : prism.Label) (e : Entry) → HasName e → (VarRead P) (label l e)
  label_read l e n = record { name = n; kind = tt; start = tt; begins = λ t. tt }

  instead_name : (o : Option Named) (x : Name) → P x → (NameForm P) (instead_if o x)
  instead_name None x n = n
  instead_name (Some m) x n = n

  structure_read : (r : prism.Rewards) (e : Entry) → HasName e → (VarRead P) (structure r e)
  structure_read r e n = record { name = instead_name r.name e.name n; kind = tt; start = nought_form P; begins = λ t. tt }

  -- ---- rewards
  item_form : (i : prism.Item) → GoodItem file i → (ExprForm P) (item_value names i)
  item_form i g = (refl, form i.guard g.0, form i.value g.1, nought_form P)

  sum_form : (e : Expression) (is : List prism.Item) → (ExprForm P) e → Each (GoodItem file) is → (ExprForm P) (sum_behind names e is)
  sum_form e [] h g = h
  sum_form e (i ∷ is) h g = sum_form (Two 0 Add e (item_value names i)) is (refl, h, item_form i g.0) g.1

  sum_read : (x : Named) (is : List prism.Item) → (NameForm P) x → Each (GoodItem file) is → Each (WriteRead P) (sum_to names x is)
  sum_read x [] n g = tt
  sum_read x (i ∷ is) n g = (record { target = n; value = sum_form (item_value names i) is (item_form i g.0) g.1 }, tt)

  reward_read : (wanted : ItemOn → Bool) (r : prism.Rewards) (e : Entry) → GoodRewards file r → HasName e → Each (WriteRead P) (reward_of names wanted r e)
  reward_read wanted r e g n =
      sum_read (instead_if r.name e.name) (filter (λ i. wanted i.on) r.items) (instead_name r.name e.name n) (each_filter (GoodItem file) (λ i. wanted i.on) r.items g)

  rewards_read : (wanted : ItemOn → Bool) → Each (GoodRewards file) file.rewards → Each (WriteRead P) (rewards_of names wanted file.rewards)
  rewards_read wanted g =
      each_flat (λ p. GoodRewards file p.0 × HasName p.1) (WriteRead P) (λ p. reward_of names wanted p.0 p.1) (λ p h. reward_read wanted p.0 p.1 h.0 h.1)
      (zip file.rewards names.rewards)
      (each_zip (GoodRewards file) HasName file.rewards names.rewards g (names_from (rewards_at file (entries file)) (length file.rewards)))

  values_read : Each (GoodLabel file) file.labels → Each (GoodRewards file) file.rewards → Each (WriteRead P) (location_values names file)
  values_read ls rs =
      each_join (WriteRead P) (map (λ p. label_value names p.0 p.1) (zip file.labels names.labels)) (rewards_of names for_states file.rewards)
      (each_map (λ p. GoodLabel file p.0 × HasName p.1) (WriteRead P) (λ p. label_value names p.0 p.1) (λ p h. record { target = h.1; value = form (p.0).body h.0 })
      (zip file.labels names.labels)
      (each_zip (GoodLabel file) HasName file.labels names.labels ls (names_from (labels_at file (entries file)) (length file.labels))))
      (rewards_read for_states rs)

  -- ---- commands
  write_read : (w : prism.Write) → GoodWrite file w → (WriteRead P) (write names w)
  write_read w g = record { target = known_name w.name.name g.0; value = form w.value g.1 }

  destination_read : (b : prism.Branch) → GoodBranch file b → (DestinationRead P) (destination names b)
  destination_read b g = record {
    location = loc_name;
    weight = forms b.weight g.0;
    writes = each_map (GoodWrite file) (WriteRead P) (write names) write_read b.writes g.1;
  }

  some_branch : (bs : List prism.Branch) → AreBranches bs → HasItems (map (destination names) bs)
  some_branch [] h = h
  some_branch (b ∷ bs) h = tt

  action_form : (silently : Bool) (o : Option Named) → IfAny (λ a. IsAction file a.name) o → IfAny (NameForm P) (edge_action names silently o)
  action_form true None h = silent_name
  action_form false None h = tt
  action_form silently (Some a) h = action_name a.name h

  edge_read : (silently : Bool) (c : prism.Command) → GoodCommand file c → HasAction file c → (EdgeRead P) (edge names silently c)
  edge_read silently c g a = record {
    location = loc_name;
    action = action_form silently c.action a;
    guard = form c.guard g.0;
    destinations = each_map (GoodBranch file) (DestinationRead P) (destination names) destination_read c.branches g.2;
    some = some_branch c.branches g.1;
  }

  edges_read : (silently : Bool) (cs : List prism.Command) → Each (GoodCommand file) cs → Each (HasAction file) cs → Each (EdgeRead P) (map (edge names silently) cs)
  edges_read silently [] g a = tt
  edges_read silently (c ∷ cs) g a = (edge_read silently c g.0 a.0, edges_read silently cs g.1 a.1)

  -- ---- automata
  automaton_read : (x : Named) (ws : List Write) (es : List Edge) → (NameForm P) x → Each (WriteRead P) ws → Each (EdgeRead P) es → (AutomatonRead P) (automaton names x ws es)
  automaton_read x ws es n w e = record {
    name = n;
    variables = tt;
    locations = (record { name = loc_name; values = w }, tt);
    initial = (loc_name, tt);
    begins = tt;
    edges = e;
  }

  modules_read : (silently : Bool) (ws : List Write) (ms : List prism.Body) (es : List Entry) → Each (WriteRead P) ws → Each (GoodBody file) ms →
      Each (λ m. Each (HasAction file) m.commands) ms → Each HasName es → Each (AutomatonRead P) (module_automata names silently ws ms es)
  modules_read silently ws [] es w g a n = tt
  modules_read silently ws (m ∷ ms) [] w g a n = tt
  modules_read silently ws (m ∷ ms) (e ∷ es) w g a n = (
    automaton_read (instead m.name e.name) ws (map (edge names silently) m.commands) n.0 w (edges_read silently m.commands g.0.1 a.0),
    modules_read silently [] ms es tt g.1 a.1 n.1,
  )

  -- ---- the monitor
  monitor_edge_read : Each (GoodRewards file) file.rewards → (a : Named) (wanted : ItemOn → Bool) → (NameForm P) a → (EdgeRead P) (monitor_edge names file a wanted)
  monitor_edge_read g a wanted n = record {
    location = loc_name;
    action = n;
    guard = tt;
    destinations = (record { location = loc_name; weight = tt; writes = rewards_read wanted g }, tt);
    some = tt;
  }

  monitor_edges_read : Each (GoodRewards file) file.rewards → Each (EdgeRead P) (monitor_edges names file)
  monitor_edges_read g =
      each_join (EdgeRead P) (map (λ a. monitor_edge names file (made (names.action a)) (for_action a)) (earning_actions file))
      (only_if (earns_silently file) (monitor_edge names file zz_silent for_silent))
      (each_map (IsAction file) (EdgeRead P) (λ a. monitor_edge names file (made (names.action a)) (for_action a))
      (λ a h. monitor_edge_read g (made (names.action a)) (for_action a) (action_name a h)) (earning_actions file)
      (each_filter (IsAction file) (λ a. has_items (for_action a) file) (actions file) (actions_among file)))
      (each_only (EdgeRead P) (earns_silently file) (monitor_edge names file zz_silent for_silent) (monitor_edge_read g zz_silent for_silent silent_name))

  automata_read : IsGood file → Each (AutomatonRead P) (automata names file)
  automata_read g =
      each_join (AutomatonRead P) (module_automata names (earns_silently file) (location_values names file) (bodies file) names.modules) (monitor names file)
      (modules_read (earns_silently file) (location_values names file) (bodies file) names.modules (values_read g.labels g.rewards) g.bodies (actions_of_commands file)
      (names_from (modules_at file (entries file)) (length file.modules)))
      (each_only (AutomatonRead P) (has_monitor file) (automaton names zz_monitor [] (monitor_edges names file))
      (automaton_read zz_monitor [] (monitor_edges names file) monitor_name tt (monitor_edges_read g.rewards)))

  -- ---- vectors
  part_form : (b : Bool) (a : Named) → (NameForm P) a → (PartForm P) (part_if b a)
  part_form true a n = n
  part_form false a n = tt

  silent_read : (i : ℕ) → (VectorRead P) (silent_vector file i)
  silent_read i = record {
    parts =
        (each_join (PartForm P) (numbered (λ k m. part_if (nat_eq i k) zz_silent ∷ []) 0 (bodies file)) (Some zz_silent ∷ [])
        (each_numbered (PartForm P) (λ k m. part_if (nat_eq i k) zz_silent ∷ []) (λ k m. (part_form (nat_eq i k) zz_silent silent_name, tt)) 0 (bodies file))
        (silent_name, tt));
    result = tt;
  }

  silents_read : Each (VectorRead P) (silent_vectors file)
  silents_read =
      each_numbered (VectorRead P) (λ i m. only_if (has_silent m) (silent_vector file i))
      (λ i m. each_only (VectorRead P) (has_silent m) (silent_vector file i) (silent_read i)) 0 (bodies file)

  action_read : (a : Name) → IsAction file a → (VectorRead P) (action_vector names file a)
  action_read a h =
      let n = action_name a h in
      record {
        parts =
            (each_join (PartForm P) (map (λ m. part_if (has_command a m) (made (names.action a))) (bodies file))
            (only_if (has_monitor file) (part_if (has_items (for_action a) file) (made (names.action a))))
            (each_any (PartForm P) (λ m. part_if (has_command a m) (made (names.action a))) (λ m. part_form (has_command a m) (made (names.action a)) n) (bodies file))
            (each_only (PartForm P) (has_monitor file) (part_if (has_items (for_action a) file) (made (names.action a)))
            (part_form (has_items (for_action a) file) (made (names.action a)) n)));
        result = n;
      }

  silents_if : (b : Bool) → Each (VectorRead P) (if b then silent_vectors file else [])
  silents_if true = silents_read
  silents_if false = tt

  vectors_read : Each (VectorRead P) (vectors names file)
  vectors_read =
      each_join (VectorRead P) (map (action_vector names file) (actions file)) (if earns_silently file then silent_vectors file else [])
      (each_map (IsAction file) (VectorRead P) (action_vector names file) action_read (actions file) (actions_among file)) (silents_if (earns_silently file))

  -- ---- lists of the file
  actions_form : Each (NameForm P) (jani_actions names file)
  actions_form =
      each_join (NameForm P) (map (λ a. made (names.action a)) (actions file)) (only_if (earns_silently file) zz_silent)
      (each_map (IsAction file) (NameForm P) (λ a. made (names.action a)) (λ a h. action_name a h) (actions file) (actions_among file))
      (each_only (NameForm P) (earns_silently file) zz_silent silent_name)

  constants_read : Each (GoodConst file) file.constants → Each (ConstRead P) (map (λ p. constant names.value p.0 p.1) (zip file.constants names.constants))
  constants_read g =
      each_map (λ p. GoodConst file p.0 × HasName p.1) (ConstRead P) (λ p. constant names.value p.0 p.1) (λ p h. constant_read p.0 p.1 h.0 h.1) (zip file.constants names.constants)
      (each_zip (GoodConst file) HasName file.constants names.constants g (names_from 0 (length file.constants)))

  variables_read : IsGood file → Each (VarRead P) (global_variables names file)
  variables_read g =
      let vs = map (λ p. variable names.value (has_condition file) p.0 p.1) (zip (variables file) names.variables) in
      let ls = map (λ p. label p.0 p.1) (zip file.labels names.labels) in
      let rs = map (λ p. structure p.0 p.1) (zip file.rewards names.rewards) in
      each_join (VarRead P) vs (ls ++ rs)
      (each_map (λ p. GoodVar file p.0 × HasName p.1) (VarRead P) (λ p. variable names.value (has_condition file) p.0 p.1) (λ p h. variable_read p.0 p.1 h.0 h.1) (zip (variables file) names.variables)
      (each_zip (GoodVar file) HasName (variables file) names.variables g.variables (names_from (length file.constants) (length (variables file)))))
      (each_join (VarRead P) ls rs
      (each_map (λ p. GoodLabel file p.0 × HasName p.1) (VarRead P) (λ p. label p.0 p.1) (λ p h. label_read p.0 p.1 h.1) (zip file.labels names.labels)
      (each_zip (GoodLabel file) HasName file.labels names.labels g.labels (names_from (labels_at file (entries file)) (length file.labels))))
      (each_map (λ p. GoodRewards file p.0 × HasName p.1) (VarRead P) (λ p. structure p.0 p.1) (λ p h. structure_read p.0 p.1 h.1) (zip file.rewards names.rewards)
      (each_zip (GoodRewards file) HasName file.rewards names.rewards g.rewards (names_from (rewards_at file (entries file)) (length file.rewards)))))

  -- the condition isn't the literal true
  restriction_read : (o : Option prism.Expression) → IfAny (Good file) o → IfAny (RestrictionRead P) (restriction names.value o)
  restriction_read None g = tt
  restriction_read (Some e) g = by_always (is_always (image names.value e)) refl
    where
      by_always : (b : Bool) → is_always (image names.value e) ≡ b → IfAny (RestrictionRead P) (if b then None else Some (image names.value e))
      by_always true h = tt
      by_always false h = record { expression = form e g; restricts = h }

  elements_form : (as_ : List Automaton) → Each (AutomatonRead P) as_ → Each (ElementRead P) (map (λ a. plain_element a.name) as_)
  elements_form as_ h = each_map (AutomatonRead P) (ElementRead P) (λ a. plain_element a.name) (λ a r. record { name = r.name; enable = tt }) as_ h

  pub named_as : IsFlat file → FileWith P (translated file)
  named_as flat =
      let g = is_good file flat in
      let as_ = automata_read g in
      record {
        actions = actions_form;
        constants = constants_read g.constants;
        variables = variables_read g;
        restrict = restriction_read file.init g.init;
        automata = as_;
        elements = elements_form (translated file).automata as_;
        vectors = vectors_read;
        properties = tt;
      }
