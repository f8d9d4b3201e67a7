-- What a JANI file means does not depend on the places that its tree keeps.
use Rattle.std.specs.Prelude.{◌≡◌, ℕ, zero, suc, ◌+◌, ◌-◌, List, [], ◌∷◌, ◌++◌, map, length, Bool, not, ◌&&◌, Option, Some, None, unwrap_or, slice_get, if◌then◌else◌, true, false, ◌||◌, is_none}
use Rattle.std.specs.List.{find, filter, flat_map, list_any}
use Rattle.std.specs.Option.{option_map, option_or}
use Rattle.std.proofs.Common.{refl, sym, ap, ap₂, ◌∙◌}
use Rattle.std.proofs.lemmas.List.{length-map, map-append}
use Rattle.std.proofs.lemmas.List.Folds.{flat_map-map}
use Rattle.std.proofs.Math.Path.{fun_ext}
use Rattle.basics.specs.Lists.{map_agree}
use Rattle.bridge_io.specs.declared.reason.Named.{Named}
use Rattle.op_trees.specs.Seen.{Seen, known}
use Rattle.op_trees.specs.SeenLaws.{seen-bare}
use Rattle.op_trees.specs.Tree.{One, Two, bare}
use Rattle.jani_tree.specs.JaniOp.TheVariants.{Not, Or}
use Rattle.jani_tree.specs.Laws.{element_names-bare}
use Rattle.op_trees.specs.declared.tree.Value.{Value}
use Rattle.op_trees.specs.declared.tree.Value.TheVariants as V
use Rattle.process_core.specs.Product.{map-map, flat_map_agree}
use Rattle.basics.specs.Options.{if_some, is_some-map}
use Rattle.process_core.specs.Ready.{Values, Name, Write, Reward, Update, Ready, Vector}
use Rattle.jani_tree.specs.Operators.{jani_meaning}
use Rattle.jani_tree.specs.Syntax.{Expression, Const, VarKind, boolean, integer, number, real_bounded, one_sided, bounded, Var, Location, Destination, Edge, Automaton, File, element_names}
use Rattle.jani_tree.specs.Syntax as syntax
use Rattle.op_trees.specs.Names.{bare_name, is_called}
use Rattle.jani_tree.specs.Places.{bare_const, bare_kind, bare_var, bare_write, bare_location, bare_destination, bare_edge, bare_automaton, bare_vector, bare_part, bare_element, bare_file}
use Rattle.process_core.specs.Instance.{Valuation, Between, numbered, models_alike}
use Rattle.basics.specs.Mapped.{any_mapped, found_mapped, kept_mapped, position_mapped}
use Rattle.jani_meaning.specs.Loops.{either, has_name, is_with, loop_at, loops, none_of, or_true, with_loops}
use Rattle.jani_meaning.specs.Elements.{nothing_called, automaton_called, element_automaton, elements, location_number, first_number, initial_number, Owned, owned_by, variables, is_boolean, is_lasting, lasting, is_label, labels, is_structure, structures, is_own, is_global, place_of, column_number, structure_number, is_several, has_several_starts}
use Rattle.jani_meaning.specs.Scene.{see, counted, constant_called, constant_seen, constant_value, constant_within, constant, constant_names, location_column, domain_of, start_of, column, columns_of, scene, first_location, first_of, begins_anywhere, has_condition}
use Rattle.jani_meaning.specs.Moment.{Moment, value_in, names_in, is_number, is_current, current_location, guard_seen, weight_seen, location_write, column_write, reward_of, write_at, reward_at, update_at, edge_at, element_at, given_in, given_at, may_give, given_to, first_or, transient_at, vector_of, moment, is_among, begin_here, restriction_seen, condition_at}
use Rattle.jani_meaning.specs.Process.{choices, marks, model}
use Rattle.jani_meaning.specs.Laws.{PlacesMeanNothing}

-- ---- lists that are numbered
pub numbered_mapped : {A B C : Type 0} (f : A → B) (g : ℕ → B → List C) (k : ℕ → A → List C) → ((i : ℕ) (x : A) → g i (f x) ≡ k i x) → (i : ℕ) (xs : List A) →
    numbered g i (map f xs) ≡ numbered k i xs
numbered_mapped f g k h i [] = refl
numbered_mapped f g k h i (x ∷ xs) = ap₂ (λ a b. a ++ b) (h i x) (numbered_mapped f g k h (i + 1) xs)

pub mapped_numbered : {A B C : Type 0} (f : B → C) (k : ℕ → A → List B) (i : ℕ) (xs : List A) → map f (numbered k i xs) ≡ numbered (λ i x. map f (k i x)) i xs
mapped_numbered f k i [] = refl
mapped_numbered f k i (x ∷ xs) = map-append f (k i x) (numbered k (i + 1) xs) ∙ ap (λ r. map f (k i x) ++ r) (mapped_numbered f k (i + 1) xs)

-- ---- expressions
see-bare : (e : Expression) (names : Name → Seen) → see (bare e) names ≡ see e names
unfolding see
see-bare e names = seen-bare jani_meaning e names

-- ---- elements
abbrev pub bare_owned : Owned → Owned
bare_owned o = record { owner = o.owner; var = bare_var o.var }

number-bare : (a : Automaton) (x : Name) → location_number (bare_automaton a) x ≡ location_number a x
number-bare a x = ap (λ o. unwrap_or o 0) (position_mapped bare_location (λ l. is_called x l.name) (λ l. is_called x l.name) (λ l. refl) a.locations)

initial-bare : (a : Automaton) → initial_number (bare_automaton a) ≡ initial_number a
initial-bare a = of_list a.initial
  where
    of_list : (ns : List Named) → first_number (bare_automaton a) (map bare_name ns) ≡ first_number a ns
    of_list [] = refl
    of_list (n ∷ ns) = number-bare a n.name

several-bare : (a : Automaton) → has_several_starts (bare_automaton a) ≡ has_several_starts a
several-bare a = of_list a.initial
  where
    of_list : (ns : List Named) → is_several (map bare_name ns) ≡ is_several ns
    of_list [] = refl
    of_list (n ∷ []) = refl
    of_list (n ∷ m ∷ ns) = refl

first_location-bare : (a : Automaton) (b : Bool) → first_location (bare_automaton a) b ≡ first_location a b
first_location-bare a true = refl
first_location-bare a false = ap (λ i. Some (counted i)) (initial-bare a)

location-bare : (a : Automaton) → location_column (bare_automaton a) ≡ location_column a
location-bare a =
    ap₂ (λ n f. record { name = a.name.name; domain = Between (counted 0) (counted (n - 1)); first = f })
    (length-map a.locations bare_location) (ap (first_location (bare_automaton a)) (several-bare a) ∙ first_location-bare a (has_several_starts a))

boolean-bare : (k : VarKind) → is_boolean (bare_kind k) ≡ is_boolean k
boolean-bare boolean = refl
boolean-bare integer = refl
boolean-bare number = refl
boolean-bare real_bounded = refl
boolean-bare one_sided = refl
boolean-bare (bounded low high) = refl

owned-bare : (owner : Option ℕ) (xs : List Var) → owned_by owner (map bare_var xs) ≡ map bare_owned (owned_by owner xs)
owned-bare owner xs =
    map-map (λ x. record { owner = owner; var = x }) bare_var xs ∙ sym (map-map bare_owned (λ x. record { owner = owner; var = x }) xs)

place_of-bare : (vars : List Owned) (i : ℕ) (x : Name) → place_of (map bare_owned vars) i x ≡ place_of vars i x
place_of-bare vars i x =
    ap₂ option_or (position_mapped bare_owned (is_own i x) (is_own i x) (λ o. refl) vars) (position_mapped bare_owned (is_global x) (is_global x) (λ o. refl) vars)

-- ---- loops
either-bare : (g : Expression) (gs : List Expression) → either (bare g) (map bare gs) ≡ bare (either g gs)
either-bare g [] = refl
either-bare g (h ∷ hs) = either-bare (Two 0 Or g h) hs

none_of-bare : (gs : List Expression) → none_of (map bare gs) ≡ option_map bare (none_of gs)
none_of-bare [] = refl
none_of-bare (g ∷ gs) = ap (λ e. Some (One 0 Not e)) (either-bare g gs)

or_true-bare : (o : Option Expression) → or_true (option_map bare o) ≡ bare (or_true o)
or_true-bare None = refl
or_true-bare (Some g) = refl

has_name-bare : (x : Name) (o : Option Named) → has_name x (option_map bare_name o) ≡ has_name x o
has_name-bare x None = refl
has_name-bare x (Some n) = refl

loop_guard-bare : (a : Automaton) (x : Named) (l : Location) → (loop_at (bare_automaton a) (bare_name x) (bare_location l)).guard ≡ option_map bare (loop_at a x l).guard
loop_guard-bare a x l =
    let these = filter (is_with x.name l.name.name) a.edges in
    ap (λ es. none_of (map (λ e. or_true e.guard) es))
    (kept_mapped bare_edge (is_with x.name l.name.name) (is_with x.name l.name.name) (λ e. ap (λ b. b && is_called l.name.name e.location) (has_name-bare x.name e.action)) a.edges)
    ∙ ap none_of (map-map (λ e. or_true e.guard) bare_edge these ∙ map_agree _ _ (λ e. or_true-bare e.guard) these ∙ sym (map-map bare (λ e. or_true e.guard) these))
    ∙ none_of-bare (map (λ e. or_true e.guard) these)

loop-bare : (a : Automaton) (x : Named) (l : Location) → loop_at (bare_automaton a) (bare_name x) (bare_location l) ≡ bare_edge (loop_at a x l)
loop-bare a x l =
    ap (λ g. record { location = bare_name l.name; action = Some (bare_name x); guard = g; destinations = record { location = bare_name l.name; weight = None; writes = [] } ∷ []; at = 0 })
    (loop_guard-bare a x l)

loops-bare : (xs : List Named) (a : Automaton) → loops (map bare_name xs) (bare_automaton a) ≡ map bare_edge (loops xs a)
loops-bare [] a = refl
loops-bare (x ∷ xs) a =
    ap₂ (λ p q. p ++ q)
    (map-map (loop_at (bare_automaton a) (bare_name x)) bare_location a.locations ∙ map_agree _ _ (loop-bare a x) a.locations ∙ sym (map-map bare_edge (loop_at a x) a.locations))
    (loops-bare xs a)
    ∙ sym (map-append bare_edge (map (loop_at a x) a.locations) (loops xs a))

with_loops-bare : (xs : List Named) (a : Automaton) → with_loops (map bare_name xs) (bare_automaton a) ≡ bare_automaton (with_loops xs a)
with_loops-bare [] a = refl
with_loops-bare (x ∷ xs) a =
    ap (λ es. record { name = bare_name a.name; variables = map bare_var a.variables; locations = map bare_location a.locations; initial = map bare_name a.initial; edges = es })
    (ap (λ r. map bare_edge a.edges ++ r) (loops-bare (x ∷ xs) a) ∙ sym (map-append bare_edge a.edges (loops (x ∷ xs) a)))

module _ (file : File) where
  called-bare : (n : Named) → automaton_called (bare_file file) (bare_name n) ≡ bare_automaton (automaton_called file n)
  called-bare n =
      ap (λ o. unwrap_or o (nothing_called (bare_name n)))
      (found_mapped bare_automaton (λ a. is_called n.name a.name) (λ a. is_called n.name a.name) (λ a. refl) file.automata)
      ∙ of_found (find (λ a. is_called n.name a.name) file.automata)
    where
      of_found : (o : Option Automaton) → unwrap_or (option_map bare_automaton o) (nothing_called (bare_name n)) ≡ bare_automaton (unwrap_or o (nothing_called n))
      of_found None = refl
      of_found (Some a) = refl

  elements-bare : elements (bare_file file) ≡ map bare_automaton (elements file)
  elements-bare =
      map-map (element_automaton (bare_file file)) bare_element file.elements
      ∙ map_agree _ _ (λ e. ap (with_loops (map bare_name e.enable)) (called-bare e.name) ∙ with_loops-bare e.enable (automaton_called file e.name)) file.elements
      ∙ sym (map-map bare_automaton (element_automaton file) file.elements)

  names_count-bare : length (element_names (bare_file file)) ≡ length (element_names file)
  names_count-bare = ap length (element_names-bare file) ∙ length-map (element_names file) bare_name

  -- what is gathered from the elements
  gathered-bare : {C : Type 0} (g k : ℕ → Automaton → List C) → ((i : ℕ) (a : Automaton) → g i (bare_automaton a) ≡ k i a) →
      numbered g 0 (elements (bare_file file)) ≡ numbered k 0 (elements file)
  gathered-bare g k h = ap (numbered g 0) elements-bare ∙ numbered_mapped bare_automaton g k h 0 (elements file)

  variables-bare : variables (bare_file file) ≡ map bare_owned (variables file)
  variables-bare =
      ap₂ (λ a b. a ++ b) (owned-bare None file.variables)
      (gathered-bare (λ i a. owned_by (Some i) a.variables) (λ i a. map bare_owned (owned_by (Some i) a.variables)) (λ i a. owned-bare (Some i) a.variables)
      ∙ sym (mapped_numbered bare_owned (λ i a. owned_by (Some i) a.variables) 0 (elements file)))
      ∙ sym (map-append bare_owned (owned_by None file.variables) (numbered (λ i a. owned_by (Some i) a.variables) 0 (elements file)))

  chosen-bare : (p : Owned → Bool) → ((o : Owned) → p (bare_owned o) ≡ p o) → filter p (variables (bare_file file)) ≡ map bare_owned (filter p (variables file))
  chosen-bare p h = ap (filter p) variables-bare ∙ kept_mapped bare_owned p p h (variables file)

  pub lasting-bare : lasting (bare_file file) ≡ map bare_owned (lasting file)
  lasting-bare = chosen-bare is_lasting (λ o. refl)

  pub labels-bare : labels (bare_file file) ≡ map bare_owned (labels file)
  labels-bare = chosen-bare is_label (λ o. ap (λ b. o.var.transient && b) (boolean-bare o.var.kind))

  pub structures-bare : structures (bare_file file) ≡ map bare_owned (structures file)
  structures-bare = chosen-bare is_structure (λ o. ap (λ b. o.var.transient && not b) (boolean-bare o.var.kind))

  column_number-bare : (i : ℕ) (x : Name) → column_number (bare_file file) i x ≡ column_number file i x
  column_number-bare i x =
      ap₂ (λ n o. option_map (λ k. n + k) o) names_count-bare
      (ap (λ vars. place_of vars i x) lasting-bare ∙ place_of-bare (lasting file) i x)

  structure_number-bare : (i : ℕ) (x : Name) → structure_number (bare_file file) i x ≡ structure_number file i x
  structure_number-bare i x = ap (λ vars. place_of vars i x) structures-bare ∙ place_of-bare (structures file) i x

-- ---- constants
constant_seen-bare : (given : Option Value) (names : Name → Seen) (e : Option Expression) → constant_seen given names (option_map bare e) ≡ constant_seen given names e
constant_seen-bare given names None = refl
constant_seen-bare given names (Some e) = see-bare e names

constant_value-bare : (given : Option Value) (names : Name → Seen) (c : Option Const) → constant_value given names (option_map bare_const c) ≡ constant_value given names c
constant_value-bare given names None = refl
constant_value-bare given names (Some c) = ap (λ s. s.value) (constant_seen-bare given names c.value)

-- ---- columns
domain-bare : (names : Name → Seen) (k : VarKind) → domain_of names (bare_kind k) ≡ domain_of names k
domain-bare names boolean = refl
domain-bare names integer = refl
domain-bare names number = refl
domain-bare names real_bounded = refl
domain-bare names one_sided = refl
domain-bare names (bounded low high) = ap₂ Between (see-bare low names) (see-bare high names)

start-bare : (names : Name → Seen) (e : Option Expression) → start_of names (option_map bare e) ≡ start_of names e
start-bare names None = refl
start-bare names (Some e) = see-bare e names

first-bare : (names : Name → Seen) (e : Option Expression) → first_of names (option_map bare e) ≡ first_of names e
first-bare names None = refl
first-bare names (Some e) = ap Some (see-bare e names)

column-bare : (names : Name → Seen) (x : Var) → column names (bare_var x) ≡ column names x
column-bare names x = ap₂ (λ d f. record { name = x.name.name; domain = d; first = f }) (domain-bare names x.kind) (first-bare names x.start)

module _ (file : File) (v : Valuation) where
  called_const-bare : (x : Name) → constant_called (bare_file file) x ≡ option_map bare_const (constant_called file x)
  called_const-bare x = found_mapped bare_const (λ c. is_called x c.name) (λ c. is_called x c.name) (λ c. refl) file.constants

  within-bare : (n : ℕ) (x : Name) → constant_within (bare_file file) v n x ≡ constant_within file v n x
  within-bare zero x = refl
  within-bare (suc n) x =
      ap (constant_value (v x) (λ y. known (constant_within (bare_file file) v n y))) (called_const-bare x)
      ∙ constant_value-bare (v x) (λ y. known (constant_within (bare_file file) v n y)) (constant_called file x)
      ∙ ap (λ k. constant_value (v x) (λ y. known (k y)) (constant_called file x)) (fun_ext (within-bare n))

  constant-bare : constant (bare_file file) v ≡ constant file v
  constant-bare = fun_ext (λ x. ap (λ n. constant_within (bare_file file) v n x) (length-map file.constants bare_const) ∙ within-bare (length file.constants) x)

  names-bare : constant_names (bare_file file) v ≡ constant_names file v
  names-bare = ap (λ k x. known (k x)) constant-bare

  columns-bare : columns_of (bare_file file) v ≡ columns_of file v
  columns-bare =
      ap₂ (λ a b. a ++ b)
      (ap (map location_column) (elements-bare file) ∙ map-map location_column bare_automaton (elements file) ∙ map_agree _ _ location-bare (elements file))
      (ap (map (λ o. column (constant_names (bare_file file) v) o.var)) (lasting-bare file)
      ∙ map-map (λ o. column (constant_names (bare_file file) v) o.var) bare_owned (lasting file)
      ∙ map_agree _ _ (λ o. column-bare (constant_names (bare_file file) v) o.var) (lasting file)
      ∙ ap (λ names. map (λ o. column names o.var) (lasting file)) names-bare)

  none-bare : (o : Option Expression) → is_none (option_map bare o) ≡ is_none o
  none-bare None = refl
  none-bare (Some e) = refl

  has_condition-bare : has_condition (bare_file file) ≡ has_condition file
  has_condition-bare =
      ap₂ (λ a b. a || b) (is_some-map bare file.restrict)
      (ap₂ (λ a b. a || b)
      (ap (list_any has_several_starts) (elements-bare file) ∙ any_mapped bare_automaton has_several_starts has_several_starts several-bare (elements file))
      (ap (list_any begins_anywhere) (lasting-bare file) ∙ any_mapped bare_owned begins_anywhere begins_anywhere (λ o. none-bare o.var.start) (lasting file)))

  pub scene-bare : scene (bare_file file) v ≡ scene file v
  scene-bare =
      ap₂ (λ a b. record { constants = a; columns = b; has_condition = has_condition (bare_file file) })
      (map-map (λ c. constant_seen (v c.name.name) (constant_names (bare_file file) v) c.value) bare_const file.constants
      ∙ map_agree _ _ (λ c. constant_seen-bare (v c.name.name) (constant_names (bare_file file) v) c.value) file.constants
      ∙ ap (λ names. map (λ c. constant_seen (v c.name.name) names c.value) file.constants) names-bare)
      columns-bare
      ∙ ap (λ c. record { constants = (scene file v).constants; columns = columns_of file v; has_condition = c }) has_condition-bare

  -- ---- at a state
  module _ (s : Values) where
    state_names-bare : (i : ℕ) → names_in (bare_file file) v s i ≡ names_in file v s i
    state_names-bare i = fun_ext (λ x. ap₂ (λ k c. known (value_in s k (c x))) (column_number-bare file i x) constant-bare)

    current-bare : (i : ℕ) (a : Automaton) (x : Name) → is_current s i (bare_automaton a) x ≡ is_current s i a x
    current-bare i a x = ap (λ n. is_number n (slice_get s i)) (number-bare a x)

    location_at-bare : (i : ℕ) (a : Automaton) → current_location s i (bare_automaton a) ≡ option_map bare_location (current_location s i a)
    location_at-bare i a =
        found_mapped bare_location (λ l. is_current s i (bare_automaton a) l.name.name) (λ l. is_current s i a l.name.name) (λ l. current-bare i a l.name.name) a.locations

    value-bare : (i : ℕ) (e : Expression) → see (bare e) (names_in (bare_file file) v s i) ≡ see e (names_in file v s i)
    value-bare i e = see-bare e (names_in (bare_file file) v s i) ∙ ap (see e) (state_names-bare i)

    write_at-bare : (i : ℕ) (w : syntax.Write) → write_at (bare_file file) v s i (bare_write w) ≡ write_at file v s i w
    write_at-bare i w =
        ap₂ (λ cs k. column_write cs k (see (bare w.value) (names_in (bare_file file) v s i))) columns-bare (column_number-bare file i w.target.name)
        ∙ ap (column_write (columns_of file v) (column_number file i w.target.name)) (value-bare i w.value)

    reward_at-bare : (i : ℕ) (w : syntax.Write) → reward_at (bare_file file) v s i (bare_write w) ≡ reward_at file v s i w
    reward_at-bare i w = ap₂ reward_of (structure_number-bare file i w.target.name) (value-bare i w.value)

    guard-bare : (i : ℕ) (e : Option Expression) → guard_seen (names_in (bare_file file) v s i) (option_map bare e) ≡ guard_seen (names_in file v s i) e
    guard-bare i None = refl
    guard-bare i (Some e) = value-bare i e

    weight-bare : (i : ℕ) (e : Option Expression) → weight_seen (names_in (bare_file file) v s i) (option_map bare e) ≡ weight_seen (names_in file v s i) e
    weight-bare i None = refl
    weight-bare i (Some e) = value-bare i e

    writes-bare : {C : Type 0} (g k : syntax.Write → List C) → ((w : syntax.Write) → g (bare_write w) ≡ k w) → (ws : List syntax.Write) → flat_map g (map bare_write ws) ≡ flat_map k ws
    writes-bare g k h ws = flat_map-map g bare_write ws ∙ flat_map_agree _ _ h ws

    update-bare : (i : ℕ) (a : Automaton) (d : Destination) → update_at (bare_file file) v s i (bare_automaton a) (bare_destination d) ≡ update_at file v s i a d
    update-bare i a d =
        ap₂ {B = List Write → List Reward → Update} (λ n g. g (location_write i n ∷ flat_map (write_at (bare_file file) v s i) (map bare_write d.writes)) (flat_map (reward_at (bare_file file) v s i) (map bare_write d.writes)))
        (number-bare a d.location.name) (ap (λ w ws rs. record { weight = w; writes = ws; rewards = rs }) (weight-bare i d.weight))
        ∙ ap₂ (λ ws rs. record { weight = weight_seen (names_in file v s i) d.weight; writes = location_write i (location_number a d.location.name) ∷ ws; rewards = rs })
        (writes-bare _ _ (write_at-bare i) d.writes) (writes-bare _ _ (reward_at-bare i) d.writes)

    action-bare : (n : Option Named) → option_map (λ x. x.name) (option_map bare_name n) ≡ option_map (λ x. x.name) n
    action-bare None = refl
    action-bare (Some n) = refl

    edge-bare : (i : ℕ) (a : Automaton) (e : Edge) → edge_at (bare_file file) v s i (bare_automaton a) (bare_edge e) ≡ edge_at file v s i a e
    edge-bare i a e =
        ap₂ {B = Seen → List Update → Ready} (λ us g. g (guard_seen (names_in (bare_file file) v s i) (option_map bare e.guard)) us)
        (map-map (update_at (bare_file file) v s i (bare_automaton a)) bare_destination e.destinations ∙ map_agree _ _ (update-bare i a) e.destinations)
        (ap (λ n g us. record { action = n; guard = g; updates = us }) (action-bare e.action))
        ∙ ap (λ g. record { action = option_map (λ x. x.name) e.action; guard = g; updates = map (update_at file v s i a) e.destinations }) (guard-bare i e.guard)

    element-bare : (i : ℕ) (a : Automaton) → element_at (bare_file file) v s i (bare_automaton a) ≡ element_at file v s i a
    element-bare i a =
        ap (map (edge_at (bare_file file) v s i (bare_automaton a)))
        (kept_mapped bare_edge (λ e. is_current s i (bare_automaton a) e.location.name) (λ e. is_current s i a e.location.name) (λ e. current-bare i a e.location.name) a.edges)
        ∙ map-map (edge_at (bare_file file) v s i (bare_automaton a)) bare_edge (filter (λ e. is_current s i a e.location.name) a.edges)
        ∙ map_agree _ _ (edge-bare i a) (filter (λ e. is_current s i a e.location.name) a.edges)

    -- ---- transient variables
    given_in-bare : (x : Name) (l : Option Location) → given_in (bare_file file) v s x (option_map bare_location l) ≡ option_map bare_write (given_in file v s x l)
    given_in-bare x None = refl
    given_in-bare x (Some l) = found_mapped bare_write (λ w. is_called x w.target) (λ w. is_called x w.target) (λ w. refl) l.values

    seen_values : (i : ℕ) (o : Option syntax.Write) →
        map (λ w. see w.value (names_in (bare_file file) v s i)) (if_some (option_map bare_write o)) ≡ map (λ w. see w.value (names_in file v s i)) (if_some o)
    seen_values i None = refl
    seen_values i (Some w) = ap (λ x. x ∷ []) (value-bare i w.value)

    given_at-bare : (x : Name) (i : ℕ) (a : Automaton) → given_at (bare_file file) v s x i (bare_automaton a) ≡ given_at file v s x i a
    given_at-bare x i a =
        ap (λ o. map (λ w. see w.value (names_in (bare_file file) v s i)) (if_some o))
        (ap (given_in (bare_file file) v s x) (location_at-bare i a) ∙ given_in-bare x (current_location s i a))
        ∙ seen_values i (given_in file v s x (current_location s i a))

    given_to-bare : (o : Owned) (i : ℕ) (a : Automaton) → given_to (bare_file file) v s (bare_owned o) i (bare_automaton a) ≡ given_to file v s o i a
    given_to-bare o i a = ap (λ r. if may_give (bare_file file) v s i o.owner then r else []) (given_at-bare o.var.name.name i a)

    transient-bare : (o : Owned) → transient_at (bare_file file) v s (bare_owned o) ≡ transient_at file v s o
    transient-bare o =
        ap₂ (first_or file v s)
        (start-bare (constant_names (bare_file file) v) o.var.start ∙ ap (λ names. start_of names o.var.start) names-bare)
        (gathered-bare file (given_to (bare_file file) v s (bare_owned o)) (given_to file v s o) (given_to-bare o))

    transients-bare : (os ps : List Owned) → os ≡ map bare_owned ps → map (transient_at (bare_file file) v s) os ≡ map (transient_at file v s) ps
    transients-bare os ps e =
        ap (map (transient_at (bare_file file) v s)) e ∙ map-map (transient_at (bare_file file) v s) bare_owned ps ∙ map_agree _ _ transient-bare ps

    -- ---- vectors
    parts-bare : (p : Option Named) → option_map (λ x. x.name) (bare_part p) ≡ option_map (λ x. x.name) p
    parts-bare p = action-bare p

    vector-bare : (x : syntax.Vector) → vector_of (bare_vector x) ≡ vector_of x
    vector-bare x =
        ap₂ (λ ps r. record { parts = ps; result = r })
        (map-map (option_map (λ x. x.name)) bare_part x.parts ∙ map_agree _ _ parts-bare x.parts) (action-bare x.result)

    -- ---- the initial condition
    among-bare : (i : ℕ) (a : Automaton) (ns : List Named) → is_among s i (bare_automaton a) (map bare_name ns) ≡ is_among s i a ns
    among-bare i a ns = any_mapped bare_name (λ n. is_current s i (bare_automaton a) n.name) (λ n. is_current s i a n.name) (λ n. current-bare i a n.name) ns

    begin-bare : (i : ℕ) (as_ : List Automaton) → begin_here s i (map bare_automaton as_) ≡ begin_here s i as_
    begin-bare i [] = refl
    begin-bare i (a ∷ as_) = ap₂ (λ a b. a && b) (ap₂ (λ a b. not a || b) (several-bare a) (among-bare i a a.initial)) (begin-bare (i + 1) as_)

    restriction_seen-bare : (i : ℕ) (o : Option Expression) → restriction_seen (names_in (bare_file file) v s i) (option_map bare o) ≡ restriction_seen (names_in file v s i) o
    restriction_seen-bare i None = refl
    restriction_seen-bare i (Some e) = value-bare i e

    condition-bare : condition_at (bare_file file) v s ≡ condition_at file v s
    condition-bare =
        ap₂ (λ b c. if b then c else known (Some (V.Truth false))) (ap (begin_here s 0) (elements-bare file) ∙ begin-bare 0 (elements file))
        (ap (λ n. restriction_seen (names_in (bare_file file) v s n) (option_map bare file.restrict)) (names_count-bare file)
        ∙ restriction_seen-bare (length (element_names file)) file.restrict)

    pub moment-bare : moment (bare_file file) v s ≡ moment file v s
    moment-bare =
        ap₂ {B = List Vector → List Seen → List Seen → Moment} (λ vs g. g vs (map (transient_at (bare_file file) v s) (labels (bare_file file))) (map (transient_at (bare_file file) v s) (structures (bare_file file))))
        (map-map vector_of bare_vector file.vectors ∙ map_agree _ _ vector-bare file.vectors)
        (ap (λ es vs ls rs. record { condition = condition_at (bare_file file) v s; elements = es; vectors = vs; labels = ls; rewards = rs })
        (gathered-bare file (λ i a. element_at (bare_file file) v s i a ∷ []) (λ i a. element_at file v s i a ∷ []) (λ i a. ap (λ r. r ∷ []) (element-bare i a))))
        ∙ ap₂ (λ ls rs. record { condition = condition_at (bare_file file) v s; elements = numbered (λ i a. element_at file v s i a ∷ []) 0 (elements file); vectors = map vector_of file.vectors; labels = ls; rewards = rs })
        (transients-bare (labels (bare_file file)) (labels file) (labels-bare file)) (transients-bare (structures (bare_file file)) (structures file) (structures-bare file))
        ∙ ap (λ c. record { condition = c; elements = (moment file v s).elements; vectors = (moment file v s).vectors; labels = (moment file v s).labels; rewards = (moment file v s).rewards }) condition-bare

-- ---- the process
pub model-bare : (file : File) → model (bare_file file) ≡ model file
model-bare file = models_alike _ _ _ _ _ _ _ _ (scene-bare file) (λ v s. ap (λ k. k.condition) (moment-bare file v s)) (λ v s. ap marks (moment-bare file v s)) (λ v s. ap (λ k. choices k s) (moment-bare file v s))

pub places_mean_nothing : (f g : File) → PlacesMeanNothing f g
places_mean_nothing f g e = sym (model-bare f) ∙ ap model e ∙ model-bare g
