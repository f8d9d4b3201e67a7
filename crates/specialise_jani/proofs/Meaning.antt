-- A specialised JANI file means the same.
use Rattle.std.specs.Prelude.{◌≡◌, ℕ, ◌+◌, ◌-◌, List, [], ◌∷◌, ◌++◌, map, length, Bool, true, false, not, ◌&&◌, ◌||◌, Option, Some, None, is_none, unwrap_or, if◌then◌else◌, slice_get}
use Rattle.std.specs.List.{AllZip, find, filter, list_any}
use Rattle.std.specs.Option.{option_map, option_or}
use Rattle.std.proofs.Common.{refl, sym, subst, ap, ap₂, ◌∙◌}
use Rattle.std.proofs.Math.Path.{fun_ext}
use Rattle.std.proofs.lemmas.Option.{slice_get-map}
use Rattle.std.proofs.lemmas.List.{length-map, map-append}
use Rattle.basics.specs.Lists.{map_agree}
use Rattle.basics.specs.Mapped.{any_mapped, mapped, walked, found_mapped, kept_mapped, position_mapped}
use Rattle.basics.specs.Options.{if_some, is_some-map}
use Rattle.bridge_io.specs.declared.reason.Named.{Named}
use Rattle.op_trees.specs.Meaning.{Environment, is_wide_value}
use Rattle.op_trees.specs.declared.tree.Ty.{Ty}
use Rattle.op_trees.specs.declared.tree.Value.{Value}
use Rattle.op_trees.specs.Names.{is_called}
use Rattle.op_trees.specs.Seen.{Seen, known, known_names}
use Rattle.op_trees.specs.declared.tree.Value.TheVariants as V
use Rattle.process_core.specs.Product.{map-map}
use Rattle.process_core.specs.Ready.{Values, Name, Write, Update}
use Rattle.process_core.specs.Instance.{Valuation, Between, Column, Scene, instance_faults, is_wide_instance, is_state, is_initial, numbered}
use Rattle.jani_tree.specs.Syntax.{Expression, is_always, Const, VarKind, boolean, integer, number, real_bounded, one_sided, bounded, Var, Location, Destination, Edge, Automaton, Element, File, element_names}
use Rattle.jani_tree.specs.Syntax as syntax
use Rattle.std.proofs.lemmas.List.Elements.{filter-append}
use Rattle.frac_core.specs.Fraction.{unit}
use Rattle.jani_meaning.specs.Loops.{is_with, loop_at, loops, none_of, or_true, with_loops}
use Rattle.jani_meaning.specs.LoopLaws.{SeenAlike, element_is, none_alike, or_true_alike}
use Rattle.jani_meaning.specs.Elements.{nothing_called, automaton_called, element_automaton, elements, has_several_starts, location_number, first_number, Owned, owned_by, variables, is_boolean, is_lasting, is_label, is_structure, lasting, labels, structures, is_own, is_global, place_of, column_number, structure_number}
use Rattle.jani_meaning.specs.Scene.{see, constant_seen, constant, constant_names, begins_anywhere, counted, first_location, first_of, has_condition, location_column, domain_of, start_of, column, columns_of, scene}
use Rattle.jani_meaning.specs.Moment.{Moment, begin_here, begins_here, condition_at, is_among, restriction_seen, value_in, names_in, is_number, is_current, current_location, guard_seen, weight_seen, location_write, column_write, reward_of, write_at, reward_at, update_at, edge_at, element_at, given_in, given_at, may_give, given_to, first_or, transient_at, vector_of, moment}
use Rattle.jani_meaning.specs.Process.{choices, marks, has_wide_mark, excess}
use Rattle.constant_folding.specs.Constants.{AreRanked, specialised_value}
use Rattle.jani_table.specs.Operators.{jani_meaning}
use Rattle.specialise_jani.specs.Literal.{jani_literal}
use Rattle.constant_folding.specs.Unfit.{Extends, IsSmall}
use Rattle.constant_folding.proofs.Defined.{defined_constant}
use Rattle.constant_folding.specs.Known.{Known}
use Rattle.constant_folding.specs.Kept.{Gives}
use Rattle.specialise_jani.specs.Specialised.{any_constants, known_constants, folded, folded_kind, folded_restriction, folded_var, folded_write, folded_location, folded_destination, folded_edge, folded_automaton, specialised_const, specialised}
use Rattle.specialise_jani.specs.SameMeaning.{SameMeaningAt, AreApart, GivenDefined, GivenAreDefined, GivenHaveValues, SpecialisedMeansTheSame}
use Rattle.specialise_jani.proofs.ConstantLaws.{literal_see, known_is_constant, known_gives, folded_see, value_same, constants_same}

-- what each member gives with its number, after a map that keeps it
numbered_mapped : {A B Y : Type 0} (f : ℕ → B → List Y) (g : ℕ → A → List Y) (h : A → B) → ((i : ℕ) (x : A) → f i (h x) ≡ g i x) → (i : ℕ) (xs : List A) →
    numbered f i (map h xs) ≡ numbered g i xs
numbered_mapped f g h e i [] = refl
numbered_mapped f g h e i (x ∷ xs) = ap₂ (λ a b. a ++ b) (e i x) (numbered_mapped f g h e (i + 1) xs)

map_numbered : {A Y Z : Type 0} (k : Y → Z) (f : ℕ → A → List Y) (i : ℕ) (xs : List A) → map k (numbered f i xs) ≡ numbered (λ j x. map k (f j x)) i xs
map_numbered k f i [] = refl
map_numbered k f i (x ∷ xs) = map-append k (f i x) (numbered f (i + 1) xs) ∙ ap (λ l. map k (f i x) ++ l) (map_numbered k f (i + 1) xs)

module _ (file : File) (given v : Valuation) (extends : Extends given v) (small : IsSmall given) (ranked : AreRanked (any_constants file)) (apart : AreApart file) where
  abbrev K : Known
  K = known_constants file given

  abbrev new : File
  new = specialised file given

  abbrev fa : Automaton → Automaton
  fa = folded_automaton K

  abbrev fo : Owned → Owned
  fo o = record { owner = o.owner; var = folded_var K o.var }

  -- ---- elements and variables
  called_same : (o : Option Automaton) (n : Named) → unwrap_or (option_map fa o) (nothing_called n) ≡ fa (unwrap_or o (nothing_called n))
  called_same None n = refl
  called_same (Some a) n = refl

  named_same : (n : Named) → automaton_called new n ≡ fa (automaton_called file n)
  named_same n =
      ap (λ o. unwrap_or o (nothing_called n)) (found_mapped fa (λ a. is_called n.name a.name) (λ a. is_called n.name a.name) (λ a. refl) file.automata)
      ∙ called_same (find (λ a. is_called n.name a.name) file.automata) n

  -- an element is its folded automaton with loops, whose guards are made of folded guards
  elements_same : elements new ≡ map (λ e. with_loops e.enable (fa (automaton_called file e.name))) file.elements
  elements_same = map_agree _ _ (λ e. ap (with_loops e.enable) (named_same e.name)) file.elements

  -- what agrees for each list of actions and each automaton agrees for the elements
  each_mapped : {C : Type 0} (g k : Automaton → C) → ((xs : List Named) (a : Automaton) → g (with_loops xs (fa a)) ≡ k (with_loops xs a)) → map g (elements new) ≡ map k (elements file)
  each_mapped g k h =
      ap (map g) elements_same
      ∙ mapped (λ e. with_loops e.enable (fa (automaton_called file e.name))) g (λ e. k (element_automaton file e)) (λ e. h e.enable (automaton_called file e.name)) file.elements
      ∙ sym (map-map k (element_automaton file) file.elements)

  each_numbered : {C : Type 0} (g k : ℕ → Automaton → List C) → ((i : ℕ) (xs : List Named) (a : Automaton) → g i (with_loops xs (fa a)) ≡ k i (with_loops xs a)) →
      numbered g 0 (elements new) ≡ numbered k 0 (elements file)
  each_numbered g k h =
      ap (numbered g 0) elements_same
      ∙ numbered_mapped g (λ i e. k i (element_automaton file e)) (λ e. with_loops e.enable (fa (automaton_called file e.name))) (λ i e. h i e.enable (automaton_called file e.name)) 0 file.elements
      ∙ sym (numbered_mapped k (λ i e. k i (element_automaton file e)) (element_automaton file) (λ i e. refl) 0 file.elements)

  each_any : (p q : Automaton → Bool) → ((xs : List Named) (a : Automaton) → p (with_loops xs (fa a)) ≡ q (with_loops xs a)) → list_any p (elements new) ≡ list_any q (elements file)
  each_any p q h =
      ap (list_any p) elements_same
      ∙ any_mapped (λ e. with_loops e.enable (fa (automaton_called file e.name))) p (λ e. q (element_automaton file e)) (λ e. h e.enable (automaton_called file e.name)) file.elements
      ∙ sym (any_mapped (element_automaton file) q (λ e. q (element_automaton file e)) (λ e. refl) file.elements)

  location_same : (a : Automaton) (x : Name) → location_number (fa a) x ≡ location_number a x
  location_same a x = ap (λ o. unwrap_or o 0) (position_mapped (folded_location K) (λ l. is_called x l.name) (λ l. is_called x l.name) (λ l. refl) a.locations)

  initial_same : (a : Automaton) (ns : List Named) → first_number (fa a) ns ≡ first_number a ns
  initial_same a [] = refl
  initial_same a (n ∷ ns) = location_same a n.name

  owned_same : (owner : Option ℕ) (xs : List Var) → owned_by owner (map (folded_var K) xs) ≡ map fo (owned_by owner xs)
  owned_same owner xs = map-map {C = Owned} (λ x. record { owner = owner; var = x }) (folded_var K) xs ∙ sym (map-map fo (λ x. record { owner = owner; var = x }) xs)

  own_same : (i : ℕ) (xs : List Named) (a : Automaton) → owned_by (Some i) (with_loops xs (fa a)).variables ≡ map fo (owned_by (Some i) (with_loops xs a).variables)
  own_same i [] a = owned_same (Some i) a.variables
  own_same i (x ∷ xs) a = owned_same (Some i) a.variables

  variables_same : variables new ≡ map fo (variables file)
  variables_same =
      ap₂ (λ a b. a ++ b) (owned_same None file.variables)
      (each_numbered (λ i a. owned_by (Some i) a.variables) (λ i a. map fo (owned_by (Some i) a.variables)) own_same
      ∙ sym (map_numbered fo (λ i a. owned_by (Some i) a.variables) 0 (elements file)))
      ∙ sym (map-append fo (owned_by None file.variables) (numbered (λ i a. owned_by (Some i) a.variables) 0 (elements file)))

  boolean_same : (k : VarKind) → is_boolean (folded_kind K k) ≡ is_boolean k
  boolean_same boolean = refl
  boolean_same integer = refl
  boolean_same number = refl
  boolean_same real_bounded = refl
  boolean_same one_sided = refl
  boolean_same (bounded l h) = refl

  lasting_same : lasting new ≡ map fo (lasting file)
  lasting_same = ap (filter is_lasting) variables_same ∙ kept_mapped fo is_lasting is_lasting (λ o. refl) (variables file)

  labels_same : labels new ≡ map fo (labels file)
  labels_same = ap (filter is_label) variables_same ∙ kept_mapped fo is_label is_label (λ o. ap (λ b. o.var.transient && b) (boolean_same o.var.kind)) (variables file)

  structures_same : structures new ≡ map fo (structures file)
  structures_same = ap (filter is_structure) variables_same ∙ kept_mapped fo is_structure is_structure (λ o. ap (λ b. o.var.transient && not b) (boolean_same o.var.kind)) (variables file)

  place_same : (vars : List Owned) (i : ℕ) (x : Name) → place_of (map fo vars) i x ≡ place_of vars i x
  place_same vars i x =
      ap₂ option_or (position_mapped fo (is_own i x) (is_own i x) (λ o. refl) vars) (position_mapped fo (is_global x) (is_global x) (λ o. refl) vars)

  column_number_same : (i : ℕ) (x : Name) → column_number new i x ≡ column_number file i x
  column_number_same i x = ap (option_map (λ k. length (element_names file) + k)) (ap (λ vars. place_of vars i x) lasting_same ∙ place_same (lasting file) i x)

  structure_number_same : (i : ℕ) (x : Name) → structure_number new i x ≡ structure_number file i x
  structure_number_same i x = ap (λ vars. place_of vars i x) structures_same ∙ place_same (structures file) i x

  -- ---- the file under the valuation
  abbrev names : Name → Seen
  names = known_names (constant file v)

  same_constants : constant new v ≡ constant file v
  same_constants = constants_same file given v extends small ranked

  fixed_same : (e : Expression) → see (folded K e) names ≡ see e names
  fixed_same e = folded_see file given v extends small (constant file v) (known_gives file given v extends small) e

  new_are : constant_names new v ≡ names
  new_are = ap known_names same_constants

  consts_alike : map (λ c. constant_seen (v c.name.name) names c.value) (map (specialised_const given K) file.constants) ≡ map (λ c. constant_seen (v c.name.name) names c.value) file.constants
  consts_alike =
      mapped (specialised_const given K) (λ c. constant_seen (v c.name.name) names c.value) (λ c. constant_seen (v c.name.name) names c.value)
      (λ c. value_same file given v extends small c.name.name c.ty c.value names fixed_same) file.constants

  domain_same : (k : VarKind) → domain_of names (folded_kind K k) ≡ domain_of names k
  domain_same boolean = refl
  domain_same integer = refl
  domain_same number = refl
  domain_same real_bounded = refl
  domain_same one_sided = refl
  domain_same (bounded l h) = ap₂ Between (fixed_same l) (fixed_same h)

  start_same : (o : Option Expression) → start_of names (option_map (folded K) o) ≡ start_of names o
  start_same None = refl
  start_same (Some e) = fixed_same e

  first_same : (o : Option Expression) → first_of names (option_map (folded K) o) ≡ first_of names o
  first_same None = refl
  first_same (Some e) = ap Some (fixed_same e)

  column_same : (o : Owned) → column names (folded_var K o.var) ≡ column names o.var
  column_same o = ap₂ (λ d f. record { name = o.var.name.name; domain = d; first = f }) (domain_same o.var.kind) (first_same o.var.start)

  first_location_same : (a : Automaton) (b : Bool) → first_location (fa a) b ≡ first_location a b
  first_location_same a true = refl
  first_location_same a false = ap (λ n. Some (counted n)) (initial_same a a.initial)

  location_column_same : (a : Automaton) → location_column (fa a) ≡ location_column a
  location_column_same a =
      ap₂ (λ n f. record { name = a.name.name; domain = Between (counted 0) (counted (n - 1)); first = f }) (length-map a.locations (folded_location K))
      (first_location_same a (has_several_starts a))

  looped_column_same : (xs : List Named) (a : Automaton) → location_column (with_loops xs (fa a)) ≡ location_column (with_loops xs a)
  looped_column_same [] a = location_column_same a
  looped_column_same (x ∷ xs) a = location_column_same a

  several_same : (xs : List Named) (a : Automaton) → has_several_starts (with_loops xs (fa a)) ≡ has_several_starts (with_loops xs a)
  several_same [] a = refl
  several_same (x ∷ xs) a = refl

  columns_alike : columns_of new v ≡ columns_of file v
  columns_alike =
      ap₂ (λ a b. a ++ b) (each_mapped location_column location_column looped_column_same)
      (ap₂ (λ (r : Name → Seen) vars. map (λ o. column r o.var) vars) new_are lasting_same
      ∙ mapped fo (λ o. column names o.var) (λ o. column names o.var) column_same (lasting file))

  anywhere_same : (o : Option Expression) → is_none (option_map (folded K) o) ≡ is_none o
  anywhere_same None = refl
  anywhere_same (Some e) = refl

  condition_alike : has_condition new ≡ has_condition file
  condition_alike =
      ap₂ (λ a b. a || b) (is_some-map (folded_restriction K) file.restrict)
      (ap₂ (λ a b. a || b) (each_any has_several_starts has_several_starts several_same)
      (ap (list_any begins_anywhere) lasting_same ∙ any_mapped fo begins_anywhere begins_anywhere (λ o. anywhere_same o.var.start) (lasting file)))

  scene_alike : scene new v ≡ scene file v
  scene_alike =
      ap₂ {A = List Column → Scene} (λ f c. f c)
      (ap₂ {C = List Column → Scene} (λ h a. λ b. record { constants = a; columns = b; has_condition = h }) condition_alike
      (ap (λ (r : Name → Seen). map (λ c. constant_seen (v c.name.name) r c.value) (map (specialised_const given K) file.constants)) new_are ∙ consts_alike)) columns_alike

  -- ---- the file at a state
  module _ (s : Values) where
    abbrev env : ℕ → Environment
    env i x = value_in s (column_number file i x) (constant file v x)

    env_gives : (i : ℕ) → Gives K (env i)
    env_gives i = record {
      gives =
          λ x k h.
          let c = known_is_constant file given v extends small x k h in
          ap (λ o. value_in s o (constant file v x)) (apart.apart i x c.0 c.1) ∙ (known_gives file given v extends small).gives x k h;
    }

    -- names of the specialised file, in an element
    new_in : (i : ℕ) (x : Name) → names_in new v s i x ≡ known (env i x)
    new_in i x = ap₂ (λ o k. known (value_in s o (k x))) (column_number_same i x) same_constants

    new_names : (i : ℕ) → names_in new v s i ≡ known_names (env i)
    new_names i = fun_ext (new_in i)

    state_same : (i : ℕ) (e : Expression) → see (folded K e) (names_in new v s i) ≡ see e (names_in file v s i)
    state_same i e = ap (see (folded K e)) (new_names i) ∙ folded_see file given v extends small (env i) (env_gives i) e

    guard_same : (i : ℕ) (o : Option Expression) → guard_seen (names_in new v s i) (option_map (folded K) o) ≡ guard_seen (names_in file v s i) o
    guard_same i None = refl
    guard_same i (Some e) = state_same i e

    weight_same : (i : ℕ) (o : Option Expression) → weight_seen (names_in new v s i) (option_map (folded K) o) ≡ weight_seen (names_in file v s i) o
    weight_same i None = refl
    weight_same i (Some e) = state_same i e

    write_same : (i : ℕ) (w : syntax.Write) → write_at new v s i (folded_write K w) ≡ write_at file v s i w
    write_same i w =
        ap₂ {B = Option ℕ → List Write} (λ o g. g o) (column_number_same i w.target.name) (ap₂ (λ cs u o. column_write cs o u) columns_alike (state_same i w.value))

    reward_same : (i : ℕ) (w : syntax.Write) → reward_at new v s i (folded_write K w) ≡ reward_at file v s i w
    reward_same i w = ap₂ reward_of (structure_number_same i w.target.name) (state_same i w.value)

    update_same : (i : ℕ) (a : Automaton) (d : Destination) → update_at new v s i (fa a) (folded_destination K d) ≡ update_at file v s i a d
    update_same i a d =
        ap₂ {B = Seen → Update} (λ w g. g w) (weight_same i d.weight)
        (ap₂ (λ ws rs w. record { weight = w; writes = ws; rewards = rs })
        (ap₂ (λ n ws. location_write i n ∷ ws) (location_same a d.location.name) (walked (folded_write K) (write_at new v s i) (write_at file v s i) (write_same i) d.writes))
        (walked (folded_write K) (reward_at new v s i) (reward_at file v s i) (reward_same i) d.writes))

    edge_same : (i : ℕ) (a : Automaton) (e : Edge) → edge_at new v s i (fa a) (folded_edge K e) ≡ edge_at file v s i a e
    edge_same i a e =
        ap₂ (λ g us. record { action = option_map (λ x. x.name) e.action; guard = g; updates = us }) (guard_same i e.guard)
        (mapped (folded_destination K) (update_at new v s i (fa a)) (update_at file v s i a) (update_same i a) e.destinations)

    current_same : (i : ℕ) (a : Automaton) (x : Name) → is_current s i (fa a) x ≡ is_current s i a x
    current_same i a x = ap (λ n. is_number n (slice_get s i)) (location_same a x)

    element_same : (i : ℕ) (a : Automaton) → element_at new v s i (fa a) ≡ element_at file v s i a
    element_same i a =
        ap (map (edge_at new v s i (fa a)))
        (kept_mapped (folded_edge K) (λ e. is_current s i (fa a) e.location.name) (λ e. is_current s i a e.location.name) (λ e. current_same i a e.location.name) a.edges)
        ∙ mapped (folded_edge K) (edge_at new v s i (fa a)) (edge_at file v s i a) (edge_same i a) (filter (λ e. is_current s i a e.location.name) a.edges)

    -- the guard of a loop is made of folded guards, and is seen as that of the loop of the file
    guards_alike : (i : ℕ) (es : List Edge) → AllZip (SeenAlike (names_in new v s i) (names_in file v s i)) (map (λ e. or_true e.guard) (map (folded_edge K) es)) (map (λ e. or_true e.guard) es)
    guards_alike i [] = tt
    guards_alike i (e ∷ es) =
        (or_true_alike (names_in new v s i) (names_in file v s i) (option_map (folded K) e.guard) e.guard (guard_same i e.guard), guards_alike i es)

    loop_guard_same : (i : ℕ) (a : Automaton) (x : Named) (l : Location) →
        guard_seen (names_in new v s i) (loop_at (fa a) x (folded_location K l)).guard ≡ guard_seen (names_in file v s i) (loop_at a x l).guard
    loop_guard_same i a x l =
        let these = filter (is_with x.name l.name.name) a.edges in
        ap (λ es. guard_seen (names_in new v s i) (none_of (map (λ e. or_true e.guard) es))) (kept_mapped (folded_edge K) (is_with x.name l.name.name) (is_with x.name l.name.name) (λ e. refl) a.edges)
        ∙ none_alike (names_in new v s i) (names_in file v s i) (map (λ e. or_true e.guard) (map (folded_edge K) these)) (map (λ e. or_true e.guard) these) (guards_alike i these)

    loop_same : (i : ℕ) (a : Automaton) (x : Named) (l : Location) → edge_at new v s i (fa a) (loop_at (fa a) x (folded_location K l)) ≡ edge_at file v s i a (loop_at a x l)
    loop_same i a x l =
        ap₂ (λ g n. record { action = Some x.name; guard = g; updates = record { weight = known (Some (V.Number unit)); writes = location_write i n ∷ []; rewards = [] } ∷ [] })
        (loop_guard_same i a x l) (location_same a l.name.name)

    loops_with_same : (i : ℕ) (a : Automaton) (x : Named) (ls : List Location) →
        map (edge_at new v s i (fa a)) (filter (λ e. is_current s i (fa a) e.location.name) (map (loop_at (fa a) x) (map (folded_location K) ls)))
        ≡ map (edge_at file v s i a) (filter (λ e. is_current s i a e.location.name) (map (loop_at a x) ls))
    loops_with_same i a x [] = refl
    loops_with_same i a x (l ∷ ls) = by_tests (is_current s i (fa a) l.name.name) (is_current s i a l.name.name) (current_same i a l.name.name) (loops_with_same i a x ls)
      where
        by_tests : (b c : Bool) → b ≡ c →
            map (edge_at new v s i (fa a)) (filter (λ e. is_current s i (fa a) e.location.name) (map (loop_at (fa a) x) (map (folded_location K) ls)))
            ≡ map (edge_at file v s i a) (filter (λ e. is_current s i a e.location.name) (map (loop_at a x) ls)) →
            map (edge_at new v s i (fa a)) (if b then loop_at (fa a) x (folded_location K l) ∷ filter (λ e. is_current s i (fa a) e.location.name) (map (loop_at (fa a) x) (map (folded_location K) ls))
            else filter (λ e. is_current s i (fa a) e.location.name) (map (loop_at (fa a) x) (map (folded_location K) ls)))
            ≡ map (edge_at file v s i a) (if c then loop_at a x l ∷ filter (λ e. is_current s i a e.location.name) (map (loop_at a x) ls) else filter (λ e. is_current s i a e.location.name) (map (loop_at a x) ls))
        by_tests true true e h = ap₂ (λ y ys. y ∷ ys) (loop_same i a x l) h
        by_tests false false e h = h
        by_tests true false e h = absurd cc
        by_tests false true e h = absurd cc

    loops_same : (i : ℕ) (xs : List Named) (a : Automaton) →
        map (edge_at new v s i (fa a)) (filter (λ e. is_current s i (fa a) e.location.name) (loops xs (fa a))) ≡ map (edge_at file v s i a) (filter (λ e. is_current s i a e.location.name) (loops xs a))
    loops_same i [] a = refl
    loops_same i (x ∷ xs) a =
        let here = λ (e : Edge). is_current s i (fa a) e.location.name in
        let there = λ (e : Edge). is_current s i a e.location.name in
        ap (map (edge_at new v s i (fa a))) (filter-append here (map (loop_at (fa a) x) (map (folded_location K) a.locations)) (loops xs (fa a)))
        ∙ map-append (edge_at new v s i (fa a)) (filter here (map (loop_at (fa a) x) (map (folded_location K) a.locations))) (filter here (loops xs (fa a)))
        ∙ ap₂ (λ p q. p ++ q) (loops_with_same i a x a.locations) (loops_same i xs a)
        ∙ sym (ap (map (edge_at file v s i a)) (filter-append there (map (loop_at a x) a.locations) (loops xs a))
        ∙ map-append (edge_at file v s i a) (filter there (map (loop_at a x) a.locations)) (filter there (loops xs a)))

    looped_same : (i : ℕ) (xs : List Named) (a : Automaton) → element_at new v s i (with_loops xs (fa a)) ≡ element_at file v s i (with_loops xs a)
    looped_same i xs a = element_is new v s i xs (fa a) ∙ ap₂ (λ p q. p ++ q) (element_same i a) (loops_same i xs a) ∙ sym (element_is file v s i xs a)

    -- ---- transient variables
    current_location_same : (i : ℕ) (a : Automaton) → current_location s i (fa a) ≡ option_map (folded_location K) (current_location s i a)
    current_location_same i a =
        found_mapped (folded_location K) (λ l. is_current s i (fa a) l.name.name) (λ l. is_current s i a l.name.name) (λ l. current_same i a l.name.name) a.locations

    given_in_same : (x : Name) (o : Option Location) → given_in new v s x (option_map (folded_location K) o) ≡ option_map (folded_write K) (given_in file v s x o)
    given_in_same x None = refl
    given_in_same x (Some l) = found_mapped (folded_write K) (λ w. is_called x w.target) (λ w. is_called x w.target) (λ w. refl) l.values

    seen_given : (i : ℕ) (o : Option syntax.Write) →
        map (λ w. see w.value (names_in new v s i)) (if_some (option_map (folded_write K) o)) ≡ map (λ w. see w.value (names_in file v s i)) (if_some o)
    seen_given i None = refl
    seen_given i (Some w) = ap (λ u. u ∷ []) (state_same i w.value)

    given_at_same : (x : Name) (i : ℕ) (a : Automaton) → given_at new v s x i (fa a) ≡ given_at file v s x i a
    given_at_same x i a =
        ap (λ o. map (λ w. see w.value (names_in new v s i)) (if_some o)) (ap (given_in new v s x) (current_location_same i a) ∙ given_in_same x (current_location s i a))
        ∙ seen_given i (given_in file v s x (current_location s i a))

    may_give_same : (i : ℕ) (owner : Option ℕ) → may_give new v s i owner ≡ may_give file v s i owner
    may_give_same i None = refl
    may_give_same i (Some k) = refl

    first_or_same : (other : Seen) (xs : List Seen) → first_or new v s other xs ≡ first_or file v s other xs
    first_or_same other [] = refl
    first_or_same other (x ∷ xs) = refl

    given_to_same : (o : Owned) (i : ℕ) (a : Automaton) → given_to new v s (fo o) i (fa a) ≡ given_to file v s o i a
    given_to_same o i a = ap₂ (λ b l. if b then l else []) (may_give_same i o.owner) (given_at_same o.var.name.name i a)

    looped_given_same : (o : Owned) (i : ℕ) (xs : List Named) (a : Automaton) → given_to new v s (fo o) i (with_loops xs (fa a)) ≡ given_to file v s o i (with_loops xs a)
    looped_given_same o i [] a = given_to_same o i a
    looped_given_same o i (x ∷ xs) a = given_to_same o i a

    transient_same : (o : Owned) → transient_at new v s (fo o) ≡ transient_at file v s o
    transient_same o =
        first_or_same (start_of (constant_names new v) (option_map (folded K) o.var.start)) (numbered (given_to new v s (fo o)) 0 (elements new))
        ∙ ap₂ (first_or file v s) (ap (λ (r : Name → Seen). start_of r (option_map (folded K) o.var.start)) new_are ∙ start_same o.var.start)
        (each_numbered (given_to new v s (fo o)) (given_to file v s o) (looped_given_same o))

    -- ---- the condition on initial states
    among_same : (i : ℕ) (a : Automaton) (ns : List Named) → is_among s i (fa a) ns ≡ is_among s i a ns
    among_same i a [] = refl
    among_same i a (n ∷ ns) = ap₂ (λ b c. b || c) (current_same i a n.name) (among_same i a ns)

    looped_begins_same : (i : ℕ) (xs : List Named) (a : Automaton) → begins_here s i (with_loops xs (fa a)) ≡ begins_here s i (with_loops xs a)
    looped_begins_same i [] a = ap (λ b. not (has_several_starts a) || b) (among_same i a a.initial)
    looped_begins_same i (x ∷ xs) a = ap (λ b. not (has_several_starts a) || b) (among_same i a a.initial)

    begin_same : (i : ℕ) (es : List Element) → begin_here s i (map (λ e. with_loops e.enable (fa (automaton_called file e.name))) es) ≡ begin_here s i (map (element_automaton file) es)
    begin_same i [] = refl
    begin_same i (e ∷ es) = ap₂ (λ b c. b && c) (looped_begins_same i e.enable (automaton_called file e.name)) (begin_same (i + 1) es)

    restriction_same : (i : ℕ) (o : Option Expression) → restriction_seen (names_in new v s i) (option_map (folded_restriction K) o) ≡ restriction_seen (names_in file v s i) o
    restriction_same i None = refl
    restriction_same i (Some e) = by_always (is_always (folded K e))
      where
        by_always : (b : Bool) → see (if b then e else folded K e) (names_in new v s i) ≡ see e (names_in file v s i)
        by_always true = ap (see e) (new_names i)
        by_always false = state_same i e

    condition_same : condition_at new v s ≡ condition_at file v s
    condition_same =
        ap₂ (λ b (c : Seen). if b then c else known (Some (V.Truth false))) (ap (begin_here s 0) elements_same ∙ begin_same 0 file.elements) (restriction_same (length (element_names file)) file.restrict)

    moment_alike : moment new v s ≡ moment file v s
    moment_alike =
        ap₂ {A = (List Seen) × Seen} {B = (List Seen) × Seen → Moment} (λ rs g. g rs)
        (ap₂ (λ rs c. (rs, c)) (ap (map (transient_at new v s)) structures_same ∙ mapped fo (transient_at new v s) (transient_at file v s) transient_same (structures file)) condition_same)
        (ap₂ (λ es ls r. record { condition = r.1; elements = es; vectors = map vector_of file.vectors; labels = ls; rewards = r.0 })
        (each_numbered (λ i a. element_at new v s i a ∷ []) (λ i a. element_at file v s i a ∷ []) (λ i xs a. ap (λ l. l ∷ []) (looped_same i xs a)))
        (ap (map (transient_at new v s)) labels_same ∙ mapped fo (transient_at new v s) (transient_at file v s) transient_same (labels file)))

  meaning_alike : SameMeaningAt file new v
  meaning_alike = record {
    faults = ap instance_faults scene_alike;
    wide_instance = ap is_wide_instance scene_alike;
    columns = ap (λ k. map (λ c. c.name) k.columns) scene_alike;
    states = λ s. ap (λ k. is_state k.columns s) scene_alike;
    initial = λ s. ap₂ (λ k m. is_initial k.columns m.condition s) scene_alike (moment_alike s);
    choices = λ s. ap (λ k. choices k s) (moment_alike s);
    marks = λ s. ap marks (moment_alike s);
    wide_marks = λ s. ap has_wide_mark (moment_alike s);
    excess = λ s. ap excess (moment_alike s);
  }

pub specialised_means_the_same : SpecialisedMeansTheSame
specialised_means_the_same file given ranked apart small v extends = meaning_alike file given v extends small ranked apart

open_value : (g vx : Option Value) (ty : Ty) (K : Known) (names : Name → Seen) (o : Option Expression) (y : Value) → is_wide_value (Some y) ≡ false → o ≡ None → g ≡ Some y → vx ≡ Some y →
    (constant_seen vx names o ≡ known (Some y)) × (constant_seen vx names (specialised_value jani_meaning jani_literal g K ty o) ≡ known (Some y))
open_value None vx ty K names o y h n p q = absurd cc
open_value (Some z) vx ty K names None y h n p q =
    let same : z ≡ y = cc in
    (ap known q, literal_see z ty names (subst (λ (u : Value). is_wide_value (Some u) ≡ false) (sym same) h) ∙ ap (λ u. known (Some u)) same)
open_value (Some z) vx ty K names (Some e) y h n p q = absurd cc

pub given_have_values : GivenHaveValues
given_have_values file given v small extends c y n p =
    let h = small.small c.name.name y p in
    let q = extends.gives c.name.name y p in (
      (open_value (given c.name.name) (v c.name.name) c.ty (known_constants file given) (constant_names file v) c.value y h n p q).0,
      (open_value (given c.name.name) (v c.name.name) c.ty (known_constants file given) (constant_names (specialised file given) v) c.value y h n p q).1,
    )

-- what comes out of the open constant of this number
given_seen : (v : Valuation) (names : Name → Seen) (c : Const) (y : Value) → c.value ≡ None → v c.name.name ≡ Some y → (constant_seen (v c.name.name) names c.value).value ≡ Some y
given_seen v names c y n h = ap (λ o. (constant_seen (v c.name.name) names o).value) n ∙ h

given_defined : (file : File) (given v : Valuation) → Extends given v → GivenDefined file.constants given (instance_faults (scene file v))
given_defined file given v extends i c y e n h =
    defined_constant (scene file v) i (constant_seen (v c.name.name) (constant_names file v) c.value) y (slice_get-map (λ k. constant_seen (v k.name.name) (constant_names file v) k.value) file.constants i ∙ ap (option_map (λ k. constant_seen (v k.name.name) (constant_names file v) k.value)) e)
    (given_seen v (constant_names file v) c y n (extends.gives c.name.name y h))

pub given_are_defined : GivenAreDefined
given_are_defined file new given v extends same = (given_defined file given v extends, subst (GivenDefined file.constants given) (sym same.faults) (given_defined file given v extends))
