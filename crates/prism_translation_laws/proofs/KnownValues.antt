-- The constants, variables and edges of a file without faults: what their expressions name.
use Rattle.std.specs.Prelude.{◌≡◌, ℕ, List, ◌++◌, map, true, ◌||◌, Option, Some, None, is_none, is_some, get_or, slice_get, IfSome}
use Rattle.std.specs.List.{flat_map, list_any, All, position, AllByRecursion as OfAll}
use Rattle.std.proofs.Common.{refl, ap}
use Rattle.std.proofs.lemmas.Bool.{or_right}
use Rattle.std.proofs.lemmas.List.Elements.{All-from_recursion}
use Rattle.basics.specs.Each.{each_then, each_with, each_rest, each_of, map_each, each_join, each_filter}
use Rattle.process_core.specs.Instance.{numbered}
use Rattle.jani_tree.specs.Syntax.{Expression, VarKind, boolean, integer, number, real_bounded, one_sided, bounded, Const, Var, Location, Destination, Edge, File}
use Rattle.basics.specs.Lists.{IsNotEmpty as HasItems}
use Rattle.jani_tree.specs.Form.{ExprForm, KindForm, ConstRead, VarRead, WriteRead, LocationRead, DestinationRead, EdgeRead, RestrictionRead}
use Rattle.jani_check.specs.Things.{kind_type}
use Rattle.basics.specs.Options.{if_some, IfAny as OfSome}
use Rattle.op_trees.specs.Names.{is_called}
use Rattle.op_trees.specs.Wanted.{wanted_by}
use Rattle.op_trees.specs.declared.wanted.Wanted.TheVariants as W
use Rattle.choice_laws.proofs.Walks.{has_any}
use Rattle.jani_check.specs.Demands.{Demand, fixed, varying, assigned, given, const_demands, bound_demands, var_demands, location_demands, destination_demands, edge_demands}
use Rattle.jani_check.specs.Faults.{IsChecked}
use Rattle.jani_check.proofs.Profiled.{operands}
use Rattle.jani_meaning.specs.Elements as jani
use Rattle.jani_meaning.specs.Elements.{Owned, has_several_starts, owned_by, lasting}
use Rattle.jani_meaning.specs.Scene.{begins_anywhere, has_condition}
use Rattle.prism_translation.specs.PrismAsks.{outside}
use Rattle.prism_translation.specs.Elements.{Element, elements, Placed, placed_edges}
use Rattle.prism_translation.specs.Names.{new_names}
use Rattle.prism_translation.specs.Parts.{scope_of}
use Rattle.prism_translation.specs.Sound.{NamesConstants, IsConstantExpression, SoundKind, SoundStart, KnownExpression, KnownDestination, KnownEdge}
use Rattle.prism_translation.proofs.Lists.{of_front, to_map, to_numbered, of_numbered}
use Rattle.prism_translation.proofs.Scopes.{own_vars, NamesApart}
use Rattle.prism_translation.proofs.Clean.{IsJudged, names_apart_outside, names_outside, demands_outside}
use Rattle.prism_translation.proofs.Expressions.{known_expression, known_assigned, known_given, constant_expression}
use Rattle.prism_translation.proofs.Distinct.{stands_first}
use Rattle.prism_translation.proofs.Elements.{IsElement, elements_are, judged_element}
use Rattle.prism_translation_laws.proofs.Lists.{any_then}

-- ---- by what is known in an element, or outside of all
module _ (file : File) (k : ℕ) (names : NamesApart file (own_vars file k)) where
  abbrev Judged : Demand → Type 0
  Judged = IsJudged file (own_vars file k)

  some_constant : (w : _) (o : Option Expression) → OfSome (ExprForm HasItems) o → OfAll Judged (map (fixed w) (if_some o)) → IfSome o (NamesConstants file k)
  some_constant w None p j = tt
  some_constant w (Some e) p j = constant_expression file k names w e j.0 (operands e p)

  kind_sound : (t : VarKind) → KindForm HasItems t → OfAll Judged (bound_demands t) → SoundKind file k t
  kind_sound boolean p j = tt
  kind_sound integer p j = tt
  kind_sound number p j = tt
  kind_sound real_bounded p j = tt
  kind_sound one_sided p j = tt
  kind_sound (bounded low high) p j = (constant_expression file k names _ low j.0 (operands low p.0), constant_expression file k names _ high j.1.0 (operands high p.1))

  pub record SoundVar (x : Var) : Type 0 where
    pub kind : SoundKind file k x.kind
    pub start : IfSome x.start (NamesConstants file k)

  pub vars_sound : (xs : List Var) → OfAll (VarRead HasItems) xs → OfAll Judged (flat_map var_demands xs) → OfAll SoundVar xs
  vars_sound xs p j =
      each_with (VarRead HasItems) (λ x. OfAll Judged (var_demands x)) SoundVar
      (λ x f d. record {
        kind = kind_sound x.kind f.kind (of_front Judged (bound_demands x.kind) (map (fixed (wanted_by (kind_type x.kind))) (if_some x.start)) d);
        start = some_constant (wanted_by (kind_type x.kind)) x.start f.start (each_rest Judged (bound_demands x.kind) (map (fixed (wanted_by (kind_type x.kind))) (if_some x.start)) d);
      }) xs p (each_of Judged var_demands xs j)

  -- ---- edges
  some_known : (w : _) (o : Option Expression) → OfSome (ExprForm HasItems) o → OfAll Judged (map (varying w) (if_some o)) → IfSome o (KnownExpression file k)
  some_known w None p j = tt
  some_known w (Some e) p j = known_expression file k names w e j.0 (operands e p)

  destination_known : (d : Destination) → DestinationRead HasItems d → OfAll Judged (destination_demands d) → KnownDestination file k d
  destination_known d p j = (
    some_known _ d.weight p.weight (of_front Judged (map (varying _) (if_some d.weight)) (map assigned d.writes) j),
    All-from_recursion (λ x. KnownExpression file k x.value) d.writes
        (each_with (WriteRead HasItems) (λ x. Judged (assigned x)) (λ x. KnownExpression file k x.value) (λ x f g. known_assigned file k names x g (operands x.value f.value)) d.writes p.writes
        (map_each Judged assigned d.writes (each_rest Judged (map (varying _) (if_some d.weight)) (map assigned d.writes) j))),
  )

  edge_known : (e : Edge) → EdgeRead HasItems e → OfAll Judged (edge_demands e) → KnownEdge file k e
  edge_known e p j = (
    some_known _ e.guard p.guard (of_front Judged (map (varying _) (if_some e.guard)) (flat_map destination_demands e.destinations) j),
    All-from_recursion (KnownDestination file k) e.destinations
        (each_with (DestinationRead HasItems) (λ d. OfAll Judged (destination_demands d)) (KnownDestination file k) destination_known e.destinations p.destinations
        (each_of Judged destination_demands e.destinations (each_rest Judged (map (varying _) (if_some e.guard)) (flat_map destination_demands e.destinations) j))),
  )

  pub edges_known : (es : List Edge) → OfAll (EdgeRead HasItems) es → OfAll Judged (flat_map edge_demands es) → OfAll (KnownEdge file k) es
  edges_known es p j = each_with (EdgeRead HasItems) (λ e. OfAll Judged (edge_demands e)) (KnownEdge file k) edge_known es p (each_of Judged edge_demands es j)

  -- ---- locations
  pub locations_known : (ls : List Location) → OfAll (LocationRead HasItems) ls → OfAll Judged (flat_map location_demands ls) → OfAll (λ l. OfAll (λ x. KnownExpression file k x.value) l.values) ls
  locations_known ls p j =
      each_with (LocationRead HasItems) (λ l. OfAll Judged (location_demands l)) (λ l. OfAll (λ x. KnownExpression file k x.value) l.values)
      (λ l f d. each_with (WriteRead HasItems) (λ x. Judged (given x)) (λ x. KnownExpression file k x.value) (λ x g i. known_given file k names x i (operands x.value g.value)) l.values f.values
      (map_each Judged given l.values d)) ls p (each_of Judged location_demands ls j)

module _ (file : File) (c : IsChecked file) where
  -- ---- outside of elements
  abbrev restricting : List Demand
  restricting = map (varying W.Bool) (if_some file.restrict)

  -- global variables, and the condition on initial states
  behind_constants : OfAll (IsJudged file (own_vars file (outside file))) (flat_map var_demands file.variables ++ restricting)
  behind_constants = each_rest (IsJudged file (own_vars file (outside file))) (flat_map const_demands file.constants) (flat_map var_demands file.variables ++ restricting) (demands_outside file c)

  pub constants_sound : All (λ d. IfSome d.value (IsConstantExpression file)) file.constants
  constants_sound =
      All-from_recursion (λ d. IfSome d.value (IsConstantExpression file)) file.constants
      (each_with (ConstRead HasItems) (λ d. OfAll (IsJudged file (own_vars file (outside file))) (const_demands d)) (λ d. IfSome d.value (IsConstantExpression file))
      (λ d p j. some_constant file (outside file) (names_outside file c) _ d.value p.value j) file.constants c.form.constants
      (each_of (IsJudged file (own_vars file (outside file))) const_demands file.constants
      (of_front (IsJudged file (own_vars file (outside file))) (flat_map const_demands file.constants) (flat_map var_demands file.variables ++ restricting) (demands_outside file c))))

  pub constants_named : (i : ℕ) (d : Const) → slice_get file.constants i ≡ Some d → position (λ e. is_called d.name.name e.name) file.constants ≡ Some i
  constants_named i d e = stands_first (λ (x : Const). x.name) file.constants (names_apart_outside file c).constants i d e

  -- ---- variables
  record SoundOwned (o : Owned) : Type 0 where
    kind : SoundKind file (scope_of file (new_names file) o) o.var.kind
    start : IfSome o.var.start (NamesConstants file (scope_of file (new_names file) o))

  element_vars : (el : Element) → IsElement file el → OfAll SoundOwned (owned_by (Some el.number) el.automaton.variables)
  element_vars el is =
      let j = judged_element file c el is in
      let k = el.number in
      let a = el.automaton in
      let D = IsJudged file (own_vars file k) in
      to_map SoundOwned (λ x. record { owner = Some k; var = x }) a.variables
      (each_then (SoundVar file k j.names) (λ x. SoundOwned (record { owner = Some k; var = x })) (λ x s. record { kind = s.kind; start = s.start }) a.variables
      (vars_sound file k j.names a.variables j.form.variables (of_front (IsJudged file (own_vars file k)) (flat_map var_demands a.variables) _ j.demands)))

  global_vars : OfAll SoundOwned (owned_by None file.variables)
  global_vars =
      to_map SoundOwned (λ x. record { owner = None; var = x }) file.variables
      (each_then (SoundVar file (outside file) (names_outside file c)) (λ x. SoundOwned (record { owner = None; var = x })) (λ x s. record { kind = s.kind; start = s.start }) file.variables
      (vars_sound file (outside file) (names_outside file c) file.variables c.form.variables
      (of_front (IsJudged file (own_vars file (outside file))) (flat_map var_demands file.variables) restricting behind_constants)))

  lasting_sound : OfAll SoundOwned (lasting file)
  lasting_sound =
      each_filter SoundOwned jani.is_lasting (jani.variables file)
      (each_join SoundOwned (owned_by None file.variables) (numbered (λ i a. owned_by (Some i) a.variables) 0 (jani.elements file)) global_vars
      (of_numbered (IsElement file) SoundOwned (λ i a. record { number = i; automaton = a }) (λ i a. owned_by (Some i) a.variables)
      (λ i a is. element_vars (record { number = i; automaton = a }) is) 0 (jani.elements file) (elements_are file c)))

  pub kinds_sound : All (λ o. SoundKind file (scope_of file (new_names file) o) o.var.kind) (lasting file)
  kinds_sound =
      All-from_recursion (λ o. SoundKind file (scope_of file (new_names file) o) o.var.kind) (lasting file)
      (each_then SoundOwned (λ o. SoundKind file (scope_of file (new_names file) o) o.var.kind) (λ o s. s.kind) (lasting file) lasting_sound)

  pub starts_sound : All (λ o. SoundStart file (scope_of file (new_names file) o) o.var.start) (lasting file)
  starts_sound i d l =
      let o = get_or (lasting file) i d in
      by_start (scope_of file (new_names file) o) o.var.start (All-from_recursion SoundOwned (lasting file) lasting_sound i d l).start (λ e. anywhere (has_any begins_anywhere (lasting file) i d l (ap is_none e)))
    where
      anywhere : list_any begins_anywhere (lasting file) ≡ true → has_condition file ≡ true
      anywhere h = or_right (is_some file.restrict) (list_any has_several_starts (jani.elements file) || list_any begins_anywhere (lasting file)) (or_right (list_any has_several_starts (jani.elements file)) (list_any begins_anywhere (lasting file)) h)

      by_start : (k : ℕ) (s : Option Expression) → IfSome s (NamesConstants file k) → (s ≡ None → has_condition file ≡ true) → SoundStart file k s
      by_start k None h n = n refl
      by_start k (Some e) h n = h

  -- ---- initial states
  pub restrict_sound : IfSome file.restrict (KnownExpression file (outside file))
  restrict_sound =
      some_known file (outside file) (names_outside file c) W.Bool file.restrict
      (any_then (RestrictionRead HasItems) (ExprForm HasItems) (λ e r. r.expression) file.restrict c.form.restrict)
      (each_rest (IsJudged file (own_vars file (outside file))) (flat_map var_demands file.variables) restricting behind_constants)

  pub begins_sound : All (λ el. HasItems el.automaton.initial) (elements file)
  begins_sound =
      All-from_recursion (λ el. HasItems el.automaton.initial) (elements file)
      (each_then (IsElement file) (λ el. HasItems el.automaton.initial) (λ el is. (judged_element file c el is).form.begins) (elements file) (elements_are file c))

  -- ---- edges
  element_edges : (el : Element) → IsElement file el → All (λ p. KnownEdge file el.number p.edge) (placed_edges el)
  element_edges el is =
      let j = judged_element file c el is in
      let a = el.automaton in
      All-from_recursion (λ (p : Placed). KnownEdge file el.number p.edge) (placed_edges el)
      (to_numbered (KnownEdge file el.number) (λ (p : Placed). KnownEdge file el.number p.edge) (λ i e. record { element = el; number = i; edge = e }) (λ i e h. h) 0 a.edges
      (edges_known file el.number j.names a.edges j.form.edges
      (each_rest (IsJudged file (own_vars file el.number)) (flat_map location_demands a.locations) (flat_map edge_demands a.edges)
      (each_rest (IsJudged file (own_vars file el.number)) (flat_map var_demands a.variables) (flat_map location_demands a.locations ++ flat_map edge_demands a.edges) j.demands))))

  pub edges_sound : All (λ el. All (λ p. KnownEdge file el.number p.edge) (placed_edges el)) (elements file)
  edges_sound =
      All-from_recursion (λ el. All (λ p. KnownEdge file el.number p.edge) (placed_edges el)) (elements file)
      (each_then (IsElement file) (λ el. All (λ p. KnownEdge file el.number p.edge) (placed_edges el)) element_edges (elements file) (elements_are file c))
