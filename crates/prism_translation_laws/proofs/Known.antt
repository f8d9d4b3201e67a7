-- What is known of a JANI file without fault: its expressions have the form of trees, and each of their names is that of a constant
-- or of a variable that isn't transient.
use Rattle.std.specs.List.{flat_map, AllByRecursion as Each}
use Rattle.std.specs.Prelude.{◌≡◌, ℕ, List, [], ◌∷◌, ◌++◌, map, Option, Some, None, unwrap_or}
use Rattle.basics.specs.Each.{each_then, each_with, each_rest, each_of, map_each, each_join}
use Rattle.op_trees.specs.Tree.{AllNames}
use Rattle.op_trees.specs.Names.{names_of}
use Rattle.process_core.specs.Ready.{Name}
use Rattle.process_core.specs.Instance.{numbered}
use Rattle.basics.specs.Lists.{IsNotEmpty as HasItems}
use Rattle.jani_tree.specs.Form.{ExprForm, KindForm, ConstRead, VarRead, WriteRead, LocationRead, DestinationRead, EdgeRead, AutomatonRead, RestrictionRead}
use Rattle.jani_tree.specs.Syntax.{Expression, Const, VarKind, boolean, integer, number, real_bounded, one_sided, bounded, Var, Write, Location, Destination, Edge, Automaton, File}
use Rattle.jani_check.specs.Things.{kind_type}
use Rattle.basics.specs.Options.{if_some, IfAny}
use Rattle.op_trees.specs.Wanted.{wanted_by}
use Rattle.op_trees.specs.declared.wanted.Wanted.TheVariants as W
use Rattle.jani_check.specs.Demands.{Demand, fixed, varying, assigned, given, const_demands, bound_demands, var_demands, location_demands, destination_demands, edge_demands, automaton_demands}
use Rattle.jani_check.specs.ProfileFaults.{start_faults}
use Rattle.jani_check.specs.Faults.{IsChecked}
use Rattle.jani_check.proofs.Profiled.{operands}
use Rattle.jani_meaning.specs.Elements as jani
use Rattle.jani_meaning.specs.Elements.{Owned, owned_by}
use Rattle.prism_translation.specs.PrismAsks.{outside}
use Rattle.prism_translation.specs.Elements.{Element, elements}
use Rattle.prism_translation.specs.Sound.{IsKnown}
use Rattle.prism_translation.proofs.Lists.{of_front, of_numbered}
use Rattle.prism_translation.proofs.Scopes.{own_vars, NamesApart}
use Rattle.prism_translation.proofs.Clean.{IsJudged, starts_outside, names_outside, demands_outside}
use Rattle.prism_translation.proofs.Expressions.{known_names, known_assigned, known_given}
use Rattle.prism_translation.proofs.Elements.{IsElement, elements_are, judged_element}
use Rattle.prism_translation_laws.proofs.Lists.{any_then}

-- ---- parts of a file that have the form of trees, and name what is known
module _ (P : Name → Type 0) where
  abbrev pub Fine : Expression → Type 0
  Fine e = (ExprForm HasItems) e × AllNames P e

  abbrev pub FineKind : VarKind → Type 0
  FineKind boolean = Unit {0}
  FineKind integer = Unit {0}
  FineKind number = Unit {0}
  FineKind real_bounded = Unit {0}
  FineKind one_sided = Unit {0}
  FineKind (bounded low high) = Fine low × Fine high

  abbrev pub FineVar : Var → Type 0
  FineVar x = FineKind x.kind × IfAny Fine x.start

  abbrev pub FineWrite : Write → Type 0
  FineWrite w = Fine w.value

  abbrev pub FineLocation : Location → Type 0
  FineLocation l = Each FineWrite l.values

  abbrev pub FineDestination : Destination → Type 0
  FineDestination d = IfAny Fine d.weight × Each FineWrite d.writes

  abbrev pub FineEdge : Edge → Type 0
  FineEdge e = IfAny Fine e.guard × HasItems e.destinations × Each FineDestination e.destinations

  abbrev pub FineAutomaton : Automaton → Type 0
  FineAutomaton a = Each FineVar a.variables × Each FineLocation a.locations × Each FineEdge a.edges

-- ---- by what is known in an element, or outside of all
module _ (file : File) (k : ℕ) (names : NamesApart file (own_vars file k)) where
  abbrev Judged : Demand → Type 0
  Judged = IsJudged file (own_vars file k)

  abbrev P : Name → Type 0
  P = IsKnown file k

  fine_by : (demand : Expression → Demand) → ((e : Expression) → Judged (demand e) → AllNames P e) → (o : Option Expression) → IfAny (ExprForm HasItems) o →
      Each Judged (map demand (if_some o)) → IfAny (Fine P) o
  fine_by demand t None f h = tt
  fine_by demand t (Some e) f h = (f, t e h.0)

  fixed_named : (w : _) (e : Expression) → Judged (fixed w e) → AllNames P e
  fixed_named w e j = known_names file k names e j.names j.profile

  varying_named : (w : _) (e : Expression) → Judged (varying w e) → AllNames P e
  varying_named w e j = known_names file k names e j.names j.profile

  fine_kind : (t : VarKind) → KindForm HasItems t → Each Judged (bound_demands t) → FineKind P t
  fine_kind boolean f h = tt
  fine_kind integer f h = tt
  fine_kind number f h = tt
  fine_kind real_bounded f h = tt
  fine_kind one_sided f h = tt
  fine_kind (bounded low high) f h = ((f.0, fixed_named _ low h.0), (f.1, fixed_named _ high h.1.0))

  fine_vars : (xs : List Var) → Each (VarRead HasItems) xs → Each Judged (flat_map var_demands xs) → Each (FineVar P) xs
  fine_vars xs f h =
      (each_with (VarRead HasItems) (λ x. Each Judged (var_demands x)) (FineVar P)
      (λ x g d. (
        fine_kind x.kind g.kind (of_front Judged (bound_demands x.kind) (map (fixed (wanted_by (kind_type x.kind))) (if_some x.start)) d),
        fine_by (fixed (wanted_by (kind_type x.kind))) (fixed_named (wanted_by (kind_type x.kind))) x.start g.start
            (each_rest Judged (bound_demands x.kind) (map (fixed (wanted_by (kind_type x.kind))) (if_some x.start)) d),
      )) xs f (each_of Judged var_demands xs h))

  fine_const : (c : Const) → ConstRead HasItems c → Each Judged (const_demands c) → IfAny (Fine P) c.value
  fine_const c f h = fine_by (fixed (wanted_by c.ty)) (fixed_named (wanted_by c.ty)) c.value f.value h

  fine_location : (l : Location) → LocationRead HasItems l → Each Judged (location_demands l) → FineLocation P l
  fine_location l f h =
      (each_with (WriteRead HasItems) (λ w. Judged (given w)) (FineWrite P) (λ w g j. (g.value, (known_given file k names w j (operands w.value g.value)).1)) l.values f.values
      (map_each Judged given l.values h))

  fine_destination : (d : Destination) → DestinationRead HasItems d → Each Judged (destination_demands d) → FineDestination P d
  fine_destination d f h = (
    fine_by (varying _) (varying_named _) d.weight f.weight (of_front Judged (map (varying _) (if_some d.weight)) (map assigned d.writes) h),
    (each_with (WriteRead HasItems) (λ w. Judged (assigned w)) (FineWrite P) (λ w g j. (g.value, (known_assigned file k names w j (operands w.value g.value)).1)) d.writes f.writes
        (map_each Judged assigned d.writes (each_rest Judged (map (varying _) (if_some d.weight)) (map assigned d.writes) h))),
  )

  fine_edge : (e : Edge) → EdgeRead HasItems e → Each Judged (edge_demands e) → FineEdge P e
  fine_edge e f h = (
    fine_by (varying _) (varying_named _) e.guard f.guard (of_front Judged (map (varying _) (if_some e.guard)) (flat_map destination_demands e.destinations) h),
    f.some,
    (each_with (DestinationRead HasItems) (λ d. Each Judged (destination_demands d)) (FineDestination P) fine_destination e.destinations f.destinations
        (each_of Judged destination_demands e.destinations (each_rest Judged (map (varying _) (if_some e.guard)) (flat_map destination_demands e.destinations) h))),
  )

  fine_automaton : (a : Automaton) → AutomatonRead HasItems a → Each Judged (automaton_demands a) → FineAutomaton P a
  fine_automaton a f h =
      let rest = each_rest Judged (flat_map var_demands a.variables) (flat_map location_demands a.locations ++ flat_map edge_demands a.edges) h in (
        fine_vars a.variables f.variables (of_front Judged (flat_map var_demands a.variables) (flat_map location_demands a.locations ++ flat_map edge_demands a.edges) h),
        (each_with (LocationRead HasItems) (λ l. Each Judged (location_demands l)) (FineLocation P) fine_location a.locations f.locations
            (each_of Judged location_demands a.locations (of_front Judged (flat_map location_demands a.locations) (flat_map edge_demands a.edges) rest))),
        (each_with (EdgeRead HasItems) (λ e. Each Judged (edge_demands e)) (FineEdge P) fine_edge a.edges f.edges
            (each_of Judged edge_demands a.edges (each_rest Judged (flat_map location_demands a.locations) (flat_map edge_demands a.edges) rest))),
      )

-- ---- a file
-- a variable, where its element knows its names, and its first value has no fault
pub record FineOwned (file : File) (o : Owned) : Type 0 where
  pub var : FineVar (IsKnown file (unwrap_or o.owner (outside file))) o.var
  pub start : start_faults o.var ≡ []

abbrev pub FineElement : File → Element → Type 0
FineElement file el = FineAutomaton (IsKnown file el.number) el.automaton

pub record IsFine (file : File) : Type 0 where
  pub constants : Each (λ c. IfAny (Fine (IsKnown file (outside file))) c.value) file.constants
  pub variables : Each (FineOwned file) (jani.variables file)
  pub restrict : IfAny (Fine (IsKnown file (outside file))) file.restrict
  pub elements : Each (FineElement file) (elements file)

owned_fine : (file : File) (o : Option ℕ) (xs : List Var) → Each (FineVar (IsKnown file (unwrap_or o (outside file)))) xs → Each (λ x. start_faults x ≡ []) xs → Each (FineOwned file) (owned_by o xs)
owned_fine file o [] h k = tt
owned_fine file o (x ∷ xs) h k = (record { var = h.0; start = k.0 }, owned_fine file o xs h.1 k.1)

module _ (file : File) (checked : IsChecked file) where
  element_fine : (el : Element) → IsElement file el → FineElement file el
  element_fine el is = let j = judged_element file checked el is in fine_automaton file el.number j.names el.automaton j.form j.demands

  abbrev J : Demand → Type 0
  J = IsJudged file (own_vars file (outside file))

  pub is_fine : IsFine file
  is_fine =
      let P = IsKnown file (outside file) in
      let names = names_outside file checked in
      let restricting = map (varying W.Bool) (if_some file.restrict) in
      let rest = each_rest J (flat_map const_demands file.constants) (flat_map var_demands file.variables ++ restricting) (demands_outside file checked) in
      let met = demands_outside file checked in
      record {
        constants =
            (each_with (ConstRead HasItems) (λ c. Each J (const_demands c)) (λ c. IfAny (Fine P) c.value) (fine_const file (outside file) names) file.constants checked.form.constants
            (each_of J const_demands file.constants (of_front J (flat_map const_demands file.constants) (flat_map var_demands file.variables ++ restricting) met)));
        variables =
            (each_join (FineOwned file) (owned_by None file.variables) (numbered (λ i a. owned_by (Some i) a.variables) 0 (jani.elements file))
            (owned_fine file None file.variables
            (fine_vars file (outside file) names file.variables checked.form.variables (of_front J (flat_map var_demands file.variables) restricting rest))
            (starts_outside file checked))
            (of_numbered (IsElement file) (FineOwned file) (λ i a. record { number = i; automaton = a }) (λ i a. owned_by (Some i) a.variables)
            (λ i a is. owned_fine file (Some i) a.variables (element_fine (record { number = i; automaton = a }) is).0 (judged_element file checked (record { number = i; automaton = a }) is).starts)
            0 (jani.elements file) (elements_are file checked)));
        restrict =
            fine_by file (outside file) names (varying W.Bool) (varying_named file (outside file) names W.Bool) file.restrict
            (any_then (RestrictionRead HasItems) (ExprForm HasItems) (λ e r. r.expression) file.restrict checked.form.restrict)
            (each_rest J (flat_map var_demands file.variables) restricting rest);
        elements = (each_then (IsElement file) (FineElement file) element_fine (elements file) (elements_are file checked));
      }
