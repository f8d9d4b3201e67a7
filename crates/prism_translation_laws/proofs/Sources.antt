-- What a JANI file without fault has of its demands, part by part.
use Rattle.std.specs.Prelude.{◌≡◌, ℕ, List, [], ◌++◌, map, true, false, Option, Some, None, IsTrue, is_some, unwrap_or}
use Rattle.std.specs.List.{flat_map, All, AllByRecursion as Each}
use Rattle.std.proofs.Common.{refl, sym, ap, subst, ◌∙◌}
use Rattle.std.proofs.lemmas.List.Elements.{All-from_recursion}
use Rattle.basics.specs.Lists.{append_parts}
use Rattle.basics.specs.Each.{each_then, each_with, map_each, each_parts, each_of, empty_each, each_then as of_weaker}
use Rattle.bridge_io.specs.declared.reason.Reason.TheVariants.{NotConstant, ForeignWrite, LabelOnEdge, TransientRead}
use Rattle.bridge_io.specs.declared.reason.Reason.{Reason}
use Rattle.op_trees.specs.declared.tree.Ty.{Ty}
use Rattle.op_trees.specs.declared.tree.Ty.TheVariants as T
use Rattle.op_trees.specs.Tree.{AllNames}
use Rattle.op_trees.specs.Types.{Types}
use Rattle.op_trees.specs.Names.{offset_of, names_of}
use Rattle.op_trees.specs.NameLaws.{names_with, none_named}
use Rattle.op_trees.specs.TypeLaws.{names_typed}
use Rattle.prism_check.proofs.NamesIn.{listed_names}
use Rattle.jani_table.specs.Operators.{jani_meaning}
use Rattle.jani_tree.specs.Syntax.{Expression, VarKind, boolean, integer, number, real_bounded, one_sided, bounded, Var, Write, Location, Destination, Edge, Automaton, File}
use Rattle.name_rules.specs.Least.{fault, fault_if}
use Rattle.name_rules.proofs.Plain.{no_fault}
use Rattle.jani_check.specs.Things.{kind_type, const_called, var_called, global_thing, beside, types_by, is_constant, is_transient, is_label}
use Rattle.basics.specs.Options.{if_some, IfAny}
use Rattle.op_trees.specs.Wanted.{wanted_by}
use Rattle.jani_check.specs.Demands.{Demand, fixed, varying, assigned, given, const_demands, bound_demands, var_demands, location_demands, destination_demands, edge_demands, outer_demands}
use Rattle.jani_check.specs.TypeFaults.{kind_fault, var_faults, type_faults_of, is_variable, has_variable, wanted_at, repeated, edge_repeats}
use Rattle.jani_check.specs.ProfileFaults.{read_fault, reads}
use Rattle.jani_check.specs.Faults.{IsChecked}
use Rattle.jani_meaning.specs.Elements as jani
use Rattle.jani_meaning.specs.Elements.{Owned, variables}
use Rattle.prism_translation.specs.PrismAsks.{outside}
use Rattle.prism_translation_laws.specs.TypeLaws.{own_variables}
use Rattle.prism_translation_laws.proofs.TypedImages.{HasType, has_type, is_typed}
use Rattle.prism_translation_laws.proofs.TypedScopes.{each_at, variables_all, own_are, constant_left, wanted_is}
use Rattle.prism_translation.proofs.Clean.{IsJudged, IsJudgedIn, kinds_outside, judged_outside, none_outside}
use Rattle.prism_translation.proofs.Elements.{judged_elements}

module _ (file : File) where
  -- the types of names beside these variables
  abbrev pub types_beside : List Var → Types
  types_beside vs = types_by (beside (global_thing file) vs)

  -- an expression of a type that is wanted, that reads no transient variable; and one that names constants alone
  abbrev pub IsFine : List Var → Ty → Expression → Type 0
  IsFine vs w e = HasType (types_beside vs) w e × AllNames (λ x. is_transient (beside (global_thing file) vs x) ≡ false) e

  abbrev pub IsFixed : List Var → Ty → Expression → Type 0
  IsFixed vs w e = HasType (types_beside vs) w e × AllNames (λ x. is_constant (beside (global_thing file) vs x) ≡ true) e

  -- ---- demands
  abbrev IsMet : List Var → Demand → Type 0
  IsMet vs d = IsJudged file vs d

  not_read : (vs : List Var) (e : Expression) → reads (beside (global_thing file) vs) e ≡ [] → AllNames (λ x. is_transient (beside (global_thing file) vs x) ≡ false) e
  not_read vs e h =
      listed_names (λ x. is_transient (beside (global_thing file) vs x) ≡ false) e
      (each_then (λ n. read_fault (beside (global_thing file) vs) n ≡ []) (λ n. is_transient (beside (global_thing file) vs n.name) ≡ false)
      (λ n k. no_fault (is_transient (beside (global_thing file) vs n.name)) n.at TransientRead k) (names_of e)
      (empty_each (read_fault (beside (global_thing file) vs)) (names_of e) h))

  fixed_met : (vs : List Var) (w : Ty) (e : Expression) → IsMet vs (fixed (wanted_by w) e) → IsFixed vs w e
  fixed_met vs w e h =
      let r = append_parts (type_faults_of (types_beside vs) (wanted_by w) e) (fault_if (has_variable (beside (global_thing file) vs) e) (offset_of e) NotConstant) h.types in
      let typed = has_type (types_beside vs) w e r.0 in (
        typed,
        names_with (λ x. is_variable (beside (global_thing file) vs x) ≡ false) (λ x. IsTrue (is_some (types_beside vs x))) (λ x. is_constant (beside (global_thing file) vs x) ≡ true)
            (λ x k s. constant_left (const_called file x) (var_called file.variables x) (var_called vs x) k s) e
            (none_named (λ x. is_variable (beside (global_thing file) vs x)) e (no_fault (has_variable (beside (global_thing file) vs) e) (offset_of e) NotConstant r.1))
            (names_typed jani_meaning (types_beside vs) e (is_typed (types_beside vs) w e typed)),
      )

  varying_met : (vs : List Var) (w : Ty) (e : Expression) → IsMet vs (varying (wanted_by w) e) → IsFine vs w e
  varying_met vs w e h = (has_type (types_beside vs) w e h.types, not_read vs e h.profile)

  -- what is assigned has the type of what it is assigned to
  abbrev pub IsFineWrite : List Var → Write → Type 0
  IsFineWrite vs w = (t : Ty) → types_beside vs w.target.name ≡ Some t → IsFine vs t w.value

  value_fine : (vs : List Var) (w : Write) → type_faults_of (types_beside vs) (wanted_at (beside (global_thing file) vs w.target.name)) w.value ≡ [] → reads (beside (global_thing file) vs) w.value ≡ [] →
      IsFineWrite vs w
  value_fine vs w h k t e = (
    has_type (types_beside vs) t w.value
        (ap (λ z. type_faults_of (types_beside vs) z w.value) (sym (wanted_is (const_called file w.target.name) (var_called file.variables w.target.name) (var_called vs w.target.name) t e)) ∙ h),
    not_read vs w.value k,
  )

  assigned_met : (vs : List Var) (w : Write) → IsMet vs (assigned w) → IsFineWrite vs w
  assigned_met vs w h =
      let r = append_parts (fault_if (is_constant (beside (global_thing file) vs w.target.name)) w.target.at ForeignWrite) _ h.types in
      let s = append_parts (fault_if (is_label (beside (global_thing file) vs w.target.name)) w.target.at LabelOnEdge) (reads (beside (global_thing file) vs) w.value) h.profile in
      value_fine vs w r.1 s.1

  given_met : (vs : List Var) (w : Write) → IsMet vs (given w) → IsFineWrite vs w
  given_met vs w h = value_fine vs w (append_parts (fault_if _ w.target.at ForeignWrite) _ h.types).1 h.profile

  -- ---- parts
  abbrev pub IsFineKind : List Var → VarKind → Type 0
  IsFineKind vs (bounded low high) = IsFixed vs T.Int low × IsFixed vs T.Int high
  IsFineKind vs boolean = Unit {0}
  IsFineKind vs integer = Unit {0}
  IsFineKind vs number = Unit {0}
  IsFineKind vs real_bounded = Unit {0}
  IsFineKind vs one_sided = Unit {0}

  abbrev pub IsFineVar : List Var → Var → Type 0
  IsFineVar vs v = (kind_fault v.transient v.kind ≡ None) × IsFineKind vs v.kind × IfAny (IsFixed vs (kind_type v.kind)) v.start

  abbrev pub IsFineDestination : List Var → Destination → Type 0
  IsFineDestination vs d = IfAny (IsFine vs T.Real) d.weight × Each (IsFineWrite vs) d.writes × (repeated d.writes ≡ [])

  abbrev pub IsFineEdge : List Var → Edge → Type 0
  IsFineEdge vs e = IfAny (IsFine vs T.Bool) e.guard × Each (IsFineDestination vs) e.destinations

  pub record IsFineAutomaton (a : Automaton) : Type 0 where
    pub vars : Each (IsFineVar a.variables) a.variables
    pub locations : Each (λ l. Each (IsFineWrite a.variables) l.values) a.locations
    pub edges : Each (IsFineEdge a.variables) a.edges

  if_fixed : (vs : List Var) (w : Ty) (o : Option Expression) → Each (IsMet vs) (map (fixed (wanted_by w)) (if_some o)) → IfAny (IsFixed vs w) o
  if_fixed vs w None h = tt
  if_fixed vs w (Some e) h = fixed_met vs w e h.0

  if_varying : (vs : List Var) (w : Ty) (o : Option Expression) → Each (IsMet vs) (map (varying (wanted_by w)) (if_some o)) → IfAny (IsFine vs w) o
  if_varying vs w None h = tt
  if_varying vs w (Some e) h = varying_met vs w e h.0

  kind_fine : (vs : List Var) (k : VarKind) → Each (IsMet vs) (bound_demands k) → IsFineKind vs k
  kind_fine vs (bounded low high) h = (fixed_met vs T.Int low h.0, fixed_met vs T.Int high h.1.0)
  kind_fine vs boolean h = tt
  kind_fine vs integer h = tt
  kind_fine vs number h = tt
  kind_fine vs real_bounded h = tt
  kind_fine vs one_sided h = tt

  no_reason : (at : ℕ) (o : Option Reason) → map (fault at) (if_some o) ≡ [] → o ≡ None
  no_reason at None h = refl
  no_reason at (Some r) h = absurd cc

  vars_fine : (vs xs : List Var) → flat_map var_faults xs ≡ [] → Each (IsMet vs) (flat_map var_demands xs) → Each (IsFineVar vs) xs
  vars_fine vs xs h k =
      each_with (λ v. var_faults v ≡ []) (λ v. Each (IsMet vs) (var_demands v)) (IsFineVar vs)
      (λ v a b. let r = each_parts (IsMet vs) (bound_demands v.kind) (map (fixed (wanted_by (kind_type v.kind))) (if_some v.start)) b in
      (no_reason v.kind_at (kind_fault v.transient v.kind) a, kind_fine vs v.kind r.0, if_fixed vs (kind_type v.kind) v.start r.1)) xs
      (empty_each var_faults xs h) (each_of (IsMet vs) var_demands xs k)

  location_fine : (vs : List Var) (ls : List Location) → Each (IsMet vs) (flat_map location_demands ls) → Each (λ l. Each (IsFineWrite vs) l.values) ls
  location_fine vs ls h =
      each_then (λ l. Each (IsMet vs) (location_demands l)) (λ l. Each (IsFineWrite vs) l.values)
      (λ l k. each_then (λ w. IsMet vs (given w)) (IsFineWrite vs) (given_met vs) l.values (map_each (IsMet vs) given l.values k)) ls
      (each_of (IsMet vs) location_demands ls h)

  destinations_fine : (vs : List Var) (ds : List Destination) → Each (IsMet vs) (flat_map destination_demands ds) → flat_map (λ d. repeated d.writes) ds ≡ [] → Each (IsFineDestination vs) ds
  destinations_fine vs ds h k =
      each_with (λ d. Each (IsMet vs) (destination_demands d)) (λ d. repeated d.writes ≡ []) (IsFineDestination vs)
      (λ d a b. let r = each_parts (IsMet vs) (map (varying (wanted_by T.Real)) (if_some d.weight)) (map assigned d.writes) a in
      (if_varying vs T.Real d.weight r.0, each_then (λ w. IsMet vs (assigned w)) (IsFineWrite vs) (assigned_met vs) d.writes (map_each (IsMet vs) assigned d.writes r.1), b)) ds
      (each_of (IsMet vs) destination_demands ds h) (empty_each (λ d. repeated d.writes) ds k)

  edges_fine : (vs : List Var) (es : List Edge) → Each (IsMet vs) (flat_map edge_demands es) → flat_map edge_repeats es ≡ [] → Each (IsFineEdge vs) es
  edges_fine vs es h k =
      each_with (λ e. Each (IsMet vs) (edge_demands e)) (λ e. edge_repeats e ≡ []) (IsFineEdge vs)
      (λ e a b. let r = each_parts (IsMet vs) (map (varying (wanted_by T.Bool)) (if_some e.guard)) (flat_map destination_demands e.destinations) a in
      (if_varying vs T.Bool e.guard r.0, destinations_fine vs e.destinations r.1 b)) es
      (each_of (IsMet vs) edge_demands es h) (empty_each edge_repeats es k)

  automaton_fine : (a : Automaton) → IsJudgedIn file a.variables a → IsFineAutomaton a
  automaton_fine a j =
      let m = j.demands in
      let p = each_parts (IsMet a.variables) (flat_map var_demands a.variables) (flat_map location_demands a.locations ++ flat_map edge_demands a.edges) m in
      let q = each_parts (IsMet a.variables) (flat_map location_demands a.locations) (flat_map edge_demands a.edges) p.1 in
      record { vars = vars_fine a.variables a.variables j.kinds p.0; locations = location_fine a.variables a.locations q.0; edges = edges_fine a.variables a.edges q.1 j.repeats }

module _ (file : File) (checked : IsChecked file) where
  -- ---- elements
  pub elements_fine : Each (IsFineAutomaton file) (jani.elements file)
  elements_fine =
      (of_weaker (λ a. IsJudgedIn file a.variables a) (IsFineAutomaton file) (automaton_fine file) (jani.elements file) (judged_elements file checked))

  -- ---- what stands outside of automata
  outer_met : Each (IsMet file []) (outer_demands file)
  outer_met = (judged_outside file checked)

  pub constants_fine : Each (λ c. IfAny (IsFixed file [] c.ty) c.value) file.constants
  constants_fine =
      let r = each_parts (IsMet file []) (flat_map const_demands file.constants) (flat_map var_demands file.variables ++ map (varying (wanted_by T.Bool)) (if_some file.restrict)) outer_met in
      each_then (λ c. Each (IsMet file []) (const_demands c)) (λ c. IfAny (IsFixed file [] c.ty) c.value) (λ c h. if_fixed file [] c.ty c.value h) file.constants
      (each_of (IsMet file []) const_demands file.constants r.0)

  behind_constants : Each (IsMet file []) (flat_map var_demands file.variables) × Each (IsMet file []) (map (varying (wanted_by T.Bool)) (if_some file.restrict))
  behind_constants =
      let restricting = map (varying (wanted_by T.Bool)) (if_some file.restrict) in
      let r = each_parts (IsMet file []) (flat_map const_demands file.constants) (flat_map var_demands file.variables ++ restricting) outer_met in
      each_parts (IsMet file []) (flat_map var_demands file.variables) restricting r.1

  globals_fine : Each (IsFineVar file []) file.variables
  globals_fine =
      vars_fine file [] file.variables (kinds_outside file checked) behind_constants.0

  pub restrict_fine : IfAny (IsFine file [] T.Bool) file.restrict
  restrict_fine = if_varying file [] T.Bool file.restrict behind_constants.1

  -- ---- all variables, each beside the own ones of its element
  abbrev pub IsFineOwned : Owned → Type 0
  IsFineOwned o = IsFineVar file (own_variables file (unwrap_or o.owner (outside file))) o.var

  pub variables_fine : All IsFineOwned (variables file)
  variables_fine =
      variables_all file IsFineOwned
      (All-from_recursion (λ v. IsFineOwned (record { owner = None; var = v })) file.variables
      (subst (λ vs. Each (IsFineVar file vs) file.variables) (sym (none_outside file checked)) globals_fine))
      (λ k a e. All-from_recursion (λ v. IsFineOwned (record { owner = Some k; var = v })) a.variables
      (subst (λ vs. Each (IsFineVar file vs) a.variables) (sym (own_are file k a e)) (each_at (IsFineAutomaton file) (jani.elements file) k a elements_fine e).vars))
