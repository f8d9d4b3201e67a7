-- What a file without faults has of its demands, part by part.
use Rattle.std.specs.Prelude.{◌≡◌, ℕ, ◌+◌, List, [], ◌∷◌, map, true, Option, Some, None}
use Rattle.std.specs.List.{flat_map, list_all, AllByRecursion as Each}
use Rattle.basics.specs.Lists.{append_parts}
use Rattle.basics.specs.Each.{each_then, each_with, each_join, each_parts, each_of, empty_each}
use Rattle.bridge_io.specs.declared.reason.Reason.TheVariants.{NotConstant}
use Rattle.op_trees.specs.declared.tree.Ty.{Ty}
use Rattle.op_trees.specs.declared.tree.Ty.TheVariants as T
use Rattle.op_trees.specs.Names.{offset_of}
use Rattle.basics.specs.Options.{if_some, IfAny}
use Rattle.prism_tree.specs.Syntax.{Expression, Const, Range, Var, Label, Body, Module, plain, copied, Item, File}
use Rattle.prism_names.specs.Names.{part_of}
use Rattle.prism_flat.specs.Kept.{is_plain}
use Rattle.op_trees.specs.Wanted.{wanted_by}
use Rattle.prism_check.specs.Demands.{Demand, fixed, varying, var_type, const_demands, range_demands, var_demands, command_demands, label_demands, item_demands, rewards_demands, part_demands, formula_demands, init_demands, outer_demands}
use Rattle.prism_check.specs.NameFaults.{unknown, unknown_in}
use Rattle.prism_check.specs.TypeFaults.{types, type_faults_of, has_variable, demand_faults, repeated_writes, part_faults, numbered_faults}
use Rattle.name_rules.specs.Least.{fault_if}
use Rattle.name_rules.proofs.Plain.{no_fault}
use Rattle.prism_check.specs.Flattened.{IsFlat}
use Rattle.jani_translation.specs.Asks.{contents, bodies, variables}
use Rattle.prism_check.proofs.NoFaults.{all_known}
use Rattle.prism_check.proofs.Typed.{HasType, has_wanted_type, no_name_fault, no_type_fault}
use Rattle.jani_translation_laws.proofs.Expressions.{IsFixed}

-- what holds of each of the modules and its number
abbrev pub EachFrom : {A : Type 0} → (ℕ → A → Type 0) → ℕ → List A → Type 0
EachFrom P i [] = Unit {0}
EachFrom P i (x ∷ xs) = P i x × EachFrom P (i + 1) xs

module _ (file : File) (flat : IsFlat file) where
  -- in the module of this number a demand has no fault of types and none of names
  abbrev pub IsFine : ℕ → Demand → Type 0
  IsFine i d = (demand_faults file i d ≡ []) × (unknown file d ≡ [])

  fixed_fine : (i : ℕ) (w : Ty) (e : Expression) → IsFine i (fixed (wanted_by w) e) → IsFixed file flat w e
  fixed_fine i w e h =
      let r = append_parts (type_faults_of (types file) (wanted_by w) e) (fault_if (has_variable file e) (offset_of e) NotConstant) h.0 in
      (has_wanted_type file flat w e (all_known file e h.1) r.0, no_fault (has_variable file e) (offset_of e) NotConstant r.1)

  varying_fine : (i : ℕ) (w : Ty) (e : Expression) → IsFine i (varying (wanted_by w) e) → HasType file w e
  varying_fine i w e h = has_wanted_type file flat w e (all_known file e h.1) h.0

  -- ---- all demands of the file
  fine_all : (i : ℕ) (ds : List Demand) → flat_map (demand_faults file i) ds ≡ [] → flat_map (unknown file) ds ≡ [] → Each (IsFine i) ds
  fine_all i ds h k =
      each_with (λ d. demand_faults file i d ≡ []) (λ d. unknown file d ≡ []) (IsFine i) (λ d a b. (a, b)) ds
      (empty_each (demand_faults file i) ds h) (empty_each (unknown file) ds k)

  all_types : (flat_map (demand_faults file 0) (outer_demands file) ≡ []) × (numbered_faults file 0 file.modules ≡ [])
  all_types =
      let r = append_parts (flat_map (demand_faults file 0) (outer_demands file)) _ (no_type_fault file flat) in
      (r.0, (append_parts (flat_map (demand_faults file 0) (flat_map formula_demands file.formulas)) (numbered_faults file 0 file.modules) r.1).1)

  all_names : (flat_map (unknown file) (outer_demands file) ≡ []) × (flat_map (unknown_in file) file.modules ≡ [])
  all_names =
      let r = append_parts (flat_map (unknown file) (outer_demands file)) _ (no_name_fault file flat).unknown in
      (r.0, (append_parts (flat_map (unknown file) (flat_map formula_demands file.formulas)) (flat_map (unknown_in file) file.modules) r.1).1)

  outer_fine : Each (IsFine 0) (outer_demands file)
  outer_fine = fine_all 0 (outer_demands file) all_types.0 all_names.0

  -- ---- modules
  abbrev pub IsFineBody : ℕ → Body → Type 0
  IsFineBody i m =
      Each (IsFine i) (flat_map var_demands m.vars) × Each (IsFine i) (flat_map command_demands m.commands) × (flat_map repeated_writes m.commands ≡ [])

  modules_fine : (i : ℕ) (ms : List Module) → list_all is_plain ms ≡ true → numbered_faults file i ms ≡ [] → flat_map (unknown_in file) ms ≡ [] →
      EachFrom IsFineBody i (map contents ms)
  modules_fine i [] p h k = tt
  modules_fine i (plain m ∷ ms) p h k =
      let r = append_parts (part_faults file i (part_of file (plain m))) (numbered_faults file (i + 1) ms) h in
      let s = append_parts (flat_map (unknown file) (part_demands (part_of file (plain m)))) (flat_map (unknown_in file) ms) k in
      let t = append_parts (flat_map (demand_faults file i) (part_demands (part_of file (plain m)))) (flat_map repeated_writes m.commands) r.0 in
      let u = each_parts (IsFine i) (flat_map var_demands m.vars) (flat_map command_demands m.commands) (fine_all i (part_demands (part_of file (plain m))) t.0 s.0) in
      ((u.0, u.1, t.1), modules_fine (i + 1) ms p r.1 s.1)
  modules_fine i (copied m ∷ ms) p h k = absurd cc

  pub bodies_fine : EachFrom IsFineBody 0 (bodies file)
  bodies_fine = modules_fine 0 file.modules flat.form.modules all_types.1 all_names.1

  -- ---- constants
  abbrev pub IsFineConst : Const → Type 0
  IsFineConst c = IfAny (IsFixed file flat c.ty) c.value

  const_fine : (t : Ty) (o : Option Expression) → Each (IsFine 0) (map (fixed (wanted_by t)) (if_some o)) → IfAny (IsFixed file flat t) o
  const_fine t None h = tt
  const_fine t (Some e) h = fixed_fine 0 t e h.0

  pub consts_fine : Each IsFineConst file.constants
  consts_fine =
      let r = each_parts (IsFine 0) (flat_map const_demands file.constants) _ outer_fine in
      each_then (λ c. Each (IsFine 0) (const_demands c)) IsFineConst (λ c h. const_fine c.ty c.value h) file.constants (each_of (IsFine 0) const_demands file.constants r.0)

  -- ---- variables
  abbrev pub IsFineRange : Option Range → Type 0
  IsFineRange r = IfAny (λ r. IsFixed file flat T.Int r.low × IsFixed file flat T.Int r.high) r

  abbrev pub IsFineVar : Var → Type 0
  IsFineVar v = IsFineRange v.range × IfAny (IsFixed file flat (var_type v)) v.start

  range_fine : (i : ℕ) (r : Option Range) → Each (IsFine i) (range_demands r) → IsFineRange r
  range_fine i None h = tt
  range_fine i (Some r) h = (fixed_fine i T.Int r.low h.0, fixed_fine i T.Int r.high h.1.0)

  start_fine : (i : ℕ) (t : Ty) (o : Option Expression) → Each (IsFine i) (map (fixed (wanted_by t)) (if_some o)) → IfAny (IsFixed file flat t) o
  start_fine i t None h = tt
  start_fine i t (Some e) h = fixed_fine i t e h.0

  vars_fine : (i : ℕ) (vs : List Var) → Each (IsFine i) (flat_map var_demands vs) → Each IsFineVar vs
  vars_fine i vs h =
      each_then (λ v. Each (IsFine i) (var_demands v)) IsFineVar
      (λ v k. let r = each_parts (IsFine i) (range_demands v.range) (map (fixed (wanted_by (var_type v))) (if_some v.start)) k in
      (range_fine i v.range r.0, start_fine i (var_type v) v.start r.1)) vs (each_of (IsFine i) var_demands vs h)

  own_fine : (i : ℕ) (ms : List Body) → EachFrom IsFineBody i ms → Each IsFineVar (flat_map (λ m. m.vars) ms)
  own_fine i [] h = tt
  own_fine i (m ∷ ms) h = each_join IsFineVar m.vars (flat_map (λ m. m.vars) ms) (vars_fine i m.vars h.0.0) (own_fine (i + 1) ms h.1)

  pub variables_fine : Each IsFineVar (variables file)
  variables_fine =
      let r = each_parts (IsFine 0) (flat_map const_demands file.constants) _ outer_fine in
      let s = each_parts (IsFine 0) (flat_map var_demands file.globals) _ r.1 in
      each_join IsFineVar file.globals (flat_map (λ m. m.vars) (bodies file)) (vars_fine 0 file.globals s.0) (own_fine 0 (bodies file) bodies_fine)

  -- ---- labels and items
  abbrev pub IsFineLabel : Label → Type 0
  IsFineLabel l = HasType file T.Bool l.body

  abbrev pub IsFineItem : Item → Type 0
  IsFineItem i = HasType file T.Bool i.guard × HasType file T.Real i.value

  last_fine : Each (IsFine 0) (flat_map label_demands file.labels) × (Each (IsFine 0) (flat_map rewards_demands file.rewards) × Each (IsFine 0) (init_demands file.init))
  last_fine =
      let r = each_parts (IsFine 0) (flat_map const_demands file.constants) _ outer_fine in
      let s = each_parts (IsFine 0) (flat_map var_demands file.globals) _ r.1 in
      let t = each_parts (IsFine 0) (flat_map label_demands file.labels) _ s.1 in
      (t.0, each_parts (IsFine 0) (flat_map rewards_demands file.rewards) (init_demands file.init) t.1)

  pub labels_fine : Each IsFineLabel file.labels
  labels_fine =
      each_then (λ l. Each (IsFine 0) (label_demands l)) IsFineLabel (λ l h. varying_fine 0 T.Bool l.body h.0) file.labels
      (each_of (IsFine 0) label_demands file.labels last_fine.0)

  items_fine : (is : List Item) → Each (IsFine 0) (flat_map item_demands is) → Each IsFineItem is
  items_fine is h =
      each_then (λ i. Each (IsFine 0) (item_demands i)) IsFineItem (λ i k. (varying_fine 0 T.Bool i.guard k.0, varying_fine 0 T.Real i.value k.1.0)) is
      (each_of (IsFine 0) item_demands is h)

  pub rewards_fine : Each (λ r. Each IsFineItem r.items) file.rewards
  rewards_fine =
      each_then (λ r. Each (IsFine 0) (rewards_demands r)) (λ r. Each IsFineItem r.items) (λ r h. items_fine r.items h) file.rewards
      (each_of (IsFine 0) rewards_demands file.rewards last_fine.1.0)

  -- ---- the initial condition
  varying_if : (o : Option Expression) → Each (IsFine 0) (init_demands o) → IfAny (HasType file T.Bool) o
  varying_if None h = tt
  varying_if (Some e) h = varying_fine 0 T.Bool e h.0

  pub init_fine : IfAny (HasType file T.Bool) file.init
  init_fine = varying_if file.init last_fine.1.1
