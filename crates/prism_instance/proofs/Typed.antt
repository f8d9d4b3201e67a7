-- The values of constants have their types, so a variable without a range begins with a truth value.
use Rattle.std.proofs.Common.{Bool, ◌≡◌, ℕ, zero, suc, ◌+◌, List, [], ◌∷◌, map, length, true, false, not, Option, Some, None, IsTrue, refl, sym, ap, subst, ◌∙◌}
use Rattle.std.specs.Prelude.{bytes_eq}
use Rattle.std.specs.List.{flat_map, find, list_any, list_all, AllByRecursion as Each}
use Rattle.std.specs.Option.{option_map, option_or}
use Rattle.std.proofs.lemmas.List.Elements.{All-nil, All-cons}
use Rattle.basics.specs.Options.{if_some, IfAny}
use Rattle.basics.specs.Lists.{append_parts}
use Rattle.basics.specs.Each.{each_with, each_join, each_parts, each_of, empty_each, each_found}
use Rattle.bridge_io.specs.declared.reason.Reason.TheVariants.{NotConstant}
use Rattle.op_trees.specs.declared.tree.Ty.{Ty}
use Rattle.op_trees.specs.declared.tree.Ty.TheVariants as T
use Rattle.op_trees.specs.declared.tree.Value.{Value}
use Rattle.op_trees.specs.Meaning.{Environment, value_of}
use Rattle.op_trees.specs.Seen.{Seen, known, known_names}
use Rattle.op_trees.specs.SeenLaws.{names_all, seen_is}
use Rattle.op_trees.specs.Names.{names_of, offset_of, is_called}
use Rattle.op_trees.specs.Types.{AgreesWith, has_type}
use Rattle.op_trees.specs.TypeLaws.{value_agrees}
use Rattle.op_trees.specs.Wanted.{wider, wanted_by}
use Rattle.name_rules.specs.Least.{fault_if}
use Rattle.name_rules.specs.Names.{is_among}
use Rattle.name_rules.specs.Unknown.{unless_known}
use Rattle.process_core.specs.Ready.{Name}
use Rattle.process_core.specs.Instance.{Column, first_value}
use Rattle.process_core.specs.declared.data.Given.{Given}
use Rattle.prism_tree.specs.Operators.{prism_meaning}
use Rattle.prism_tree.specs.OperatorLaws.{prism_lawful}
use Rattle.prism_tree.specs.Syntax.{Expression, Const, Range, Var, Module, plain, copied, File}
use Rattle.prism_names.specs.Names.{unchanged, part_of, see, reading}
use Rattle.prism_check.specs.Kept.{is_plain}
use Rattle.prism_check.specs.FlatLaws.{found_after}
use Rattle.prism_check.specs.Scene.{constant_called, constant_seen, constant_value, constant_within, constant, constant_names, column, columns_of, has_condition}
use Rattle.prism_print.specs.Printable.{IsPrintableExpression, IsPrintableConst, IsPrintableVar, IsPrintableModule}
use Rattle.prism_print.proofs.Printable.{literals}
use Rattle.prism_check.specs.Demands.{Demand, fixed, var_type, const_demands, range_demands, var_demands, command_demands, part_demands, outer_demands, formula_demands}
use Rattle.prism_check.specs.NameFaults.{unknown, unknown_in, values}
use Rattle.prism_check.specs.TypeFaults.{demand_faults, has_variable, numbered_faults, part_faults, repeated_writes, type_faults_of, types, variable_called}
use Rattle.prism_check.proofs.NoFaults.{all_known}
use Rattle.prism_check.proofs.Typed.{has_wanted_type, no_name_fault, no_type_fault, types_declared}
use Rattle.prism_check.specs.Flattened.{IsFlat}
use Rattle.instance_start.specs.Firsts.{BeginRight, begins_right}
use Rattle.instance_start.proofs.Givens as givens
use Rattle.instance_start.proofs.Givens.{none_misfits, bool_right}
use Rattle.instance_start.specs.Given.{given_by, misfit, fits}
use Rattle.prism_instance.specs.Described.{opened}
use Rattle.prism_instance.specs.Variables.{all_variables, own_variables}
use Rattle.prism_instance.proofs.StartLaws.{columns_are}
use Rattle.prism_instance.proofs.Whole.{reads_plainly}

-- ---- given values
given_typed : (cs : List Const) (given : List Given) → list_any (λ g. not (fits (map opened cs) g)) given ≡ false →
    (x : Name) (c : Const) → find (λ d. is_called x d.name) cs ≡ Some c → (v : Value) → given_by given x ≡ Some v → IsTrue (has_type c.ty v)
given_typed cs given h x c f v e =
    givens.given_typed (map opened cs) given h x (opened c)
    (found_after (λ d. bytes_eq d.name x) (λ d. is_called x d.name) opened (λ d. refl) cs ∙ ap (option_map opened) f) v e

module _ (file : File) (flat : IsFlat file) where
  -- ---- expressions without a fault
  pub record IsFine (w : Ty) (e : Expression) : Type 0 where
    pub form : IsPrintableExpression e
    pub names : flat_map (unless_known (is_among (values file))) (names_of e) ≡ []
    pub types : type_faults_of (types file) (wanted_by w) e ≡ []

  fine_value : (env : Environment) → ((x : Name) → AgreesWith (types file x) (env x)) → (w : Ty) (e : Expression) → IsFine w e → (v : Value) → value_of prism_meaning e env ≡ Some v → IsTrue (has_type w v)
  fine_value env agree w e h v k =
      let t = has_wanted_type file flat w e (all_known file e h.names) h.types in
      wider w t.ty v t.wanted
      ((value_agrees prism_meaning prism_lawful (types file) env e (literals e h.form) (names_all (λ x. AgreesWith (types file x) (env x)) agree e)).agrees t.ty v t.is k)

  seen_value : (e : Expression) (env : Environment) → (see e (known_names env)).value ≡ value_of prism_meaning e env
  unfolding see
  seen_value e env = ap (λ s. s.value) (seen_is prism_meaning env e)

  read_value : (e : Expression) (env : Environment) → (see e (reading file (known_names env))).value ≡ value_of prism_meaning e env
  read_value e env = ap (λ n. (see e n).value) (reads_plainly file flat.form.formulas (known_names env)) ∙ seen_value e env

  -- ---- which expressions are
  abbrev Holds : ℕ → Demand → Type 0
  Holds i d = (demand_faults file i d ≡ []) × (unknown file d ≡ [])

  holds_all : (i : ℕ) (ds : List Demand) → flat_map (demand_faults file i) ds ≡ [] → flat_map (unknown file) ds ≡ [] → Each (Holds i) ds
  holds_all i ds h k =
      each_with (λ d. demand_faults file i d ≡ []) (λ d. unknown file d ≡ []) (Holds i) (λ d a b. (a, b)) ds
      (empty_each (demand_faults file i) ds h) (empty_each (unknown file) ds k)

  fixed_fine : (i : ℕ) (w : Ty) (e : Expression) → IsPrintableExpression e → Holds i (fixed (wanted_by w) e) → IsFine w e
  fixed_fine i w e f h = record {
    form = f;
    names = h.1;
    types = (append_parts (type_faults_of (types file) (wanted_by w) e) (fault_if (has_variable file e) (offset_of e) NotConstant) h.0).0;
  }

  if_fine : (i : ℕ) (w : Ty) (o : Option Expression) → IfAny IsPrintableExpression o → Each (Holds i) (map (fixed (wanted_by w)) (if_some o)) → IfAny (IsFine w) o
  if_fine i w None f h = tt
  if_fine i w (Some e) f h = fixed_fine i w e f h.0

  outer : Each (Holds 0) (outer_demands file)
  outer =
      holds_all 0 (outer_demands file) (append_parts (flat_map (demand_faults file 0) (outer_demands file)) _ (no_type_fault file flat)).0
      (append_parts (flat_map (unknown file) (outer_demands file)) _ (no_name_fault file flat).unknown).0

  consts_fine : Each (λ c. IfAny (IsFine c.ty) c.value) file.constants
  consts_fine =
      each_with IsPrintableConst (λ c. Each (Holds 0) (const_demands c)) (λ c. IfAny (IsFine c.ty) c.value) (λ c f h. if_fine 0 c.ty c.value f.1 h) file.constants flat.checked.form.constants
      (each_of (Holds 0) const_demands file.constants (each_parts (Holds 0) (flat_map const_demands file.constants) _ outer).0)

  abbrev IsFineVar : Var → Type 0
  IsFineVar x = IfAny (IsFine (var_type x)) x.start

  vars_fine : (i : ℕ) (xs : List Var) → Each IsPrintableVar xs → Each (Holds i) (flat_map var_demands xs) → Each IsFineVar xs
  vars_fine i xs f h =
      each_with IsPrintableVar (λ x. Each (Holds i) (var_demands x)) IsFineVar
      (λ x g k. if_fine i (var_type x) x.start g.2 (each_parts (Holds i) (range_demands x.range) (map (fixed (wanted_by (var_type x))) (if_some x.start)) k).1) xs f
      (each_of (Holds i) var_demands xs h)

  own_fine : (i : ℕ) (ms : List Module) → list_all is_plain ms ≡ true → Each IsPrintableModule ms → numbered_faults file i ms ≡ [] → flat_map (unknown_in file) ms ≡ [] → Each IsFineVar (flat_map own_variables ms)
  own_fine i [] p f h k = tt
  own_fine i (plain m ∷ ms) p f h k =
      let part = part_of file (plain m) in
      let r = append_parts (part_faults file i part) (numbered_faults file (i + 1) ms) h in
      let s = append_parts (flat_map (unknown file) (part_demands part)) (flat_map (unknown_in file) ms) k in
      let t = append_parts (flat_map (demand_faults file i) (part_demands part)) (flat_map repeated_writes m.commands) r.0 in
      each_join IsFineVar m.vars (flat_map own_variables ms)
      (vars_fine i m.vars f.0.1 (each_parts (Holds i) (flat_map var_demands m.vars) (flat_map command_demands m.commands) (holds_all i (part_demands part) t.0 s.0)).0)
      (own_fine (i + 1) ms p f.1 r.1 s.1)
  own_fine i (copied m ∷ ms) p f h k = absurd cc

  all_fine : Each IsFineVar (all_variables file)
  all_fine =
      let a = each_parts (Holds 0) (flat_map const_demands file.constants) _ outer in
      let b = each_parts (Holds 0) (flat_map var_demands file.globals) _ a.1 in
      let t = append_parts (flat_map (demand_faults file 0) (outer_demands file)) _ (no_type_fault file flat) in
      let u = append_parts (flat_map (unknown file) (outer_demands file)) _ (no_name_fault file flat).unknown in
      each_join IsFineVar file.globals (flat_map own_variables file.modules) (vars_fine 0 file.globals flat.checked.form.globals b.0)
      (own_fine 0 file.modules flat.form.modules flat.checked.form.modules
      (append_parts (flat_map (demand_faults file 0) (flat_map formula_demands file.formulas)) (numbered_faults file 0 file.modules) t.1).1
      (append_parts (flat_map (unknown file) (flat_map formula_demands file.formulas)) (flat_map (unknown_in file) file.modules) u.1).1)

  -- ---- constants have their types
  module _ (given : List Given) (m : misfit (map opened file.constants) given ≡ None) where
    const_typed : (n : ℕ) (x : Name) → AgreesWith (types file x) (constant_within file (given_by given) n x)
    const_typed zero x = record { agrees = λ t v h k. absurd cc }
    const_typed (suc n) x = by_const (const_typed n) (constant_called file x) refl (each_found (λ c. IfAny (IsFine c.ty) c.value) (λ c. is_called x c.name) file.constants consts_fine)
      where
        names : Name → Seen
        names = reading file (λ y. known (constant_within file (given_by given) n y))

        by_value : ((y : Name) → AgreesWith (types file y) (constant_within file (given_by given) n y)) → (c : Const) → constant_called file x ≡ Some c → (o : Option Expression) → IfAny (IsFine c.ty) o → (v : Value) → (constant_seen (given_by given x) names o).value ≡ Some v → IsTrue (has_type c.ty v)
        by_value r c e None f v k = given_typed file.constants given (none_misfits (map opened file.constants) given m) x c e v k
        by_value r c e (Some b) f v k = fine_value (constant_within file (given_by given) n) r c.ty b f v (sym (read_value b (constant_within file (given_by given) n)) ∙ k)

        by_const : ((y : Name) → AgreesWith (types file y) (constant_within file (given_by given) n y)) → (o : Option Const) → constant_called file x ≡ o → IfAny (λ c. IfAny (IsFine c.ty) c.value) o → AgreesWith (types file x) (constant_value (given_by given x) names o)
        by_const r None e f = record { agrees = λ t v h k. absurd cc }
        by_const r (Some c) e f = record {
          agrees = λ t v h k.
              let s : Some c.ty ≡ Some t = sym (types_declared file flat x ∙ ap (λ o. option_or (option_map (λ d. d.ty) o) (option_map (λ w. w.ty) (variable_called file x))) e) ∙ h in
              subst (λ u. IsTrue (has_type u v)) (let z : c.ty ≡ t = cc in z) (by_value r c e c.value f v k);
        }

    -- ---- first values
    abbrev columns_by : Bool → Var → Column
    columns_by c x = column c unchanged (constant_names file (given_by given) unchanged) x

    abbrev BeginsRight : Column → Type 0
    BeginsRight c = begins_right c.domain (first_value c) ≡ true

    begin_one : (c : Bool) (x : Var) → IsFineVar x → BeginsRight (columns_by c x)
    begin_one c x f = by_range c x.range x.start f
      where
        by_range : (c : Bool) (r : Option Range) (o : Option Expression) → IfAny (IsFine (var_type (record { name = x.name; range = r; start = o }))) o → BeginsRight (columns_by c (record { name = x.name; range = r; start = o }))
        by_range c (Some r) o f = refl
        by_range true None o f = refl
        by_range false None None f = refl
        by_range false None (Some e) f =
            bool_right (see e (constant_names file (given_by given) unchanged)).value
            (λ v k. fine_value (constant file (given_by given)) (const_typed (length file.constants)) T.Bool e f v (sym (read_value e (constant file (given_by given))) ∙ k))

    begin_all : (c : Bool) (xs : List Var) → Each IsFineVar xs → BeginRight (map (columns_by c) xs)
    begin_all c [] h = All-nil BeginsRight
    begin_all c (x ∷ xs) h = All-cons BeginsRight (columns_by c x) (map (columns_by c) xs) (begin_one c x h.0) (begin_all c xs h.1)

    pub begin_right : BeginRight (columns_of file (given_by given))
    begin_right = subst BeginRight (columns_are file (given_by given) flat.form) (begin_all (has_condition file) (all_variables file) all_fine)
