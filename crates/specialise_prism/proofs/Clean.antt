-- A specialised file has no fault of names and none of types.
use Rattle.std.specs.Prelude.{◌≡◌, ℕ, ◌+◌, List, [], ◌∷◌, ◌++◌, map, length, true, false, not, ◌&&◌, Option, Some, None, IsTrue, is_some, nat_eq, bytes_eq, if◌then◌else◌}
use Rattle.std.specs.List.{find, flat_map, list_all, AllByRecursion as Each}
use Rattle.std.specs.Option.{option_map, option_or as or_else}
use Rattle.std.proofs.Common.{refl, sym, subst, ap, ap₂, ◌∙◌, append-nil}
use Rattle.std.proofs.Math.Path.{fun_ext}
use Rattle.std.proofs.lemmas.List.{length-map}
use Rattle.basics.specs.Options.{IfAny, has_some, is_some-map}
use Rattle.basics.specs.Lists.{append_parts, append_both, empty_map}
use Rattle.basics.specs.Mapped.{mapped, walked}
use Rattle.basics.specs.Each.{each_then, each_with, each_join, each_parts, each_of, each_found, empty_each, each_empty, map_each}
use Rattle.bridge_io.specs.declared.reason.Named.{Named}
use Rattle.bridge_io.specs.declared.reason.Reason.TheVariants.{Unknown, Nothing, WrongType, NotConstant, WrittenTwice, TwiceNamed, TwoInits}
use Rattle.op_trees.specs.declared.tree.Ty.{Ty}
use Rattle.op_trees.specs.declared.tree.Ty.TheVariants as T
use Rattle.op_trees.specs.declared.tree.Value.{Value}
use Rattle.op_trees.specs.declared.wanted.Wanted.{Wanted}
use Rattle.op_trees.specs.Tree.{AllNames}
use Rattle.op_trees.specs.Names.{names_of, offset_of, some_name, is_called}
use Rattle.op_trees.specs.SeenLaws.{names_then}
use Rattle.op_trees.specs.Operators.{fits_some}
use Rattle.op_trees.specs.Types.{fits, has_type, type_in, types_looked_up}
use Rattle.op_trees.specs.TypeLaws.{misfits_none}
use Rattle.op_trees.specs.Wanted.{wanted_by, is_unwanted}
use Rattle.name_rules.specs.Least.{fault, fault_if}
use Rattle.name_rules.specs.Names.{is_among}
use Rattle.name_rules.specs.Unknown.{unless_known}
use Rattle.name_rules.specs.Circles.{circles as circles_of}
use Rattle.name_rules.specs.Doubled.{doubled}
use Rattle.name_rules.proofs.Plain.{no_fault, fault_none}
use Rattle.process_core.specs.Ready.{Name}
use Rattle.process_core.specs.Product.{map-map}
use Rattle.process_core.specs.Instance.{Valuation}
use Rattle.prism_tree.specs.Operators.{prism_meaning}
use Rattle.prism_tree.specs.OperatorLaws.{prism_lawful}
use Rattle.prism_tree.specs.Syntax.{Expression, Const, Range, Var, Command, Module, plain, copied, File}
use Rattle.prism_names.specs.Names.{is_formula, module_name, part_of, formula_body}
use Rattle.prism_flat.specs.Scene.{constant_called}
use Rattle.prism_flat.specs.FlatLaws.{found_after}
use Rattle.prism_flat.specs.Kept.{is_plain}
use Rattle.prism_print.specs.Printable.{IsPrintableExpression, IsPrintableModule}
use Rattle.prism_print.proofs.Printable.{literals}
use Rattle.prism_rewriter.specs.Rewritten.{rewritten_range, rewritten_var, rewritten_write, rewritten_branch, rewritten_command, rewritten_label, rewritten_rewards}
use Rattle.prism_check.specs.Demands.{Demand, fixed, varying, written, const_demands, type_by, var_type, var_demands, command_demands, formula_demands, part_demands, outer_demands}
use Rattle.prism_check.specs.NameFaults.{declared_const, declared_formula, circles, copy_faults, doubled_names, doubled_pairs, given_labels, module_vars, name_faults, no_module, own_start, own_starts, two_inits, unknown, unknown_in, unknown_names, values}
use Rattle.prism_check.specs.TypeFaults.{Variable, numbered_variables, variables, variable_called, declared_types, types, misfits, type_faults_of, is_variable, has_variable, target_of, target, write_faults, wanted_at, demand_faults, repeated_writes, module_faults, numbered_faults, type_faults}
use Rattle.prism_check.specs.Flattened.{IsFlat}
use Rattle.prism_check.proofs.CleanTypes.{AllUsed}
use Rattle.prism_check.proofs.OwnStarts.{still_none}
use Rattle.prism_check.proofs.NamesIn.{names_listed}
use Rattle.prism_check.proofs.NoFaults.{NoNameFaults, IsKnown, known_one, all_known}
use Rattle.prism_check.proofs.Typed.{has_wanted_type, known_typed, no_name_fault, no_type_fault, same_misfits, types_declared}
use Rattle.constant_folding.specs.Known.{Known}
use Rattle.constant_folding.specs.Kept.{AreTyped, GivesTypes}
use Rattle.constant_folding.proofs.Fits.{fits_refl, fitting_wanted, own_wanted}
use Rattle.constant_folding.proofs.Kept.{fold_names, fold_names_no_more}
use Rattle.constant_folding.proofs.Typed.{fold_is_typed}
use Rattle.specialise_prism.specs.Literal.{prism_literal}
use Rattle.constant_folding.specs.Constants.{AnyConst, called}
use Rattle.constant_folding.specs.Unfit.{AreFitting}
use Rattle.constant_folding.proofs.KnownTypes as known_types
use Rattle.constant_folding.proofs.KnownTypes.{HasWanted}
use Rattle.prism_tree.specs.declared.operator.PrismOp.{PrismOp}
use Rattle.specialise_prism.specs.Specialised.{any_const, any_constants, known_constants, folded, folding_by, specialised_const, specialised_module, specialised}
use Rattle.specialise_prism.specs.Clean.{SpecialisedIsClean}
use Rattle.specialise_prism.specs.LiteralLaws.{prism_literals, prism_monotone}
use Rattle.specialise_prism.proofs.ConstantLaws.{own_const, plain_whole}
use Rattle.specialise_prism.proofs.Printed.{specialised_printable}
use Rattle.specialise_prism.proofs.Demanding.{HasForm, folded_demand, outer_form, vars_form, commands_form, outer_carried, vars_carried, commands_carried}
use Rattle.specialise_prism.proofs.Once.{any_own}
use Rattle.constant_folding.proofs.Listed.{const_uses_less, nameless}
use Rattle.constant_folding.proofs.Uncircled.{circles_less}

names_known : (file : File) (e : Expression) → AllNames (IsKnown file) e → flat_map (unless_known (is_among (values file))) (names_of e) ≡ []
names_known file e k =
    each_empty (unless_known (is_among (values file))) (names_of e)
    (each_then (λ n. IsKnown file n.name) (λ n. unless_known (is_among (values file)) n ≡ [])
    (λ n h. fault_none (not (is_among (values file) n.name)) n.at Unknown (ap not h)) (names_of e) (names_listed (IsKnown file) e k))

-- a demand whose names are known, that has no fault of types, and that texts spell
record IsSound (file : File) (i : ℕ) (d : Demand) : Type 0 where
  pub known : AllUsed (IsKnown file) d
  pub judged : demand_faults file i d ≡ []
  pub form : HasForm d

known_used : (file : File) (d : Demand) → unknown file d ≡ [] → AllUsed (IsKnown file) d
known_used file (fixed w e) k = all_known file e k
known_used file (varying w e) k = all_known file e k
known_used file (written acts w) k =
    let r = append_parts (unless_known (is_among (values file)) w.name) (flat_map (unless_known (is_among (values file))) (names_of w.value)) k in
    (known_one file w.name r.0, all_known file w.value r.1)

all_sound : (file : File) (i : ℕ) (ds : List Demand) → flat_map (unknown file) ds ≡ [] → flat_map (demand_faults file i) ds ≡ [] → Each HasForm ds → Each (IsSound file i) ds
all_sound file i ds u j f =
    each_with (λ d. (unknown file d ≡ []) × (demand_faults file i d ≡ [])) HasForm (IsSound file i)
    (λ d p q. record { known = known_used file d p.0; judged = p.1; form = q }) ds
    (each_with (λ d. unknown file d ≡ []) (λ d. demand_faults file i d ≡ []) (λ d. (unknown file d ≡ []) × (demand_faults file i d ≡ [])) (λ d p q. (p, q)) ds
    (empty_each (unknown file) ds u) (empty_each (demand_faults file i) ds j)) f

module _ (file : File) (flat : IsFlat file) where
  no_names : NoNameFaults file
  no_names = no_name_fault file flat

  abbrev bodies : List Demand
  bodies = flat_map formula_demands file.formulas

  unknown_parts : (flat_map (unknown file) (outer_demands file) ≡ []) × ((flat_map (unknown file) bodies ++ flat_map (unknown_in file) file.modules) ≡ [])
  unknown_parts = append_parts (flat_map (unknown file) (outer_demands file)) (flat_map (unknown file) bodies ++ flat_map (unknown_in file) file.modules) no_names.unknown

  unknown_modules : flat_map (unknown_in file) file.modules ≡ []
  unknown_modules = (append_parts (flat_map (unknown file) bodies) (flat_map (unknown_in file) file.modules) unknown_parts.1).1

  judged_parts : (flat_map (demand_faults file 0) (outer_demands file) ≡ []) × ((flat_map (demand_faults file 0) bodies ++ numbered_faults file 0 file.modules) ≡ [])
  judged_parts = append_parts (flat_map (demand_faults file 0) (outer_demands file)) (flat_map (demand_faults file 0) bodies ++ numbered_faults file 0 file.modules) (no_type_fault file flat)

  judged_modules : numbered_faults file 0 file.modules ≡ []
  judged_modules = (append_parts (flat_map (demand_faults file 0) bodies) (numbered_faults file 0 file.modules) judged_parts.1).1

  outer_sound : Each (IsSound file 0) (outer_demands file)
  outer_sound = all_sound file 0 (outer_demands file) unknown_parts.0 judged_parts.0 (outer_form file flat.checked.form)

  -- a constant's expression
  consts_sound : Each (λ c. Each (IsSound file 0) (const_demands c)) file.constants
  consts_sound = each_of (IsSound file 0) const_demands file.constants (each_parts (IsSound file 0) (flat_map const_demands file.constants) _ outer_sound).0

  const_sound : (x : Name) (c : Const) → constant_called file x ≡ Some c → Each (IsSound file 0) (const_demands c)
  const_sound x c h =
      subst (IfAny (λ d. Each (IsSound file 0) (const_demands d))) h (each_found (λ d. Each (IsSound file 0) (const_demands d)) (λ d. is_called x d.name) file.constants consts_sound)

  -- its type
  const_type : (x : Name) (c : Const) → constant_called file x ≡ Some c → types file x ≡ Some c.ty
  const_type x c h = types_declared file flat x ∙ ap (λ o. or_else (option_map (λ d. d.ty) o) (option_map (λ v. v.ty) (variable_called file x))) h

  -- the type that is wanted of a constant's expression
  wanted_type : (x : Name) (c : Const) (e : Expression) → Each (IsSound file 0) (const_demands c) → c.value ≡ Some e → HasWanted prism_meaning (types file) c.ty e
  wanted_type x c e sound v =
      let own : IsSound file 0 (fixed (wanted_by c.ty) e) = (subst (λ (o : Option Expression). Each (IsSound file 0) (map (fixed (wanted_by c.ty)) (elim o as (λ r. List Expression) [ None ↦ [] | Some t ↦ t ∷ [] ]))) v sound).0 in
      let has = has_wanted_type file flat c.ty e own.known (append_parts (type_faults_of (types file) (wanted_by c.ty) e) _ own.judged).0 in
      record { own = has.ty; is = has.is; wanted = has.wanted; normal = literals e own.form }

  module _ (given : Valuation) (fitting : AreFitting (any_constants file) given) where
    declared_type : (x : Name) (c : AnyConst PrismOp) → called (any_constants file) x ≡ Some c → types file x ≡ Some c.ty
    declared_type x c h =
        let d = own_const file x c h in
        const_type x d.0 d.1 ∙ ap (λ (k : AnyConst PrismOp). Some k.ty) d.2

    wanted_of : (x : Name) (c : AnyConst PrismOp) (e : Expression) → called (any_constants file) x ≡ Some c → c.value ≡ Some e → HasWanted prism_meaning (types file) c.ty e
    wanted_of x c e h v =
        let d = own_const file x c h in
        subst (λ (t : Ty). HasWanted prism_meaning (types file) t e) (ap (λ (k : AnyConst PrismOp). k.ty) d.2)
        (wanted_type x d.0 e (const_sound x d.0 d.1) (ap (λ (k : AnyConst PrismOp). k.value) d.2 ∙ v))

    abbrev K : Known
    K = known_constants file given

    abbrev new : File
    new = specialised file given

    known_typed_right : AreTyped K
    known_typed_right =
        known_types.known_typed prism_meaning prism_lawful prism_monotone prism_literal prism_literals (any_constants file) given (types file) fitting declared_type wanted_of

    known_types_right : GivesTypes K (types file)
    known_types_right =
        known_types.known_types prism_meaning prism_lawful prism_monotone prism_literal prism_literals (any_constants file) given (types file) fitting declared_type wanted_of

    -- ---- what names are
    module_vars_same : (ms : List Module) → list_all is_plain ms ≡ true → flat_map (module_vars new) (map (specialised_module K) ms) ≡ flat_map (module_vars file) ms
    module_vars_same [] h = refl
    module_vars_same (copied m ∷ ms) h = absurd cc
    module_vars_same (plain m ∷ ms) h = ap₂ (λ a b. a ++ b) (map-map (λ x. x.name) (rewritten_var (folding_by K)) m.vars) (module_vars_same ms h)

    values_same : values new ≡ values file
    values_same =
        ap₂ (λ a b. a ++ b) (map-map (λ c. c.name) (specialised_const given K) file.constants)
        (ap (λ r. map (λ f. f.name) file.formulas ++ r)
        (ap₂ (λ a b. a ++ b) (map-map (λ x. x.name) (rewritten_var (folding_by K)) file.globals) (module_vars_same file.modules flat.form.modules)))

    same_type : (r : Option Range) → type_by (option_map (rewritten_range (folding_by K)) r) ≡ type_by r
    same_type None = refl
    same_type (Some r) = refl

    var_as : (o : Option ℕ) (xs : List Var) →
        map {B = Variable} (λ x. record { owner = o; name = x.name.name; ty = var_type x }) (map (rewritten_var (folding_by K)) xs) ≡ map (λ x. record { owner = o; name = x.name.name; ty = var_type x }) xs
    var_as o xs =
        mapped (rewritten_var (folding_by K)) {C = Variable} (λ x. record { owner = o; name = x.name.name; ty = var_type x }) (λ x. record { owner = o; name = x.name.name; ty = var_type x })
        (λ x. ap (λ t. record { owner = o; name = x.name.name; ty = t }) (same_type x.range)) xs

    numbered_same : (i : ℕ) (ms : List Module) → list_all is_plain ms ≡ true →
        numbered_variables i (map (part_of new) (map (specialised_module K) ms)) ≡ numbered_variables i (map (part_of file) ms)
    numbered_same i [] h = refl
    numbered_same i (copied m ∷ ms) h = absurd cc
    numbered_same i (plain m ∷ ms) h = ap₂ (λ a b. a ++ b) (var_as (Some i) m.vars) (numbered_same (i + 1) ms h)

    variables_same : variables new ≡ variables file
    variables_same = ap₂ (λ a b. a ++ b) (var_as None file.globals) (numbered_same 0 file.modules flat.form.modules)

    constant_type : (x : Name) (o : Option Const) → option_map (λ c. c.ty) (option_map (specialised_const given K) o) ≡ option_map (λ c. c.ty) o
    constant_type x None = refl
    constant_type x (Some c) = refl

    declared_same : declared_types new ≡ declared_types file
    declared_same =
        fun_ext (λ x.
        ap₂ or_else
        (ap (option_map (λ c. c.ty)) (found_after (λ c. is_called x c.name) (λ c. is_called x c.name) (specialised_const given K) (λ c. refl) file.constants)
        ∙ constant_type x (find (λ c. is_called x c.name) file.constants))
        (ap (λ vs. option_map (λ v. v.ty) (find (λ v. bytes_eq v.name x) vs)) variables_same))

    types_same : types new ≡ types file
    types_same = fun_ext (λ x. types_plainly new flat.form.formulas x) ∙ declared_same ∙ sym (fun_ext (λ x. types_plainly file flat.form.formulas x))
      where
        types_plainly : (f : File) → f.formulas ≡ [] → (x : Name) → types f x ≡ declared_types f x
        types_plainly f e x = ap (λ n. Looked n) (ap length e)
          where
            Looked : ℕ → Option Ty
            Looked n = types_looked_up prism_meaning (formula_body f) n (declared_types f) x

    variable_same : is_variable new ≡ is_variable file
    variable_same = ap (λ vs x. not (is_formula file x) && is_some (find (λ v. bytes_eq v.name x) vs)) variables_same

    target_same : (i : ℕ) (x : Name) → target new i x ≡ target file i x
    target_same i x = ap (λ vs. target_of i (if is_formula file x then None else find (λ v. bytes_eq v.name x) vs)) variables_same

    -- ---- one expression
    folded_known : (e : Expression) → AllNames (IsKnown file) e → AllNames (IsKnown file) (folded K e)
    folded_known e h = fold_names prism_meaning prism_literal prism_literals K (IsKnown file) e h

    typed_names : (e : Expression) → AllNames (IsKnown file) e → AllNames (λ x. IsTrue (is_some (types file x))) e
    typed_names e h = names_then (IsKnown file) (λ x. IsTrue (is_some (types file x))) (known_typed file flat) e h

    typed_fine : (w : Wanted) (e : Expression) (a u : Ty) → AllNames (IsKnown file) e → type_in prism_meaning (types file) e ≡ Some u → IsTrue (fits u a) → is_unwanted w (Some a) ≡ false →
        type_faults_of (types file) w e ≡ []
    typed_fine w e a u k is f h =
        append_both (map (λ at. fault at WrongType) (misfits (types file) e)) (fault_if (is_unwanted w (type_in prism_meaning (types file) e)) (offset_of e) WrongType)
        (ap (map (λ at. fault at WrongType))
        (sym (same_misfits (types file) e (typed_names e k)) ∙ (misfits_none prism_meaning (types file) e).1 (subst (λ o. IsTrue (is_some o)) (sym is) refl)))
        (fault_none (is_unwanted w (type_in prism_meaning (types file) e)) (offset_of e) WrongType (ap (is_unwanted w) is ∙ fitting_wanted w u a f h))

    folded_fine : (w : Wanted) (e : Expression) → AllNames (IsKnown file) e → IsPrintableExpression e → type_faults_of (types file) w e ≡ [] → type_faults_of (types file) w (folded K e) ≡ []
    folded_fine w e k p h =
        let t = type_in prism_meaning (types file) e in
        let r = append_parts (map (λ at. fault at WrongType) (misfits (types file) e)) (fault_if (is_unwanted w t) (offset_of e) WrongType) h in
        let s = has_some t ((misfits_none prism_meaning (types file) e).0 (same_misfits (types file) e (typed_names e k) ∙ empty_map (λ at. fault at WrongType) (misfits (types file) e) r.0)) in
        let wanted = sym (ap (is_unwanted w) s.1) ∙ no_fault (is_unwanted w t) (offset_of e) WrongType r.1 in
        by s.0 wanted (type_in prism_meaning (types file) (folded K e)) refl
        (fold_is_typed prism_meaning prism_lawful prism_monotone prism_literal prism_literals K (types file) known_typed_right known_types_right e (literals e p) s.0 s.1)
      where
        by : (a : Ty) → is_unwanted w (Some a) ≡ false → (o : Option Ty) → type_in prism_meaning (types file) (folded K e) ≡ o → IsTrue (fits_some o a) → type_faults_of (types file) w (folded K e) ≡ []
        by a wanted None is f = cc
        by a wanted (Some u) is f = typed_fine w (folded K e) a u (folded_known e k) is f wanted

    still_constant : (e : Expression) → has_variable file e ≡ false → has_variable new (folded K e) ≡ false
    still_constant e h =
        ap (some_name (is_variable new)) (plain_whole new flat.form.formulas (folded K e))
        ∙ ap (λ p. some_name p (folded K e)) variable_same
        ∙ fold_names_no_more prism_meaning prism_literal prism_literals K (is_variable file) e (ap (some_name (is_variable file)) (sym (plain_whole file flat.form.formulas e)) ∙ h)

    -- ---- one demand
    record IsFine (i : ℕ) (d : Demand) : Type 0 where
      names : unknown new d ≡ []
      judged : demand_faults new i d ≡ []

    listed_fine : (e : Expression) → AllNames (IsKnown file) e → flat_map (unless_known (is_among (values new))) (names_of e) ≡ []
    listed_fine e k = ap (λ vs. flat_map (unless_known (is_among vs)) (names_of e)) values_same ∙ names_known file e k

    types_fine : (w : Wanted) (e : Expression) → type_faults_of (types file) w e ≡ [] → type_faults_of (types new) w e ≡ []
    types_fine w e h = ap (λ ty. type_faults_of ty w e) types_same ∙ h

    carried : (i : ℕ) (d : Demand) → IsSound file i d → IsFine i (folded_demand K d)
    carried i (fixed w e) s =
        let r = append_parts (type_faults_of (types file) w e) (fault_if (has_variable file e) (offset_of e) NotConstant) s.judged in
        record {
          names = listed_fine (folded K e) (folded_known e s.known);
          judged =
              append_both (type_faults_of (types new) w (folded K e)) (fault_if (has_variable new (folded K e)) (offset_of (folded K e)) NotConstant)
              (types_fine w (folded K e) (folded_fine w e s.known s.form r.0))
              (fault_none (has_variable new (folded K e)) (offset_of (folded K e)) NotConstant (still_constant e (no_fault (has_variable file e) (offset_of e) NotConstant r.1)));
        }
    carried i (varying w e) s = record {
      names = listed_fine (folded K e) (folded_known e s.known);
      judged = types_fine w (folded K e) (folded_fine w e s.known s.form s.judged);
    }
    carried i (written acts w) s =
        let t = target file i w.name.name in
        let r = append_parts (write_faults t acts w.name.at) (type_faults_of (types file) (wanted_at t) w.value) s.judged in
        record {
          names =
              append_both (unless_known (is_among (values new)) w.name) (flat_map (unless_known (is_among (values new))) (names_of (folded K w.value)))
              (ap (λ vs. unless_known (is_among vs) w.name) values_same ∙ fault_none (not (is_among (values file) w.name.name)) w.name.at Unknown (ap not s.known.0))
              (listed_fine (folded K w.value) (folded_known w.value s.known.1));
          judged =
              append_both (write_faults (target new i w.name.name) acts w.name.at) (type_faults_of (types new) (wanted_at (target new i w.name.name)) (folded K w.value))
              (ap (λ u. write_faults u acts w.name.at) (target_same i w.name.name) ∙ r.0)
              (ap (λ u. type_faults_of (types new) (wanted_at u) (folded K w.value)) (target_same i w.name.name)
              ∙ types_fine (wanted_at t) (folded K w.value) (folded_fine (wanted_at t) w.value s.known.1 s.form r.1));
        }

    literal_fine : (i : ℕ) (y : Value) (ty : Ty) → IsTrue (has_type ty y) → IsFine i (fixed (wanted_by ty) (prism_literal y ty))
    literal_fine i y ty h =
        let e = prism_literal y ty in
        let known = names_then (λ x. ⊥) (IsKnown file) (λ x k. absurd k) e (prism_literals.nameless y ty) in
        record {
          names = listed_fine e known;
          judged =
              append_both (type_faults_of (types new) (wanted_by ty) e) (fault_if (has_variable new e) (offset_of e) NotConstant)
              (types_fine (wanted_by ty) e (typed_fine (wanted_by ty) e ty ty known (prism_literals.typed y ty (types file) h) (fits_refl ty) (own_wanted ty)))
              (fault_none (has_variable new e) (offset_of e) NotConstant (ap (some_name (is_variable new)) (plain_whole new flat.form.formulas e) ∙ nameless prism_meaning prism_literal prism_literals K (is_variable new) y ty));
        }

    consts_fit : Each (λ c. (y : Value) → given c.name.name ≡ Some y → IsTrue (has_type c.ty y)) file.constants
    consts_fit =
        each_then (λ c. called (any_constants file) c.name.name ≡ Some (any_const c)) (λ c. (y : Value) → given c.name.name ≡ Some y → IsTrue (has_type c.ty y))
        (λ c h y g. fitting.fitting c.name.name (any_const c) y h g) file.constants
        (map_each (λ k. called (any_constants file) k.name.name ≡ Some k) any_const file.constants (any_own file flat))

    outer_fine : Each (IsFine 0) (outer_demands new)
    outer_fine = outer_carried K (IsSound file 0) (IsFine 0) (carried 0) given (literal_fine 0) file consts_fit outer_sound

    -- ---- modules
    same_writes : (c : Command) → repeated_writes (rewritten_command (folding_by K) c) ≡ repeated_writes c
    same_writes c =
        walked (rewritten_branch (folding_by K)) (λ b. doubled WrittenTwice (map (λ w. w.name) b.writes)) (λ b. doubled WrittenTwice (map (λ w. w.name) b.writes))
        (λ b. ap (doubled WrittenTwice) (mapped (rewritten_write (folding_by K)) (λ w. w.name) (λ w. w.name) (λ w. refl) b.writes)) c.branches

    modules_fine : (i : ℕ) (ms : List Module) → list_all is_plain ms ≡ true → Each (λ m. IsPrintableModule m) ms → Each (λ m. unknown_in file m ≡ []) ms → numbered_faults file i ms ≡ [] →
        (flat_map (unknown_in new) (map (specialised_module K) ms) ≡ []) × (numbered_faults new i (map (specialised_module K) ms) ≡ [])
    modules_fine i [] h p u j = (refl, refl)
    modules_fine i (copied m ∷ ms) h p u j = absurd cc
    modules_fine i (plain m ∷ ms) h p u j =
        let r = append_parts (module_faults file i (plain m)) (numbered_faults file (i + 1) ms) j in
        let q = append_parts (flat_map (demand_faults file i) (part_demands (part_of file (plain m)))) (flat_map repeated_writes m.commands) r.0 in
        let sound =
        all_sound file i (part_demands (part_of file (plain m))) u.0 q.0
        (each_join HasForm (flat_map var_demands m.vars) (flat_map command_demands m.commands) (vars_form m.vars p.0.1) (commands_form m.commands p.0.2)) in
        let parts = each_parts (IsSound file i) (flat_map var_demands m.vars) (flat_map command_demands m.commands) sound in
        let fine =
        each_join (IsFine i) (flat_map var_demands (map (rewritten_var (folding_by K)) m.vars)) (flat_map command_demands (map (rewritten_command (folding_by K)) m.commands))
        (vars_carried K (IsSound file i) (IsFine i) (carried i) m.vars parts.0) (commands_carried K (IsSound file i) (IsFine i) (carried i) m.commands parts.1) in
        let demands = flat_map var_demands (map (rewritten_var (folding_by K)) m.vars) ++ flat_map command_demands (map (rewritten_command (folding_by K)) m.commands) in
        let rest = modules_fine (i + 1) ms h p.1 u.1 r.1 in (
          append_both (flat_map (unknown new) demands) _ (each_empty (unknown new) demands (each_then (IsFine i) (λ d. unknown new d ≡ []) (λ d k. k.names) demands fine)) rest.0,
          append_both (flat_map (demand_faults new i) demands ++ flat_map repeated_writes (map (rewritten_command (folding_by K)) m.commands)) _
              (append_both (flat_map (demand_faults new i) demands) _ (each_empty (demand_faults new i) demands (each_then (IsFine i) (λ d. demand_faults new i d ≡ []) (λ d k. k.judged) demands fine))
              (walked (rewritten_command (folding_by K)) repeated_writes repeated_writes same_writes m.commands ∙ q.1)) rest.1,
        )

    all_modules : (flat_map (unknown_in new) (map (specialised_module K) file.modules) ≡ []) × (numbered_faults new 0 (map (specialised_module K) file.modules) ≡ [])
    all_modules = modules_fine 0 file.modules flat.form.modules flat.checked.form.modules (empty_each (unknown_in file) file.modules unknown_modules) judged_modules

    -- ---- names that stand twice, circles
    module_names_same : (ms : List Module) → map module_name (map (specialised_module K) ms) ≡ map module_name ms
    module_names_same [] = refl
    module_names_same (plain m ∷ ms) = ap (λ ns. m.name ∷ ns) (module_names_same ms)
    module_names_same (copied m ∷ ms) = ap (λ ns. m.name ∷ ns) (module_names_same ms)

    pairs_same : (ms : List Module) → list_all is_plain ms ≡ true → flat_map doubled_pairs (map (specialised_module K) ms) ≡ flat_map doubled_pairs ms
    pairs_same [] h = refl
    pairs_same (plain m ∷ ms) h = pairs_same ms h
    pairs_same (copied m ∷ ms) h = absurd cc

    doubled_same : doubled_names new ≡ doubled_names file
    doubled_same =
        ap₂ (λ a b. a ++ b) (ap (doubled TwiceNamed) values_same)
        (ap₂ (λ a b. a ++ b) (ap (doubled TwiceNamed) (module_names_same file.modules))
        (ap₂ (λ a b. a ++ b) (ap (λ ns. doubled TwiceNamed (given_labels ++ ns)) (map-map (λ l. l.name) (rewritten_label (folding_by K)) file.labels))
        (ap₂ (λ a b. a ++ b) (ap (doubled TwiceNamed) (walked (rewritten_rewards (folding_by K)) (λ r. elim r.name as (λ o. List Named) [ None ↦ [] | Some n ↦ n ∷ [] ]) (λ r. elim r.name as (λ o. List Named) [ None ↦ [] | Some n ↦ n ∷ [] ]) (λ r. refl) file.rewards))
        (pairs_same file.modules flat.form.modules))))

    declared_alone : (cs : List Const) → map declared_const cs ++ map declared_formula file.formulas ≡ map declared_const cs
    declared_alone cs = ap (λ fs. map declared_const cs ++ map declared_formula fs) flat.form.formulas ∙ append-nil (map declared_const cs)

    uncircled : circles new ≡ []
    uncircled =
        ap circles_of (declared_alone (map (specialised_const given K) file.constants) ∙ map-map declared_const (specialised_const given K) file.constants)
        ∙ circles_less (λ c. declared_const (specialised_const given K c)) declared_const
        (λ c. const_uses_less prism_meaning prism_literal prism_literals K given (any_const c)) file.constants
        (ap circles_of (sym (declared_alone file.constants)) ∙ no_names.circles)

    no_copies : (ms : List Module) → list_all is_plain ms ≡ true → flat_map (copy_faults new) (map (specialised_module K) ms) ≡ []
    no_copies [] h = refl
    no_copies (plain m ∷ ms) h = no_copies ms h
    no_copies (copied m ∷ ms) h = absurd cc

    own_same : (x : Var) → own_start (rewritten_var (folding_by K) x) ≡ own_start x
    own_same x = ap (λ b. fault_if b x.name.at TwoInits) (is_some-map (folded K) x.start)

    owns_same : (m : Module) → own_starts (specialised_module K m) ≡ own_starts m
    owns_same (plain m) = walked (rewritten_var (folding_by K)) own_start own_start own_same m.vars
    owns_same (copied m) = refl

    starts_clean : two_inits new ≡ []
    starts_clean =
        still_none (is_some file.init) (is_some new.init) (flat_map own_start file.globals) (flat_map own_starts file.modules) _ _
        (is_some-map (folded K) file.init)
        (λ h. walked (rewritten_var (folding_by K)) own_start own_start own_same file.globals ∙ h)
        (λ h. walked (specialised_module K) own_starts own_starts owns_same file.modules ∙ h) no_names.starts

    names_clean : name_faults new ≡ []
    names_clean =
        append_both (doubled_names new) _ (doubled_same ∙ no_names.doubled)
        (append_both (unknown_names new) _
        (append_both (flat_map (unknown new) (outer_demands new)) _
        (each_empty (unknown new) (outer_demands new) (each_then (IsFine 0) (λ d. unknown new d ≡ []) (λ d k. k.names) (outer_demands new) outer_fine))
        (append_both (flat_map (unknown new) bodies) _ (no_bodies (unknown new)) all_modules.0))
        (append_both (circles new) _ uncircled
        (append_both (flat_map (copy_faults new) (map (specialised_module K) file.modules)) _ (no_copies file.modules flat.form.modules)
        (append_both (no_module new) _
        (ap (λ n. fault_if (nat_eq n 0) file.end Nothing) (length-map file.modules (specialised_module K)) ∙ no_names.modules) starts_clean))))
      where
        no_bodies : {B : Type 0} (f : Demand → List B) → flat_map f bodies ≡ []
        no_bodies f = ap (λ fs. flat_map f (flat_map formula_demands fs)) flat.form.formulas

    types_clean : type_faults new ≡ []
    types_clean =
        append_both (flat_map (demand_faults new 0) (outer_demands new)) _
        (each_empty (demand_faults new 0) (outer_demands new) (each_then (IsFine 0) (λ d. demand_faults new 0 d ≡ []) (λ d k. k.judged) (outer_demands new) outer_fine))
        (append_both (flat_map (demand_faults new 0) bodies) _ (ap (λ fs. flat_map (demand_faults new 0) (flat_map formula_demands fs)) flat.form.formulas) all_modules.1)

pub specialised_is_clean : SpecialisedIsClean
specialised_is_clean file given flat fitting = record {
  printable = specialised_printable (known_constants file given) given file flat.checked.form;
  names = names_clean file flat given fitting;
  types = types_clean file flat given fitting;
}
