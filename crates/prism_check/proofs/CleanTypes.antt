-- The types of a file that is written out, and what its expressions have to be.
use Rattle.std.specs.Prelude.{◌≡◌, ℕ, zero, suc, ◌+◌, List, [], ◌∷◌, ◌++◌, map, length, Bool, true, false, not, ◌&&◌, Option, Some, None, is_some, cond, bytes_eq, if◌then◌else◌}
use Rattle.std.specs.List.{find}
use Rattle.std.specs.Option.{option_map, option_or as or_else}
use Rattle.std.proofs.Common.{refl, sym, ap, ap₂, ◌∙◌, subst}
use Rattle.std.proofs.Math.Path.{fun_ext}
use Rattle.basics.specs.Lists.{append_parts, append_both, empty_map}
use Rattle.bridge_io.specs.declared.reason.Reason.TheVariants.{WrongType, NotConstant}
use Rattle.op_trees.specs.declared.tree.Ty.{Ty}
use Rattle.op_trees.specs.Tree.{Truth, Number, Name as At, One, Two, Three, AllNames, replaced, substituted, written_out}
use Rattle.op_trees.specs.Types.{Types, type_in, sort_one, sort_two, sort_three, type_through, misfit_at}
use Rattle.op_trees.specs.TypeLaws.{type-substituted, type-written_out, type_agree_on}
use Rattle.op_trees.specs.Seen.{FallsTo}
use Rattle.op_trees.specs.SeenLaws.{names_all, names_then}
use Rattle.op_trees.specs.Names.{offset_of, some_name, is_called}
use Rattle.op_trees.specs.NameLaws.{some_agree_on}
use Rattle.process_core.specs.Ready.{Name}
use Rattle.prism_tree.specs.Operators.{prism_meaning}
use Rattle.prism_tree.specs.Syntax.{Expression, Const, Var, File}
use Rattle.prism_flat.specs.Names.{formula_body, is_formula, unchanged, written_name, Part, parts}
use Rattle.prism_flat.specs.Flat.{flat_expression, flat_var, flat_constant, flat}
use Rattle.prism_flat.specs.WrittenOut.{substituted_none, lower, lowest}
use Rattle.prism_flat.specs.Laws.{flat_part, parts-flat}
use Rattle.prism_flat.specs.Order.{place_in, IsOrder, in_depth, whole, whole_plain, fills}
use Rattle.basics.specs.Options.{IfAny}
use Rattle.basics.specs.Mapped.{mapped}
use Rattle.op_trees.specs.declared.wanted.Wanted.{Wanted}
use Rattle.name_rules.specs.Least.{fault, fault_if}
use Rattle.name_rules.proofs.Plain.{no_fault, fault_none}
use Rattle.prism_flat.specs.ConstantLaws.{renamed_unchanged}
use Rattle.prism_check.specs.Demands.{Demand, fixed, varying, written, var_type}
use Rattle.op_trees.specs.Wanted.{is_unwanted}
use Rattle.prism_check.specs.TypeFaults.{Variable, numbered_variables, variables, variable_called, declared_types, types, misfits, type_faults_of, is_variable, has_variable, target_of, target, write_faults, wanted_at, demand_faults}
use Rattle.prism_check.proofs.FlatDemands.{flat_demand, same_type}
use Rattle.prism_check.proofs.TypeOrder.{types_of_plain, types_read}

-- each name that a demand uses is such
abbrev pub AllUsed : (Name → Type 0) → Demand → Type 0
AllUsed P (fixed w e) = AllNames P e
AllUsed P (varying w e) = AllNames P e
AllUsed P (written acts w) = P w.name.name × AllNames P w.value

-- a name that is no formula's
abbrev pub IsFree : File → Name → Type 0
IsFree file x = formula_body file x ≡ None

-- ---- misfits rest on the types of an expression's names
misfits_agree_on : (e : Expression) (old new : Types) → AllNames (λ x. old x ≡ new x) e → misfits old e ≡ misfits new e
misfits_agree_on (Truth at b) old new h = refl
misfits_agree_on (Number at d) old new h = refl
misfits_agree_on (At at x) old new h = refl
misfits_agree_on (One at o a) old new h =
    ap₂ (λ ms t. ms ++ misfit_at at (is_some t) (sort_one prism_meaning o t)) (misfits_agree_on a old new h) (type_agree_on prism_meaning a old new h)
misfits_agree_on (Two at o a b) old new h =
    ap₂ (λ ms r. ms ++ r) (misfits_agree_on a old new h.0)
    (ap₂ (λ ms r. ms ++ r) (misfits_agree_on b old new h.1)
    (ap₂ (λ s t. misfit_at at (is_some s && is_some t) (sort_two prism_meaning o s t)) (type_agree_on prism_meaning a old new h.0) (type_agree_on prism_meaning b old new h.1)))
misfits_agree_on (Three at o a b c) old new h =
    ap₂ (λ ms r. ms ++ r) (misfits_agree_on a old new h.0)
    (ap₂ (λ ms r. ms ++ r) (misfits_agree_on b old new h.1)
    (ap₂ (λ ms r. ms ++ r) (misfits_agree_on c old new h.2)
    (ap₂ {B = Option Ty → List ℕ} (λ s g. g s) (type_agree_on prism_meaning a old new h.0)
    (ap₂ (λ t u s. misfit_at at (is_some s && (is_some t && is_some u)) (sort_three prism_meaning o s t u))
    (type_agree_on prism_meaning b old new h.1) (type_agree_on prism_meaning c old new h.2)))))

abbrev Fits : Types → Expression → Type 0
Fits ty e = misfits ty e ≡ []

-- nothing misfits where bodies stand for names in which nothing does
misfits_substituted : (bodies : Name → Option Expression) (ty : Types) (e : Expression) → AllNames (λ x. IfAny (Fits ty) (bodies x)) e →
    Fits (λ x. type_through prism_meaning (bodies x) ty (ty x)) e → Fits ty (substituted bodies e)
misfits_substituted bodies ty (Truth at b) h k = refl
misfits_substituted bodies ty (Number at d) h k = refl
misfits_substituted bodies ty (At at x) h k = at_name (bodies x) h
  where
    at_name : (o : Option Expression) → IfAny (Fits ty) o → Fits ty (replaced (At at x) o)
    at_name None r = refl
    at_name (Some b) r = r
misfits_substituted bodies ty (One at o a) h k =
    let old : Types = λ x. type_through prism_meaning (bodies x) ty (ty x) in
    let r = append_parts (misfits old a) (misfit_at at (is_some (type_in prism_meaning old a)) (sort_one prism_meaning o (type_in prism_meaning old a))) k in
    append_both (misfits ty (substituted bodies a)) _ (misfits_substituted bodies ty a h r.0)
    (ap (λ t. misfit_at at (is_some t) (sort_one prism_meaning o t)) (type-substituted prism_meaning bodies a ty) ∙ r.1)
misfits_substituted bodies ty (Two at o a b) h k =
    let old : Types = λ x. type_through prism_meaning (bodies x) ty (ty x) in
    let r = append_parts (misfits old a) _ k in
    let s = append_parts (misfits old b) _ r.1 in
    append_both (misfits ty (substituted bodies a)) _ (misfits_substituted bodies ty a h.0 r.0)
    (append_both (misfits ty (substituted bodies b)) _ (misfits_substituted bodies ty b h.1 s.0)
    (ap₂ (λ t u. misfit_at at (is_some t && is_some u) (sort_two prism_meaning o t u)) (type-substituted prism_meaning bodies a ty) (type-substituted prism_meaning bodies b ty) ∙ s.1))
misfits_substituted bodies ty (Three at o a b c) h k =
    let old : Types = λ x. type_through prism_meaning (bodies x) ty (ty x) in
    let r = append_parts (misfits old a) _ k in
    let s = append_parts (misfits old b) _ r.1 in
    let t = append_parts (misfits old c) _ s.1 in
    append_both (misfits ty (substituted bodies a)) _ (misfits_substituted bodies ty a h.0 r.0)
    (append_both (misfits ty (substituted bodies b)) _ (misfits_substituted bodies ty b h.1 s.0)
    (append_both (misfits ty (substituted bodies c)) _ (misfits_substituted bodies ty c h.2 t.0)
    (ap₂ {B = Option Ty → List ℕ} (λ u g. g u) (type-substituted prism_meaning bodies a ty)
    (ap₂ (λ v w u. misfit_at at (is_some u && (is_some v && is_some w)) (sort_three prism_meaning o u v w))
    (type-substituted prism_meaning bodies b ty) (type-substituted prism_meaning bodies c ty)) ∙ t.1)))

-- ---- an expression in which no formula's name stands is written out
pub free_whole : (file : File) (e : Expression) → AllNames (IsFree file) e → whole file e ≡ e
free_whole file e h = at_depth (length file.formulas)
  where
    at_depth : (n : ℕ) → written_out (formula_body file) n e ≡ e
    at_depth zero = refl
    at_depth (suc n) =
        substituted_none (λ x. option_map (written_out (formula_body file) n) (formula_body file x)) e
        (names_then (IsFree file) (λ x. option_map (written_out (formula_body file) n) (formula_body file x) ≡ None)
        (λ x k. ap (option_map (written_out (formula_body file) n)) k) e h)

-- a plain module writes what it names
pub same_written : (file : File) (x : Name) → written_name file unchanged x ≡ x
same_written file x = by_test (is_formula file x)
  where
    by_test : (b : Bool) → (if b then x else unchanged x) ≡ x
    by_test true = refl
    by_test false = refl

-- ---- what names are, once the file is written out
module _ (file : File) where
  abbrev global_variable : Var → Variable
  global_variable x = record { owner = None; name = x.name.name; ty = var_type x }

  flat_numbered : (i : ℕ) (ps : List Part) → numbered_variables i (map (flat_part file) ps) ≡ numbered_variables i ps
  flat_numbered i [] = refl
  flat_numbered i (p ∷ ps) =
      ap₂ (λ a b. a ++ b)
      (mapped (flat_var file p.rename) (λ x. record { owner = Some i; name = x.name.name; ty = var_type x })
      (λ x. record { owner = Some i; name = p.rename x.name.name; ty = var_type x })
      (λ x. ap (λ t. record { owner = Some i; name = p.rename x.name.name; ty = t }) (same_type file p.rename x.range)) p.vars)
      (flat_numbered (i + 1) ps)

  pub variables_kept : variables (flat file) ≡ variables file
  variables_kept =
      ap₂ (λ a b. a ++ b)
      (mapped (flat_var file unchanged) global_variable global_variable
      (λ x. ap (λ t. record { owner = None; name = x.name.name; ty = t }) (same_type file unchanged x.range)) file.globals)
      (ap (numbered_variables 0) (parts-flat file) ∙ flat_numbered 0 (parts file))

  pub variable_kept : (x : Name) → variable_called (flat file) x ≡ variable_called file x
  variable_kept x = ap (find (λ v. bytes_eq v.name x)) variables_kept

  constant_type : (x : Name) (cs : List Const) →
      option_map (λ c. c.ty) (find (λ c. is_called x c.name) (map (flat_constant file) cs)) ≡ option_map (λ c. c.ty) (find (λ c. is_called x c.name) cs)
  constant_type x [] = refl
  constant_type x (c ∷ cs) = by_test (bytes_eq c.name.name x) (constant_type x cs)
    where
      by_test : (b : Bool) →
          option_map (λ d. d.ty) (find (λ d. is_called x d.name) (map (flat_constant file) cs)) ≡ option_map (λ d. d.ty) (find (λ d. is_called x d.name) cs) →
          option_map (λ d. d.ty) (cond b (Some (flat_constant file c)) (find (λ d. is_called x d.name) (map (flat_constant file) cs)))
          ≡ option_map (λ d. d.ty) (cond b (Some c) (find (λ d. is_called x d.name) cs))
      by_test true r = refl
      by_test false r = r

  pub declared_kept : (x : Name) → declared_types (flat file) x ≡ declared_types file x
  declared_kept x = ap₂ or_else (constant_type x file.constants) (ap (option_map (λ v. v.ty)) (variable_kept x))

  free_type : (x : Name) → IsFree file x → types (flat file) x ≡ types file x
  free_type x h = declared_kept x ∙ sym (types_of_plain prism_meaning (formula_body file) (declared_types file) (length file.formulas) x h)

  free_types : (e : Expression) → AllNames (IsFree file) e → AllNames (λ x. types (flat file) x ≡ types file x) e
  free_types e h = names_then (IsFree file) (λ x. types (flat file) x ≡ types file x) free_type e h

  -- ---- without a formula's name everything is judged as in the file
  types_alike : (w : Wanted) (e : Expression) → AllNames (IsFree file) e → type_faults_of (types (flat file)) w e ≡ type_faults_of (types file) w e
  types_alike w e h =
      ap₂ (λ ms t. map (λ at. fault at WrongType) ms ++ fault_if (is_unwanted w t) (offset_of e) WrongType)
      (misfits_agree_on e (types (flat file)) (types file) (free_types e h)) (type_agree_on prism_meaning e (types (flat file)) (types file) (free_types e h))

  free_variable : (x : Name) → IsFree file x → is_variable (flat file) x ≡ is_variable file x
  free_variable x h = ap is_some (variable_kept x) ∙ ap (λ o. not (is_some o) && is_some (variable_called file x)) (sym h)

  variables_alike : (e : Expression) → AllNames (IsFree file) e → has_variable (flat file) e ≡ has_variable file e
  variables_alike e h =
      some_agree_on (is_variable (flat file)) (is_variable file) e (names_then (IsFree file) (λ x. is_variable (flat file) x ≡ is_variable file x) free_variable e h)
      ∙ ap (some_name (is_variable file)) (sym (free_whole file e h))

  target_alike : (i : ℕ) (x : Name) → IsFree file x → target (flat file) i x ≡ target file i x
  target_alike i x h = ap (target_of i) (variable_kept x ∙ ap (λ o. if is_some o then None else variable_called file x) (sym h))

  pub judged_alike : (i : ℕ) (d : Demand) → AllUsed (IsFree file) d → demand_faults (flat file) i d ≡ demand_faults file i d
  judged_alike i (fixed w e) h =
      ap₂ (λ a b. a ++ b) (types_alike w e h) (ap (λ b. fault_if b (offset_of e) NotConstant) (variables_alike e h))
  judged_alike i (varying w e) h = types_alike w e h
  judged_alike i (written acts w) h =
      ap₂ (λ a b. a ++ b) (ap (λ t. write_faults t acts w.name.at) (target_alike i w.name.name h.0))
      (ap (λ t. type_faults_of (types (flat file)) (wanted_at t) w.value) (target_alike i w.name.name h.0)
      ∙ types_alike (wanted_at (target file i w.name.name)) w.value h.1)

  -- what may be written is no formula's name
  pub written_free : (i : ℕ) (x : Name) (acts : Bool) (at : ℕ) → write_faults (target file i x) acts at ≡ [] → IsFree file x
  written_free i x acts at e = by_body (formula_body file x) e
    where
      by_body : (o : Option Expression) → write_faults (target_of i (if is_some o then None else variable_called file x)) acts at ≡ [] → o ≡ None
      by_body None k = refl
      by_body (Some b) k = absurd cc

-- ---- an expression written out is judged as the expression, where nothing misfits in the bodies of formulas
module _ (file : File) (order : List Name) (ordered : IsOrder file order) (bodies_fit : (x : Name) → IfAny (Fits (types file)) (formula_body file x)) where
  abbrev whole_body : Name → Option Expression
  whole_body x = option_map (whole file) (formula_body file x)

  body_type : (o : Option Expression) (t : Option Ty) →
      type_through prism_meaning (option_map (whole file) o) (declared_types file) t ≡ type_through prism_meaning o (types file) t
  body_type None t = refl
  body_type (Some b) t = type-written_out prism_meaning (formula_body file) (declared_types file) (length file.formulas) b

  whole_type : (x : Name) → type_through prism_meaning (whole_body x) (declared_types file) (declared_types file x) ≡ types file x
  whole_type x = body_type (formula_body file x) (declared_types file x) ∙ sym (types_read file order ordered x)

  abbrev Falls : ℕ → Name → Type 0
  Falls = FallsTo (formula_body file) (place_in order)

  step : (e : Expression) → AllNames (λ x. IfAny (Fits (declared_types file)) (whole_body x)) e → Fits (types file) e → Fits (declared_types file) (whole file e)
  step e h k =
      ap (misfits (declared_types file)) (sym (fills file order ordered e))
      ∙ misfits_substituted whole_body (declared_types file) e h (ap (λ ty. misfits ty e) (fun_ext whole_type) ∙ k)

  body_step : (n : ℕ) → ((e : Expression) → AllNames (Falls n) e → Fits (types file) e → Fits (declared_types file) (whole file e)) →
      (x : Name) (o : Option Expression) → formula_body file x ≡ o → Falls (suc n) x → IfAny (Fits (types file)) o → IfAny (Fits (declared_types file)) (option_map (whole file) o)
  body_step n ih x None e f h = tt
  body_step n ih x (Some b) e f h = ih b (lower (formula_body file) (place_in order) ordered.falling n x b e f) h

  none_step : (o : Option Expression) → o ≡ None → IfAny (Fits (declared_types file)) (option_map (whole file) o)
  none_step o e = subst (λ p. IfAny (Fits (declared_types file)) (option_map (whole file) p)) (sym e) tt

  fits_below : (n : ℕ) (e : Expression) → AllNames (Falls n) e → Fits (types file) e → Fits (declared_types file) (whole file e)
  fits_below zero e h k =
      step e (names_then (Falls 0) (λ x. IfAny (Fits (declared_types file)) (whole_body x))
      (λ x f. none_step (formula_body file x) (lowest (formula_body file) (place_in order) ordered.falling x (formula_body file x) refl f)) e h) k
  fits_below (suc n) e h k =
      step e (names_then (Falls (suc n)) (λ x. IfAny (Fits (declared_types file)) (whole_body x))
      (λ x f. body_step n (fits_below n) x (formula_body file x) refl f (bodies_fit x)) e h) k

  whole_fits : (e : Expression) → Fits (types file) e → Fits (declared_types file) (whole file e)
  whole_fits e k = fits_below (length file.formulas) e (names_all (Falls (length file.formulas)) (in_depth file order ordered) e) k

  -- under the types of the file itself
  free_declared : (x : Name) → IsFree file x → types file x ≡ declared_types file x
  free_declared x h = types_of_plain prism_meaning (formula_body file) (declared_types file) (length file.formulas) x h

  written_out_types : (w : Wanted) (e : Expression) → type_faults_of (types file) w e ≡ [] → type_faults_of (types file) w (whole file e) ≡ []
  written_out_types w e k =
      let r = append_parts (map (λ at. fault at WrongType) (misfits (types file) e)) (fault_if (is_unwanted w (type_in prism_meaning (types file) e)) (offset_of e) WrongType) k in
      let free = names_then (IsFree file) (λ x. types file x ≡ declared_types file x) free_declared (whole file e) (whole_plain file order ordered e) in
      append_both (map (λ at. fault at WrongType) (misfits (types file) (whole file e))) _
      (ap (map (λ at. fault at WrongType))
      (misfits_agree_on (whole file e) (types file) (declared_types file) free ∙ whole_fits e (empty_map (λ at. fault at WrongType) (misfits (types file) e) r.0)))
      (fault_none (is_unwanted w (type_in prism_meaning (types file) (whole file e))) (offset_of (whole file e)) WrongType
      (ap (is_unwanted w)
      (type_agree_on prism_meaning (whole file e) (types file) (declared_types file) free
      ∙ type-written_out prism_meaning (formula_body file) (declared_types file) (length file.formulas) e)
      ∙ no_fault (is_unwanted w (type_in prism_meaning (types file) e)) (offset_of e) WrongType r.1))

  flat_is_whole : (e : Expression) → flat_expression file unchanged e ≡ whole file e
  flat_is_whole e = renamed_unchanged (whole file e)

  flat_types : (w : Wanted) (e : Expression) → type_faults_of (types file) w e ≡ [] → type_faults_of (types file) w (flat_expression file unchanged e) ≡ []
  flat_types w e k = ap (type_faults_of (types file) w) (flat_is_whole e) ∙ written_out_types w e k

  flat_constant_still : (e : Expression) → has_variable file e ≡ false → has_variable file (flat_expression file unchanged e) ≡ false
  flat_constant_still e k =
      ap (has_variable file) (flat_is_whole e) ∙ ap (some_name (is_variable file)) (free_whole file (whole file e) (whole_plain file order ordered e)) ∙ k

  -- a demand outside of copies that has no fault has none written out
  pub written_out_judged : (i : ℕ) (d : Demand) → demand_faults file i d ≡ [] → demand_faults file i (flat_demand file unchanged d) ≡ []
  written_out_judged i (fixed w e) k =
      let r = append_parts (type_faults_of (types file) w e) (fault_if (has_variable file e) (offset_of e) NotConstant) k in
      let new = flat_expression file unchanged e in
      append_both (type_faults_of (types file) w new) _ (flat_types w e r.0)
      (fault_none (has_variable file new) (offset_of new) NotConstant (flat_constant_still e (no_fault (has_variable file e) (offset_of e) NotConstant r.1)))
  written_out_judged i (varying w e) k = flat_types w e k
  written_out_judged i (written acts w) k =
      ap (λ x. write_faults (target file i x) acts w.name.at ++ type_faults_of (types file) (wanted_at (target file i x)) (flat_expression file unchanged w.value)) (same_written file w.name.name)
      ∙ (let t = target file i w.name.name in
      let r = append_parts (write_faults t acts w.name.at) (type_faults_of (types file) (wanted_at t) w.value) k in
      append_both (write_faults t acts w.name.at) (type_faults_of (types file) (wanted_at t) (flat_expression file unchanged w.value)) r.0 (flat_types (wanted_at t) w.value r.1))
