-- What commands write: variables, with values of their types.
use Rattle.std.specs.Prelude.{◌≡◌, ℕ, List, [], ◌∷◌, ◌++◌, map, Bool, true, false, cond, Option, Some, None, IsTrue, is_some, nat_eq, bytes_eq, if◌then◌else◌}
use Rattle.std.specs.List.{AllByRecursion, IsDistinct, find, flat_map}
use Rattle.std.specs.Option.{option_map, option_or as or_else}
use Rattle.std.proofs.Common.{refl, sym, ap, subst, ◌∙◌}
use Rattle.basics.specs.Each.{each_rest}
use Rattle.basics.specs.Texts.{bytes_eq-true, bytes_eq-false_comm}
use Rattle.basics.specs.Lists.{append_parts, append_both}
use Rattle.bridge_io.specs.declared.reason.Reason.TheVariants.{ForeignWrite}
use Rattle.op_trees.specs.declared.tree.Ty.{Ty}
use Rattle.op_trees.specs.Names.{names_of, is_called}
use Rattle.process_core.specs.Ready.{Name}
use Rattle.prism_tree.specs.Syntax as prism
use Rattle.op_trees.specs.Wanted.{wanted_by}
use Rattle.prism_check.specs.Demands.{written, type_by, var_type}
use Rattle.prism_check.specs.NameFaults.{is_among, values, unless_known}
use Rattle.prism_check.specs.TypeFaults.{Variable, variable_called, types, type_faults_of, target_of, target_by, wanted_at, write_faults}
use Rattle.prism_check.specs.TypeFaults as source
use Rattle.prism_check.specs.Flattened.{IsFlat}
use Rattle.name_rules.specs.Least.{fault_if}
use Rattle.jani_check.specs.Things.{var_thing, const_thing, global_thing, types_by, is_constant}
use Rattle.jani_check.specs.Demands.{assigned}
use Rattle.jani_check.specs.TypeFaults as jani_types
use Rattle.jani_check.specs.TypeFaults.{demand_faults}
use Rattle.prism_images.specs.Image.{image}
use Rattle.jani_translation.specs.Asks.{variables, new_names}
use Rattle.jani_translation.specs.Automata.{write}
use Rattle.jani_translation.specs.Translated.{translated}
use Rattle.jani_translation.proofs.Clean.{values_distinct, variable_types, declared_type}
use Rattle.prism_check.proofs.NoFaults.{all_known}
use Rattle.prism_check.proofs.Typed.{HasType, has_wanted_type, no_formula}
use Rattle.jani_translation_laws.proofs.Alike.{source_const, source_var, kind_typed, stand_alike}
use Rattle.jani_translation_laws.proofs.Expressions.{image_fits}
use Rattle.jani_translation_laws.proofs.Sources.{IsFine}

-- ---- a variable's name is no constant's
pub none_typed : (x : Name) (vs : List prism.Var) → AllByRecursion (λ y. bytes_eq x y ≡ false) (map (λ v. v.name.name) vs) → declared_type x vs ≡ None
none_typed x [] h = refl
none_typed x (v ∷ vs) h = ap (λ b. option_map var_type (cond b (Some v) (find (λ v. is_called x v.name) vs))) (bytes_eq-false_comm x v.name.name h.0) ∙ none_typed x vs h.1

pub no_constant : (x : Name) (cs : List prism.Const) (vs : List prism.Var) → IsDistinct bytes_eq (map (λ c. c.name.name) cs ++ map (λ v. v.name.name) vs) →
    IsTrue (is_some (declared_type x vs)) → find (λ c. is_called x c.name) cs ≡ None
unfolding IsDistinct
no_constant x [] vs d h = refl
no_constant x (c ∷ cs) vs d h = by_answer (bytes_eq c.name.name x) refl (no_constant x cs vs d.1 h)
  where
    by_answer : (b : Bool) → bytes_eq c.name.name x ≡ b → find (λ c. is_called x c.name) cs ≡ None → cond b (Some c) (find (λ c. is_called x c.name) cs) ≡ None
    by_answer true e r =
        absurd
        (let none = none_typed c.name.name vs (each_rest (λ y. bytes_eq c.name.name y ≡ false) (map (λ c. c.name.name) cs) (map (λ v. v.name.name) vs) d.0) in
        let r : IsTrue (is_some (declared_type c.name.name vs)) = subst (λ y. IsTrue (is_some (declared_type y vs))) (sym (bytes_eq-true c.name.name x e)) h in
        let s : IsTrue false = subst (λ o. IsTrue (is_some o)) none r in cc)
    by_answer false e r = r

some_true : {A : Type 0} (o : Option A) (a : A) → o ≡ Some a → IsTrue (is_some o)
some_true o a e = subst (λ p. IsTrue (is_some p)) (sym e) refl

module _ (file : prism.File) (flat : IsFlat file) where
  variable_stands : (x : Name) (t : Ty) → declared_type x (variables file) ≡ Some t →
      global_thing (translated file) ((new_names file).value x) ≡ option_map (λ v. var_thing (source_var v)) (find (λ v. is_called x v.name) (variables file))
  variable_stands x t h =
      stand_alike file flat x
      ∙ ap (λ o. or_else (option_map (λ c. const_thing (source_const c)) o) (option_map (λ v. var_thing (source_var v)) (find (λ v. is_called x v.name) (variables file))))
      (no_constant x file.constants (variables file) (values_distinct file flat) (some_true (declared_type x (variables file)) t h))

  wanted_of : (o : Option prism.Var) (t : Ty) → option_map var_type o ≡ Some t → jani_types.wanted_at (option_map (λ v. var_thing (source_var v)) o) ≡ wanted_by t
  wanted_of None t h = absurd cc
  wanted_of (Some v) t h = let e : type_by v.range ≡ t = cc in ap wanted_by (kind_typed v.range ∙ e)

  no_const_of : (o : Option prism.Var) → is_constant (option_map (λ v. var_thing (source_var v)) o) ≡ false
  no_const_of None = refl
  no_const_of (Some v) = refl

  -- ---- a write without faults
  pub record IsFineWrite (w : prism.Write) : Type 0 where
    pub ty : Ty
    pub variable : declared_type w.name.name (variables file) ≡ Some ty
    pub value : HasType file ty w.value

  by_variable : (i : ℕ) (acts : Bool) (w : prism.Write) (o : Option Variable) → variable_called file w.name.name ≡ o →
      flat_map (unless_known (is_among (values file))) (names_of w.value) ≡ [] →
      write_faults (target_of i o) acts w.name.at ++ type_faults_of (types file) (wanted_at (target_of i o)) w.value ≡ [] → IsFineWrite w
  by_variable i acts w None e k h = absurd (let r = (append_parts (write_faults (target_of i None) acts w.name.at) (type_faults_of (types file) (wanted_at (target_of i None)) w.value) h).0 in cc)
  by_variable i acts w (Some v) e k h =
      let r = append_parts (write_faults (target_by v.owner i v.ty) acts w.name.at) (type_faults_of (types file) (wanted_at (target_by v.owner i v.ty)) w.value) h in
      record {
        ty = v.ty;
        variable = sym (variable_types file flat w.name.name) ∙ ap (option_map (λ v. v.ty)) e;
        value = has_wanted_type file flat v.ty w.value (all_known file w.value k) (by_owner v.owner r.0 r.1);
      }
    where
      by_own : (b : Bool) → write_faults (if b then source.own v.ty else source.foreign (wanted_by v.ty)) acts w.name.at ≡ [] →
          type_faults_of (types file) (wanted_at (if b then source.own v.ty else source.foreign (wanted_by v.ty))) w.value ≡ [] →
          type_faults_of (types file) (wanted_by v.ty) w.value ≡ []
      by_own true p q = q
      by_own false p q = q

      by_owner : (o : Option ℕ) → write_faults (target_by o i v.ty) acts w.name.at ≡ [] → type_faults_of (types file) (wanted_at (target_by o i v.ty)) w.value ≡ [] →
          type_faults_of (types file) (wanted_by v.ty) w.value ≡ []
      by_owner None p q = q
      by_owner (Some n) p q = by_own (nat_eq n i) p q

  pub written_fine : (i : ℕ) (acts : Bool) (w : prism.Write) → IsFine file flat i (written acts w) → IsFineWrite w
  written_fine i acts w h =
      by_variable i acts w (variable_called file w.name.name) refl
      (append_parts (unless_known (is_among (values file)) w.name) (flat_map (unless_known (is_among (values file))) (names_of w.value)) h.1).1
      (ap (λ o. write_faults (target_of i (if is_some o then None else variable_called file w.name.name)) acts w.name.at
      ++ type_faults_of (types file) (wanted_at (target_of i (if is_some o then None else variable_called file w.name.name))) w.value) (sym (no_formula file flat w.name.name))
      ∙ h.0)

  -- its translation has none
  pub assigned_clean : (w : prism.Write) → IsFineWrite w → demand_faults (global_thing (translated file)) (assigned (write (new_names file) w)) ≡ []
  assigned_clean w h =
      let stands = variable_stands w.name.name h.ty h.variable in
      let o = find (λ v. is_called w.name.name v.name) (variables file) in
      let new = (new_names file).value in
      append_both (fault_if (is_constant (global_thing (translated file) (new w.name.name))) w.name.at ForeignWrite) _
      (ap (λ b. fault_if b w.name.at ForeignWrite) (ap is_constant stands ∙ no_const_of o))
      (ap (λ t. jani_types.type_faults_of (types_by (global_thing (translated file))) t (image new w.value)) (ap jani_types.wanted_at stands ∙ wanted_of o h.ty h.variable)
      ∙ image_fits file flat h.ty w.value h.value)
