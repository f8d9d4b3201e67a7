-- A file without faults that is written out: its names have the types that they are declared with, and its expressions those that are wanted.
use Rattle.std.specs.Prelude.{◌≡◌, ℕ, ◌+◌, List, [], ◌∷◌, ◌++◌, map, Bool, true, false, ◌||◌, ◌&&◌, Option, Some, None, IsTrue, is_some, bytes_eq, if◌then◌else◌}
use Rattle.std.specs.List.{find, flat_map, list_all, list_any}
use Rattle.std.specs.Option.{option_map, option_or}
use Rattle.std.proofs.Common.{refl, sym, ap, ap₂, subst, ◌∙◌, inl, inr}
use Rattle.std.proofs.lemmas.Bool.{not-false, or_cases}
use Rattle.std.proofs.lemmas.List.Folds.{list_any-append}
use Rattle.basics.specs.Options.{has_some}
use Rattle.basics.specs.Lists.{append_parts, empty_map}
use Rattle.basics.specs.Members.{any-map}
use Rattle.bridge_io.specs.declared.reason.Named.{Named}
use Rattle.bridge_io.specs.declared.reason.Reason.TheVariants.{WrongType}
use Rattle.op_trees.specs.declared.tree.Ty.{Ty}
use Rattle.op_trees.specs.Tree.{Truth, Number, Name as At, One, Two, Three, AllNames}
use Rattle.op_trees.specs.Names.{is_called, offset_of}
use Rattle.op_trees.specs.SeenLaws.{names_then}
use Rattle.op_trees.specs.Types as trees
use Rattle.op_trees.specs.Types.{Types, type_in, misfit_at}
use Rattle.op_trees.specs.TypeLaws.{misfits_none}
use Rattle.op_trees.specs.Wanted.{is_wanted, is_unwanted, wanted_by}
use Rattle.name_rules.specs.Least.{fault, fault_if}
use Rattle.name_rules.proofs.Plain.{no_fault}
use Rattle.process_core.specs.Ready.{Name}
use Rattle.prism_tree.specs.Operators.{prism_meaning}
use Rattle.prism_tree.specs.Syntax.{Expression, Module, plain, copied, File}
use Rattle.prism_flat.specs.Kept.{is_plain}
use Rattle.prism_flat.specs.Names.{formula_body, part_of, parts}
use Rattle.prism_check.specs.Demands.{var_type}
use Rattle.prism_check.specs.NameFaults.{module_vars}
use Rattle.prism_check.specs.TypeFaults.{Variable, declared_types, misfits, numbered_variables, type_faults, type_faults_of, types, variables}
use Rattle.prism_check.specs.Flattened.{IsFlat}
use Rattle.prism_check.proofs.NoFaults.{NoNameFaults, IsKnown, no_faults, no_name_faults}
use Rattle.prism_check.proofs.TypeOrder.{types_of_plain}

-- ---- no fault of any kind
pub no_name_fault : (file : File) → IsFlat file → NoNameFaults file
no_name_fault file flat = no_name_faults file (no_faults file flat.checked.sound).names

pub no_type_fault : (file : File) → IsFlat file → type_faults file ≡ []
no_type_fault file flat = (no_faults file flat.checked.sound).types

-- ---- types are those that are declared
pub no_formula : (file : File) → IsFlat file → (x : Name) → formula_body file x ≡ None
no_formula file flat x = ap (λ fs. option_map (λ f. f.body) (find (λ f. is_called x f.name) fs)) flat.form.formulas

pub types_declared : (file : File) → IsFlat file → (x : Name) → types file x ≡ declared_types file x
types_declared file flat x = types_of_plain prism_meaning (formula_body file) (declared_types file) _ x (no_formula file flat x)

-- ---- names that are known have types
found_some : {A : Type 0} (p : A → Bool) (xs : List A) → list_any p xs ≡ true → IsTrue (is_some (find p xs))
found_some p [] h = absurd cc
found_some p (x ∷ xs) h = by_test (p x) h (found_some p xs)
  where
    by_test : (b : Bool) → (b || list_any p xs) ≡ true → (list_any p xs ≡ true → IsTrue (is_some (find p xs))) → IsTrue (is_some (if b then Some x else find p xs))
    by_test true k r = refl
    by_test false k r = r k

some_mapped : {A B : Type 0} (f : A → B) (o : Option A) → IsTrue (is_some o) → IsTrue (is_some (option_map f o))
some_mapped f None h = h
some_mapped f (Some x) h = refl

either_some : (a b : Option Ty) → IsTrue (is_some a) → IsTrue (is_some (option_or a b))
either_some None b h = absurd cc
either_some (Some t) b h = refl

second_some : (a b : Option Ty) → IsTrue (is_some b) → IsTrue (is_some (option_or a b))
second_some None b h = h
second_some (Some t) b h = refl

module _ (file : File) (flat : IsFlat file) where
  numbered_any : (x : Name) (i : ℕ) (ms : List Module) → list_all is_plain ms ≡ true →
      list_any (is_called x) (flat_map (module_vars file) ms) ≡ list_any (λ v. bytes_eq v.name x) (numbered_variables i (map (part_of file) ms))
  numbered_any x i [] h = refl
  numbered_any x i (plain m ∷ ms) h =
      list_any-append (is_called x) (map (λ y. y.name) m.vars) (flat_map (module_vars file) ms)
      ∙ ap₂ (λ a b. a || b)
      (any-map (is_called x) (λ y. y.name) m.vars ∙ sym (any-map (λ (v : Variable). bytes_eq v.name x) (λ y. record { owner = Some i; name = y.name.name; ty = var_type y }) m.vars))
      (numbered_any x (i + 1) ms h)
      ∙ sym (list_any-append (λ (v : Variable). bytes_eq v.name x) (map (λ y. record { owner = Some i; name = y.name.name; ty = var_type y }) m.vars) (numbered_variables (i + 1) (map (part_of file) ms)))
  numbered_any x i (copied m ∷ ms) h = absurd cc

  variables_any : (x : Name) → list_any (is_called x) (map (λ y. y.name) file.globals ++ flat_map (module_vars file) file.modules) ≡ list_any (λ v. bytes_eq v.name x) (variables file)
  variables_any x =
      list_any-append (is_called x) (map (λ y. y.name) file.globals) (flat_map (module_vars file) file.modules)
      ∙ ap₂ (λ a b. a || b)
      (any-map (is_called x) (λ y. y.name) file.globals ∙ sym (any-map (λ (v : Variable). bytes_eq v.name x) (λ y. record { owner = None; name = y.name.name; ty = var_type y }) file.globals))
      (numbered_any x 0 file.modules flat.form.modules)
      ∙ sym (list_any-append (λ (v : Variable). bytes_eq v.name x) (map (λ y. record { owner = None; name = y.name.name; ty = var_type y }) file.globals) (numbered_variables 0 (parts file)))

  pub known_typed : (x : Name) → IsKnown file x → IsTrue (is_some (types file x))
  known_typed x h =
      subst (λ o. IsTrue (is_some o)) (sym (types_declared file flat x))
      (elim (or_cases (list_any (is_called x) (map (λ c. c.name) file.constants)) (list_any (is_called x) rest) (sym (list_any-append (is_called x) (map (λ c. c.name) file.constants) rest) ∙ h)) [
        | inl e ↦ either_some _ _ (some_mapped (λ c. c.ty) _ (found_some (λ c. is_called x c.name) file.constants (sym (any-map (is_called x) (λ c. c.name) file.constants) ∙ e)))
        | inr e ↦ second_some _ _ (some_mapped (λ v. v.ty) _ (found_some (λ v. bytes_eq v.name x) (variables file)
            (sym (variables_any x) ∙ sym (ap (λ fs. list_any (is_called x) (map (λ f. f.name) fs ++ (map (λ y. y.name) file.globals ++ flat_map (module_vars file) file.modules))) flat.form.formulas) ∙ e)))
      ])
    where
      rest : List Named
      rest = map (λ f. f.name) file.formulas ++ (map (λ y. y.name) file.globals ++ flat_map (module_vars file) file.modules)

-- ---- the two lists of misfits are one, where each name has a type
typed_name : (at : ℕ) (o : Option Ty) → IsTrue (is_some o) → misfit_at at true o ≡ []
typed_name at None h = absurd cc
typed_name at (Some t) h = refl

pub same_misfits : (ty : Types) (e : Expression) → AllNames (λ x. IsTrue (is_some (ty x))) e → trees.misfits prism_meaning ty e ≡ misfits ty e
same_misfits ty (Truth at b) h = refl
same_misfits ty (Number at d) h = refl
same_misfits ty (At at x) h = typed_name at (ty x) h
same_misfits ty (One at o a) h = ap (λ ms. ms ++ misfit_at at (is_some (type_in prism_meaning ty a)) (type_in prism_meaning ty (One at o a))) (same_misfits ty a h)
same_misfits ty (Two at o a b) h =
    let last = misfit_at at (is_some (type_in prism_meaning ty a) && is_some (type_in prism_meaning ty b)) (type_in prism_meaning ty (Two at o a b)) in
    ap₂ (λ ms ns. ms ++ (ns ++ last)) (same_misfits ty a h.0) (same_misfits ty b h.1)
same_misfits ty (Three at o a b c) h =
    let last = misfit_at at (is_some (type_in prism_meaning ty a) && (is_some (type_in prism_meaning ty b) && is_some (type_in prism_meaning ty c))) (type_in prism_meaning ty (Three at o a b c)) in
    ap₂ (λ ms ns. ms ++ ns) (same_misfits ty a h.0) (ap₂ (λ ms ns. ms ++ (ns ++ last)) (same_misfits ty b h.1) (same_misfits ty c h.2))

-- ---- an expression without a fault has the type that is wanted
pub record HasType (file : File) (w : Ty) (e : Expression) : Type 0 where
  pub ty : Ty
  pub is : type_in prism_meaning (types file) e ≡ Some ty
  pub wanted : is_wanted (wanted_by w) ty ≡ true

pub has_wanted_type : (file : File) → IsFlat file → (w : Ty) (e : Expression) → AllNames (IsKnown file) e → type_faults_of (types file) (wanted_by w) e ≡ [] → HasType file w e
has_wanted_type file flat w e k h =
    let t = type_in prism_meaning (types file) e in
    let r = append_parts (map (λ at. fault at WrongType) (misfits (types file) e)) (fault_if (is_unwanted (wanted_by w) t) (offset_of e) WrongType) h in
    let typed = names_then (IsKnown file) (λ x. IsTrue (is_some (types file x))) (known_typed file flat) e k in
    let s = has_some t ((misfits_none prism_meaning (types file) e).0 (same_misfits (types file) e typed ∙ empty_map (λ at. fault at WrongType) (misfits (types file) e) r.0)) in
    record {
      ty = s.0;
      is = s.1;
      wanted =
          not-false (is_wanted (wanted_by w) s.0)
          (sym (ap (is_unwanted (wanted_by w)) s.1) ∙ no_fault (is_unwanted (wanted_by w) t) (offset_of e) WrongType r.1);
    }
