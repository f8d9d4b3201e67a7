-- What a PRISM file without faults has, written out: no two of its constants and variables have one name, and variables have the types that they
-- are declared with.
use Rattle.std.specs.Prelude.{◌≡◌, ℕ, ◌+◌, List, [], ◌∷◌, ◌++◌, map, max, Bool, true, false, cond, Option, Some, None, bytes_eq}
use Rattle.std.specs.List.{IsDistinct, find, flat_map, list_all, AllByRecursion as Each}
use Rattle.std.specs.Option.{option_map}
use Rattle.std.proofs.Common.{refl, sym, ap, ap₂, subst, ◌∙◌}
use Rattle.std.proofs.lemmas.List.{map-append}
use Rattle.basics.specs.Lists.{append_parts}
use Rattle.basics.specs.Each.{each_with, empty_each, each_unit}
use Rattle.bridge_io.specs.declared.reason.Named.{Named}
use Rattle.bridge_io.specs.declared.reason.Reason.{Reason}
use Rattle.bridge_io.specs.declared.reason.Reason.TheVariants.{TwiceNamed}
use Rattle.op_trees.specs.declared.tree.Ty.{Ty}
use Rattle.name_rules.proofs.Plain.{no_fault}
use Rattle.process_core.specs.Product.{map-map}
use Rattle.process_core.specs.Ready.{Name}
use Rattle.prism_tree.specs.Syntax as prism
use Rattle.prism_tree.specs.Syntax.{Module, plain, copied}
use Rattle.op_trees.specs.Names.{is_called}
use Rattle.prism_names.specs.Names.{part_of}
use Rattle.prism_flat.specs.Kept.{is_plain, IsWrittenOut}
use Rattle.prism_check.specs.Demands.{var_type}
use Rattle.prism_check.specs.NameFaults.{clash, doubled_after, doubled, module_vars, values}
use Rattle.prism_check.specs.TypeFaults.{Variable, numbered_variables, types}
use Rattle.prism_check.specs.TypeFaults as source
use Rattle.prism_check.proofs.Typed.{no_name_fault}
use Rattle.name_table.specs.Flattened.{IsFlat}
use Rattle.name_table.specs.Asks.{contents, bodies, variables, value_names}

-- ---- names that stand once
abbrev pub DiffersFrom : List Named → Named → Type 0
DiffersFrom ns m = Each (λ y. bytes_eq m.name y ≡ false) (map (λ n. n.name) ns)

all_differ : (reason : Reason) (earlier ns : List Named) → doubled_after reason earlier ns ≡ [] → Each (DiffersFrom ns) earlier
all_differ reason earlier [] e = each_unit earlier
all_differ reason earlier (n ∷ ns) e =
    let r = append_parts (flat_map (clash reason n) earlier) (doubled_after reason (n ∷ earlier) ns) e in
    each_with (λ m. clash reason n m ≡ []) (DiffersFrom ns) (DiffersFrom (n ∷ ns))
    (λ m c d. (no_fault (bytes_eq m.name n.name) (max m.at n.at) reason c, d)) earlier
    (empty_each (clash reason n) earlier r.0) (all_differ reason (n ∷ earlier) ns r.1).1

pub distinct_from : (reason : Reason) (earlier ns : List Named) → doubled_after reason earlier ns ≡ [] → IsDistinct bytes_eq (map (λ n. n.name) ns)
unfolding IsDistinct
distinct_from reason earlier [] e = tt
distinct_from reason earlier (n ∷ ns) e =
    let r = append_parts (flat_map (clash reason n) earlier) (doubled_after reason (n ∷ earlier) ns) e in
    ((all_differ reason (n ∷ earlier) ns r.1).0, distinct_from reason (n ∷ earlier) ns r.1)

-- ---- the names of constants and variables
module _ (file : prism.File) where
  module_names : (ms : List Module) → list_all is_plain ms ≡ true →
      map (λ n. n.name) (flat_map (module_vars file) ms) ≡ map (λ x. x.name.name) (flat_map (λ m. m.vars) (map contents ms))
  module_names [] h = refl
  module_names (plain m ∷ ms) h =
      map-append (λ n. n.name) (map (λ x. x.name) m.vars) (flat_map (module_vars file) ms)
      ∙ ap₂ (λ a b. a ++ b) (map-map (λ n. n.name) (λ x. x.name) m.vars) (module_names ms h)
      ∙ sym (map-append (λ x. x.name.name) m.vars (flat_map (λ m. m.vars) (map contents ms)))
  module_names (copied m ∷ ms) h = absurd cc

  pub value_names_are : IsWrittenOut file → map (λ n. n.name) (values file) ≡ value_names file
  value_names_are written =
      let globals = map (λ x. x.name) file.globals in
      let own = flat_map (module_vars file) file.modules in
      map-append (λ n. n.name) (map (λ c. c.name) file.constants) (map (λ f. f.name) file.formulas ++ (globals ++ own))
      ∙ ap₂ (λ a b. a ++ b) (map-map (λ n. n.name) (λ c. c.name) file.constants)
      (ap (λ fs. map (λ n. n.name) (map (λ f. f.name) fs ++ (globals ++ own))) written.formulas
      ∙ map-append (λ n. n.name) globals own
      ∙ ap₂ (λ a b. a ++ b) (map-map (λ n. n.name) (λ x. x.name) file.globals) (module_names file.modules written.modules)
      ∙ sym (map-append (λ x. x.name.name) file.globals (flat_map (λ m. m.vars) (bodies file))))

  pub values_distinct : IsFlat file → IsDistinct bytes_eq (value_names file)
  values_distinct flat =
      subst (IsDistinct bytes_eq) (value_names_are flat.form)
      (distinct_from TwiceNamed [] (values file) (append_parts (doubled TwiceNamed (values file)) _ (no_name_fault file flat).doubled).0)

-- ---- types
-- the first of two lists that are searched alike
pub found_alike : {A B C : Type 0} (f : A → C) (g : B → C) (a : A) (b : B) (o : Option A) (p : Option B) (t : Bool) → f a ≡ g b →
    option_map f o ≡ option_map g p → option_map f (cond t (Some a) o) ≡ option_map g (cond t (Some b) p)
found_alike f g a b o p true e r = ap Some e
found_alike f g a b o p false e r = r

abbrev first_type : Name → List Variable → Option Ty
first_type x vs = option_map (λ v. v.ty) (find (λ v. bytes_eq v.name x) vs)

abbrev pub declared_type : Name → List prism.Var → Option Ty
declared_type x vs = option_map var_type (find (λ v. is_called x v.name) vs)

more_found : (x : Name) (owner : Option ℕ) (vs : List prism.Var) (rest : List Variable) (more : List prism.Var) → first_type x rest ≡ declared_type x more →
    first_type x (map (λ v. record { owner = owner; name = v.name.name; ty = var_type v }) vs ++ rest) ≡ declared_type x (vs ++ more)
more_found x owner [] rest more h = h
more_found x owner (v ∷ vs) rest more h =
    found_alike (λ v. v.ty) var_type (record { owner = owner; name = v.name.name; ty = var_type v }) v _ _ (bytes_eq v.name.name x) refl (more_found x owner vs rest more h)

numbered_found : (file : prism.File) (x : Name) (i : ℕ) (ms : List Module) → list_all is_plain ms ≡ true →
    first_type x (numbered_variables i (map (part_of file) ms)) ≡ declared_type x (flat_map (λ m. m.vars) (map contents ms))
numbered_found file x i [] h = refl
numbered_found file x i (plain m ∷ ms) h = more_found x (Some i) m.vars _ _ (numbered_found file x (i + 1) ms h)
numbered_found file x i (copied m ∷ ms) h = absurd cc

pub variable_types : (file : prism.File) → IsFlat file → (x : Name) → option_map (λ v. v.ty) (source.variable_called file x) ≡ declared_type x (variables file)
variable_types file flat x = more_found x None file.globals _ _ (numbered_found file x 0 file.modules flat.form.modules)
