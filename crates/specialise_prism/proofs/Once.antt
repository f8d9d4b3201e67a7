-- In a file without faults each constant is the first of its name, no constants lead round in a circle, and no variable has the name of a constant.
use Rattle.std.specs.Prelude.{◌≡◌, List, [], ◌∷◌, ◌++◌, map, true, false, ◌||◌, Some, bytes_eq, Bool}
use Rattle.std.specs.List.{flat_map, list_all, list_any, AllByRecursion as Each}
use Rattle.std.specs.Option.{option_map}
use Rattle.std.proofs.Common.{refl, sym, ap, ap₂, ◌∙◌, append-nil}
use Rattle.std.proofs.lemmas.List.Folds.{list_any-append}
use Rattle.basics.specs.Lists.{append_parts}
use Rattle.basics.specs.Each.{each_parts}
use Rattle.bridge_io.specs.declared.reason.Named.{Named}
use Rattle.bridge_io.specs.declared.reason.Reason.TheVariants.{TwiceNamed}
use Rattle.op_trees.specs.Seen.{Seen}
use Rattle.name_rules.specs.Doubled.{doubled}
use Rattle.name_rules.specs.Circles.{circles as circles_of}
use Rattle.process_core.specs.Ready.{Name}
use Rattle.process_core.specs.Product.{map-map}
use Rattle.process_core.specs.Instance.{Valuation}
use Rattle.prism_tree.specs.Syntax.{Var, Module, plain, copied, File}
use Rattle.prism_names.specs.Names.{unchanged, part_of}
use Rattle.prism_flat.specs.Scene.{constant_names, column, part_columns, columns_of, has_condition}
use Rattle.prism_flat.specs.Kept.{is_plain}
use Rattle.prism_check.specs.NameFaults.{declared_const, declared_formula, module_vars, values}
use Rattle.prism_check.specs.Flattened.{IsFlat}
use Rattle.prism_check.proofs.Typed.{no_name_fault}
use Rattle.constant_folding.specs.Constants.{called, declared}
use Rattle.constant_folding.proofs.Once.{called_there, flipped, others_apart, own_constants}
use Rattle.specialise_prism.specs.Specialised.{any_const, any_constants}
use Rattle.specialise_prism.specs.SameMeaning.{AreApart}
use Rattle.specialise_prism.proofs.ConstantLaws.{any_called}

module _ (file : File) (flat : IsFlat file) where
  abbrev rest_names : List Named
  rest_names = map (λ f. f.name) file.formulas ++ (map (λ x. x.name) file.globals ++ flat_map (module_vars file) file.modules)

  values_once : doubled TwiceNamed (map (λ c. c.name) (any_constants file) ++ rest_names) ≡ []
  values_once =
      ap (λ ns. doubled TwiceNamed (ns ++ rest_names)) (map-map (λ c. c.name) any_const file.constants)
      ∙ (append_parts (doubled TwiceNamed (values file)) _ (no_name_fault file flat).doubled).0

  pub any_own : Each (λ c. called (any_constants file) c.name.name ≡ Some c) (any_constants file)
  any_own = own_constants TwiceNamed (any_constants file) rest_names values_once

  pub any_uncircled : circles_of (map declared (any_constants file)) ≡ []
  any_uncircled =
      ap circles_of (map-map declared any_const file.constants
      ∙ sym (ap (λ fs. map declared_const file.constants ++ map declared_formula fs) flat.form.formulas ∙ append-nil (map declared_const file.constants)))
      ∙ (no_name_fault file flat).circles

  -- ---- columns
  none_of_vars : (b : Bool) (x : Name) (names : Name → Seen) (xs : List Var) → Each (λ m. bytes_eq x m.name ≡ false) (map (λ y. y.name) xs) →
      list_any (λ k. bytes_eq k.name x) (map (column b unchanged names) xs) ≡ false
  none_of_vars b x names [] h = refl
  none_of_vars b x names (y ∷ ys) h = ap₂ (λ a b. a || b) (flipped x y.name.name h.0) (none_of_vars b x names ys h.1)

  none_of_modules : (b : Bool) (x : Name) (v : Valuation) (ms : List Module) → list_all is_plain ms ≡ true → Each (λ m. bytes_eq x m.name ≡ false) (flat_map (module_vars file) ms) →
      list_any (λ k. bytes_eq k.name x) (flat_map (part_columns file b v) (map (part_of file) ms)) ≡ false
  none_of_modules b x v [] p h = refl
  none_of_modules b x v (copied m ∷ ms) p h = absurd cc
  none_of_modules b x v (plain m ∷ ms) p h =
      let r = each_parts (λ n. bytes_eq x n.name ≡ false) (map (λ y. y.name) m.vars) (flat_map (module_vars file) ms) h in
      list_any-append (λ k. bytes_eq k.name x) (map (column b unchanged (constant_names file v unchanged)) m.vars) (flat_map (part_columns file b v) (map (part_of file) ms))
      ∙ ap₂ (λ c d. c || d) (none_of_vars b x (constant_names file v unchanged) m.vars r.0) (none_of_modules b x v ms p r.1)

  none_of_columns : (v : Valuation) (x : Name) → Each (λ m. bytes_eq x m.name ≡ false) rest_names → list_any (λ k. bytes_eq k.name x) (columns_of file v) ≡ false
  none_of_columns v x h =
      let a = each_parts (λ n. bytes_eq x n.name ≡ false) (map (λ f. f.name) file.formulas) (map (λ y. y.name) file.globals ++ flat_map (module_vars file) file.modules) h in
      let b = each_parts (λ n. bytes_eq x n.name ≡ false) (map (λ y. y.name) file.globals) (flat_map (module_vars file) file.modules) a.1 in
      list_any-append (λ k. bytes_eq k.name x) (map (column (has_condition file) unchanged (constant_names file v unchanged)) file.globals) (flat_map (part_columns file (has_condition file) v) (map (part_of file) file.modules))
      ∙ ap₂ (λ c d. c || d) (none_of_vars (has_condition file) x (constant_names file v unchanged) file.globals b.0) (none_of_modules (has_condition file) x v file.modules flat.form.modules b.1)

  -- no variable has the name of a constant
  pub constants_apart : AreApart file
  constants_apart = record {
    apart =
        λ v x c h.
        let there = called_there (any_constants file) x (any_const c) (any_called file x ∙ ap (option_map any_const) h) in
        none_of_columns v x (others_apart TwiceNamed (any_constants file) rest_names values_once x there);
  }
