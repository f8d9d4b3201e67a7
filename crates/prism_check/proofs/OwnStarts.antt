-- A file without first values beside an initial condition has none once it is written out.
use Rattle.std.specs.Prelude.{◌≡◌, List, [], ◌++◌, map, Bool, true, false, Option, Some, None, is_some, if◌then◌else◌}
use Rattle.std.specs.List.{flat_map, AllByRecursion as Each}
use Rattle.std.proofs.Common.{refl, ap, ◌∙◌}
use Rattle.basics.specs.Each.{each_empty, each_found, each_map, empty_each}
use Rattle.basics.specs.Lists.{append_both, append_parts}
use Rattle.basics.specs.Mapped.{walked}
use Rattle.basics.specs.Options.{IfAny, is_some-map}
use Rattle.bridge_io.specs.declared.reason.Fault.{Fault}
use Rattle.bridge_io.specs.declared.reason.Reason.TheVariants.{TwoInits}
use Rattle.op_trees.specs.Names.{is_called}
use Rattle.name_rules.specs.Least.{fault_if}
use Rattle.process_core.specs.Ready.{Name}
use Rattle.prism_tree.specs.Syntax.{Var, Module, plain, copied, File}
use Rattle.prism_names.specs.Names.{copy_of, module_called, module_name, renaming, unchanged}
use Rattle.prism_names.specs.Flat.{flat, flat_expression, flat_module, flat_var}
use Rattle.prism_check.specs.NameFaults.{own_start, own_starts, two_inits}

-- other variables and modules, that have none if these have none, where the same test holds
pub still_none : (b c : Bool) (us vs xs ys : List Fault) → c ≡ b → (us ≡ [] → xs ≡ []) → (vs ≡ [] → ys ≡ []) →
    (if b then us ++ vs else []) ≡ [] → (if c then xs ++ ys else []) ≡ []
still_none true c us vs xs ys e h k none =
    let r = append_parts us vs none in
    ap (λ t. if t then xs ++ ys else []) e ∙ append_both xs ys (h r.0) (k r.1)
still_none false c us vs xs ys e h k none = ap (λ t. if t then xs ++ ys else []) e

module _ (file : File) where
  same_starts : (rename : Name → Name) (xs : List Var) → flat_map own_start (map (flat_var file rename) xs) ≡ flat_map own_start xs
  same_starts rename xs =
      walked (flat_var file rename) own_start own_start (λ x. ap (λ b. fault_if b x.name.at TwoInits) (is_some-map (flat_expression file rename) x.start)) xs

  copy_starts : (rename : Name → Name) (o : Option Module) → IfAny (λ m. own_starts m ≡ []) o → flat_map own_start (map (flat_var file (copy_of rename o).rename) (copy_of rename o).vars) ≡ []
  copy_starts rename None h = refl
  copy_starts rename (Some (plain m)) h = same_starts rename m.vars ∙ h
  copy_starts rename (Some (copied m)) h = refl

  module _ (none : Each (λ m. own_starts m ≡ []) file.modules) where
    module_starts : (m : Module) → own_starts m ≡ [] → own_starts (flat_module file m) ≡ []
    module_starts (plain m) h = same_starts unchanged m.vars ∙ h
    module_starts (copied m) h =
        copy_starts (renaming m.pairs) (module_called file m.from.name)
        (each_found (λ m. own_starts m ≡ []) (λ k. is_called m.from.name (module_name k)) file.modules none)

    all_starts : flat_map own_starts (map (flat_module file) file.modules) ≡ []
    all_starts =
        each_empty own_starts (map (flat_module file) file.modules)
        (each_map (λ m. own_starts m ≡ []) (λ m. own_starts m ≡ []) (flat_module file) module_starts file.modules none)

  pub flat_starts : two_inits file ≡ [] → two_inits (flat file) ≡ []
  flat_starts none =
      still_none (is_some file.init) (is_some (flat file).init) (flat_map own_start file.globals) (flat_map own_starts file.modules) _ _
      (is_some-map (flat_expression file unchanged) file.init) (λ h. same_starts unchanged file.globals ∙ h)
      (λ h. all_starts (empty_each own_starts file.modules h)) none
