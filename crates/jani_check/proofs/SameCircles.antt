-- Constants that depend on themselves, as declarations that do.
use Rattle.std.specs.Prelude.{ℕ, zero, suc, List, map, ◌||◌, bytes_eq}
use Rattle.std.specs.List.{flat_map, filter, list_any}
use Rattle.std.proofs.Common.{◌≡◌, refl, ap, ap₂, ◌∙◌}
use Rattle.std.proofs.Math.Path.{fun_ext}
use Rattle.std.proofs.lemmas.List.{length-map}
use Rattle.std.proofs.lemmas.List.Folds.{flat_map-map}
use Rattle.bridge_io.specs.declared.reason.Reason.TheVariants.{Cycle}
use Rattle.name_rules.specs.Least.{fault_if}
use Rattle.op_trees.specs.Names.{is_called}
use Rattle.name_rules.specs.Names.{Name}
use Rattle.name_rules.specs.Circles as C
use Rattle.jani_tree.specs.Syntax.{Const}
use Rattle.basics.specs.Mapped.{kept_mapped}
use Rattle.jani_check.specs.Circles.{const_declared}
use Rattle.jani_check.specs.NameFaults.{uses, uses_of, leads_to, circular}

module _ (cs : List Const) where
  same_uses : (x : Name) → C.uses_of (map const_declared cs) x ≡ uses_of cs x
  same_uses x =
      ap (flat_map (λ d. d.uses)) (kept_mapped const_declared (λ d. is_called x d.name) (λ c. is_called x c.name) (λ c. refl) cs)
      ∙ flat_map-map (λ d. d.uses) const_declared (filter (λ c. is_called x c.name) cs)

  same_leads : (n : ℕ) (x y : Name) → C.leads_to (map const_declared cs) n x y ≡ leads_to cs n x y
  same_leads zero x y = refl
  same_leads (suc n) x y = ap₂ (λ f zs. bytes_eq x y || list_any f zs) (fun_ext (λ z. same_leads n z y)) (same_uses x)

  same_circular : (c : Const) → C.circular (map const_declared cs) (const_declared c) ≡ circular cs c
  same_circular c =
      ap₂ (λ n leads. fault_if (list_any (λ x. leads n x) (uses c)) c.name.at Cycle) (length-map cs const_declared)
      (fun_ext (λ n. fun_ext (λ x. same_leads n x c.name.name)))

  pub same_circles : C.circles (map const_declared cs) ≡ flat_map (circular cs) cs
  same_circles = flat_map-map (C.circular (map const_declared cs)) const_declared cs ∙ ap (λ f. flat_map f cs) (fun_ext same_circular)
