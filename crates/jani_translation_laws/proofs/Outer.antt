-- What stands outside of automata has no fault of types.
use Rattle.std.specs.Prelude.{◌≡◌, List, [], ◌∷◌, ◌++◌, map, Bool, true, false, Option, Some, None, if◌then◌else◌}
use Rattle.std.specs.List.{flat_map, zip, AllByRecursion as Each}
use Rattle.std.specs.Option.{option_map}
use Rattle.std.proofs.Common.{refl, ◌∙◌}
use Rattle.basics.specs.Lists.{append_both, flat_map_both}
use Rattle.op_trees.specs.declared.tree.Ty.{Ty}
use Rattle.op_trees.specs.declared.tree.Ty.TheVariants as T
use Rattle.process_core.specs.Product.{flat_map-flat_map}
use Rattle.process_core.specs.Ready.{Name}
use Rattle.prism_tree.specs.Syntax as prism
use Rattle.prism_check.specs.Demands.{type_by}
use Rattle.prism_check.specs.Flattened.{IsFlat}
use Rattle.prism_check.proofs.Typed.{HasType}
use Rattle.prism_flat.specs.Scene.{has_condition}
use Rattle.jani_tree.specs.Syntax.{is_always}
use Rattle.jani_check.specs.Things.{kind_type, global_thing}
use Rattle.basics.specs.Options.{if_some, IfAny}
use Rattle.op_trees.specs.Wanted.{wanted_by}
use Rattle.op_trees.specs.declared.wanted.Wanted.TheVariants as W
use Rattle.jani_check.specs.Demands.{fixed, varying, const_demands, bound_demands, var_demands, outer_demands}
use Rattle.jani_check.specs.TypeFaults.{var_faults, demand_faults}
use Rattle.jani_translation.specs.Entry.{Entry}
use Rattle.prism_images.specs.Image.{image}
use Rattle.jani_translation.specs.Asks.{variables, new_names}
use Rattle.jani_translation.specs.Parts.{constant, variable, kind_of, restriction, start_of, label, structure}
use Rattle.jani_translation.specs.Translated.{translated}
use Rattle.jani_translation_laws.specs.TypeLaws.{KindsFit, OuterTypesFit}
use Rattle.jani_translation_laws.proofs.Expressions.{IsFixed, fixed_clean, image_fits}
use Rattle.jani_translation_laws.proofs.Sources.{IsFineRange, IsFineVar, IsFineConst, consts_fine, init_fine, variables_fine}

-- nothing comes of a list of pairs, where nothing comes of each
pub nothing_zipped : {X B C : Type 0} (F : B → List C) (g : X → Entry → B) (P : X → Type 0) → ((x : X) (e : Entry) → P x → F (g x e) ≡ []) →
    (xs : List X) (es : List Entry) → Each P xs → flat_map F (map (λ p. g p.0 p.1) (zip xs es)) ≡ []
nothing_zipped F g P h [] es p = refl
nothing_zipped F g P h (x ∷ xs) [] p = refl
nothing_zipped F g P h (x ∷ xs) (e ∷ es) p = append_both (F (g x e)) _ (h x e p.0) (nothing_zipped F g P h xs es p.1)

pub nothing_each : {X B C : Type 0} (F : B → List C) (g : X → Entry → B) → ((x : X) (e : Entry) → F (g x e) ≡ []) →
    (xs : List X) (es : List Entry) → flat_map F (map (λ p. g p.0 p.1) (zip xs es)) ≡ []
nothing_each F g h [] es = refl
nothing_each F g h (x ∷ xs) [] = refl
nothing_each F g h (x ∷ xs) (e ∷ es) = append_both (F (g x e)) _ (h x e) (nothing_each F g h xs es)

-- ---- kinds
kind_fits : (new : Name → Name) (any : Bool) (v : prism.Var) (e : Entry) → var_faults (variable new any v e) ≡ []
kind_fits new any v e = by_range v.range
  where
    by_range : (r : Option prism.Range) → var_faults (record (variable new any v e) { kind = kind_of new r }) ≡ []
    by_range None = refl
    by_range (Some r) = refl

pub kinds_fit : (file : prism.File) → KindsFit file
kinds_fit file =
    let names = new_names file in
    flat_map_both var_faults (map (λ p. variable names.value (has_condition file) p.0 p.1) (zip (variables file) names.variables)) _
    (nothing_each var_faults (variable names.value (has_condition file)) (kind_fits names.value (has_condition file)) (variables file) names.variables)
    (flat_map_both var_faults (map (λ p. label p.0 p.1) (zip file.labels names.labels)) (map (λ p. structure p.0 p.1) (zip file.rewards names.rewards))
    (nothing_each var_faults label (λ l e. refl) file.labels names.labels)
    (nothing_each var_faults structure (λ r e. refl) file.rewards names.rewards))

-- ---- constants and variables
module _ (file : prism.File) (flat : IsFlat file) where
  value_clean : (t : Ty) (o : Option prism.Expression) → IfAny (IsFixed file flat t) o →
      flat_map (demand_faults (global_thing (translated file))) (map (fixed (wanted_by t)) (if_some (option_map (image (new_names file).value) o))) ≡ []
  value_clean t None h = refl
  value_clean t (Some e) h = append_both (demand_faults (global_thing (translated file)) (fixed (wanted_by t) (image (new_names file).value e))) [] (fixed_clean file flat t e h) refl

  start_clean : (r : Option prism.Range) (o : Option prism.Expression) → IsFineRange file flat r → IfAny (IsFixed file flat (type_by r)) o →
      flat_map (demand_faults (global_thing (translated file)))
      (bound_demands (kind_of (new_names file).value r) ++ (fixed (wanted_by (kind_type (kind_of (new_names file).value r))) (start_of (new_names file).value o r) ∷ [])) ≡ []
  start_clean None None h k = refl
  start_clean None (Some e) h k = append_both (demand_faults (global_thing (translated file)) (fixed (wanted_by T.Bool) (image (new_names file).value e))) [] (fixed_clean file flat T.Bool e k) refl
  start_clean (Some r) None h k =
      let low = fixed_clean file flat T.Int r.low h.0 in
      let D : prism.Expression → _ = λ e. demand_faults (global_thing (translated file)) (fixed (wanted_by T.Int) (image (new_names file).value e)) in
      append_both (D r.low) _ low (append_both (D r.high) _ (fixed_clean file flat T.Int r.high h.1) (append_both (D r.low) [] low refl))
  start_clean (Some r) (Some e) h k =
      let D : prism.Expression → _ = λ e. demand_faults (global_thing (translated file)) (fixed (wanted_by T.Int) (image (new_names file).value e)) in
      append_both (D r.low) _ (fixed_clean file flat T.Int r.low h.0)
      (append_both (D r.high) _ (fixed_clean file flat T.Int r.high h.1) (append_both (D e) [] (fixed_clean file flat T.Int e k) refl))

  bounds_clean : (r : Option prism.Range) → IsFineRange file flat r → flat_map (demand_faults (global_thing (translated file))) (bound_demands (kind_of (new_names file).value r) ++ []) ≡ []
  bounds_clean None h = refl
  bounds_clean (Some r) h =
      let D : prism.Expression → _ = λ e. demand_faults (global_thing (translated file)) (fixed (wanted_by T.Int) (image (new_names file).value e)) in
      append_both (D r.low) _ (fixed_clean file flat T.Int r.low h.0) (append_both (D r.high) [] (fixed_clean file flat T.Int r.high h.1) refl)

  variable_clean : (any : Bool) (v : prism.Var) (e : Entry) → IsFineVar file flat v → flat_map (demand_faults (global_thing (translated file))) (var_demands (variable (new_names file).value any v e)) ≡ []
  variable_clean true v e h = bounds_clean v.range h.0
  variable_clean false v e h = start_clean v.range v.start h.0 h.1

  restriction_clean : (o : Option prism.Expression) → IfAny (HasType file T.Bool) o →
      flat_map (demand_faults (global_thing (translated file))) (map (varying W.Bool) (if_some (restriction (new_names file).value o))) ≡ []
  restriction_clean None h = refl
  restriction_clean (Some e) h = by_always (is_always (image (new_names file).value e))
    where
      by_always : (b : Bool) → flat_map (demand_faults (global_thing (translated file))) (map (varying W.Bool) (if_some (if b then None else Some (image (new_names file).value e)))) ≡ []
      by_always true = refl
      by_always false = append_both (demand_faults (global_thing (translated file)) (varying W.Bool (image (new_names file).value e))) [] (image_fits file flat T.Bool e h) refl

  pub outer_types_fit : flat_map (demand_faults (global_thing (translated file))) (outer_demands (translated file)) ≡ []
  outer_types_fit =
      let names = new_names file in
      let F = demand_faults (global_thing (translated file)) in
      flat_map_both F (flat_map const_demands (translated file).constants) _
      (flat_map-flat_map F const_demands (translated file).constants
      ∙ nothing_zipped (λ c. flat_map F (const_demands c)) (constant names.value) (IsFineConst file flat) (λ c e h. value_clean c.ty c.value h) file.constants names.constants (consts_fine file flat))
      (flat_map_both F (flat_map var_demands (translated file).variables) (map (varying W.Bool) (if_some (translated file).restrict))
      (flat_map-flat_map F var_demands (translated file).variables
      ∙ flat_map_both (λ v. flat_map F (var_demands v)) (map (λ p. variable names.value (has_condition file) p.0 p.1) (zip (variables file) names.variables)) _
      (nothing_zipped (λ v. flat_map F (var_demands v)) (variable names.value (has_condition file)) (IsFineVar file flat) (variable_clean (has_condition file)) (variables file) names.variables (variables_fine file flat))
      (flat_map_both (λ v. flat_map F (var_demands v)) (map (λ p. label p.0 p.1) (zip file.labels names.labels)) (map (λ p. structure p.0 p.1) (zip file.rewards names.rewards))
      (nothing_each (λ v. flat_map F (var_demands v)) label (λ l e. refl) file.labels names.labels)
      (nothing_each (λ v. flat_map F (var_demands v)) structure (λ r e. refl) file.rewards names.rewards)))
      (restriction_clean file.init (init_fine file flat)))

pub outer_fit : (file : prism.File) → OuterTypesFit file
outer_fit file flat = outer_types_fit file flat
