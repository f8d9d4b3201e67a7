-- The initial condition of a translated file has no fault of types, and so nothing outside of modules has one.
use Rattle.std.specs.Prelude.{◌≡◌, ℕ, ◌+◌, ◌<◌, List, [], ◌∷◌, ◌++◌, map, length, Bool, true, false, Option, Some, None, get_or, if◌then◌else◌}
use Rattle.std.specs.List.{flat_map, All, AllByRecursion as Each}
use Rattle.std.proofs.Common.{refl, sym, ap, ap₂, ◌∙◌, arith, subst}
use Rattle.std.proofs.lemmas.List.Elements.{All-nil, All-cons, All-append, All-head, All-map, All-tail, recursion_from_All}
use Rattle.basics.specs.Lists.{append_both, flat_map_both}
use Rattle.basics.specs.Options.{if_some, IfAny}
use Rattle.bridge_io.specs.declared.reason.Named.{Named}
use Rattle.choice_laws.proofs.Walks.{All-flat_map}
use Rattle.op_trees.specs.declared.tree.Ty.{Ty}
use Rattle.op_trees.specs.declared.tree.Ty.TheVariants as T
use Rattle.op_trees.specs.Tree.{Name as At, Two}
use Rattle.op_trees.specs.Types as trees
use Rattle.op_trees.specs.Wanted.{is_wanted, wanted_by}
use Rattle.prism_tree.specs.declared.operator.PrismOp.TheVariants.{Equal, Or}
use Rattle.prism_tree.specs.Operators.{prism_meaning}
use Rattle.prism_tree.specs.Syntax as prism
use Rattle.prism_flat.specs.Joined.{joined}
use Rattle.prism_check.specs.Demands.{const_demands, init_demands, label_demands, rewards_demands, var_demands, varying}
use Rattle.prism_check.specs.TypeFaults.{demand_faults, types}
use Rattle.jani_tree.specs.Syntax.{Expression, File}
use Rattle.jani_check.specs.Things.{kind_type}
use Rattle.jani_check.specs.Faults.{IsChecked}
use Rattle.jani_meaning.specs.Elements.{Owned, lasting, location_number}
use Rattle.jani_meaning.specs.Scene.{has_condition}
use Rattle.prism_translation.specs.PrismAsks.{NewNames, name_at, value_name, outside}
use Rattle.prism_translation.specs.Image.{image}
use Rattle.prism_translation.specs.Conditions.{condition_parts, location_part, places, restriction_part, some_of, start_part}
use Rattle.prism_translation.specs.Elements.{Element, Lasting, elements, has_several, lasting_variables}
use Rattle.prism_translation.specs.Modules.{all_of}
use Rattle.prism_translation.specs.Names.{new_names}
use Rattle.prism_translation.specs.Parts.{is_there, scope_of}
use Rattle.prism_translation.specs.Translated.{translated}
use Rattle.prism_translation.proofs.Clean.{has_element, none_outside}
use Rattle.prism_translation.proofs.Numbered.{lasting_below}
use Rattle.prism_translation_laws.specs.TypeLaws.{OuterTypesFit, own_variables}
use Rattle.prism_translation_laws.proofs.Declared.{lasting_at, lasting_there, owned_of, variable_type}
use Rattle.prism_translation_laws.proofs.Expressions.{IsTruth, all_truth, as_truth, fine_image, fixed_image, has_truth, kind_is, there_truth, varying_clean}
use Rattle.prism_translation_laws.proofs.Members.{only_all}
use Rattle.prism_translation_laws.proofs.Outer.{LastingFine, consts_clean, globals_clean, labels_clean, lasting_fine, rewards_clean}
use Rattle.prism_translation_laws.proofs.Sources.{IsFine, IsFixed, restrict_fine}
use Rattle.prism_translation_laws.proofs.TypedImages.{HasPrismType}
use Rattle.prism_translation_laws.proofs.TypedScopes.{nobody}

-- what a variable is given may be compared to it
equal_typed : (t s : Ty) → is_wanted (wanted_by t) s ≡ true → trees.sort_two prism_meaning Equal (Some t) (Some s) ≡ Some T.Bool
equal_typed T.Bool T.Bool h = refl
equal_typed T.Bool T.Int h = absurd cc
equal_typed T.Bool T.Real h = absurd cc
equal_typed T.Int T.Bool h = absurd cc
equal_typed T.Int T.Int h = refl
equal_typed T.Int T.Real h = refl
equal_typed T.Real T.Bool h = absurd cc
equal_typed T.Real T.Int h = refl
equal_typed T.Real T.Real h = refl

module _ (file : File) (checked : IsChecked file) where
  abbrev names : NewNames
  names = new_names file

  abbrev Truth : prism.Expression → Type 0
  Truth = IsTruth file checked

  -- ---- initial locations
  some_joined : (e : prism.Expression) (es : List prism.Expression) → Truth e → All Truth es → Truth (joined Or e es)
  some_joined e [] h k = h
  some_joined e (x ∷ xs) h k = some_joined (Two 0 Or e x) xs (ap₂ (trees.sort_two prism_meaning Or) h (All-head Truth x xs k)) (All-tail Truth x xs k)

  some_truth : (es : List prism.Expression) → All Truth es → Truth (some_of es)
  some_truth [] h = refl
  some_truth (e ∷ es) h = some_joined e es (All-head Truth e es h) (All-tail Truth e es h)

  locations_truth : All (λ el. All Truth (location_part file names el)) (elements file)
  locations_truth i d l =
      let el = get_or (elements file) i d in
      only_all Truth (has_several el) (some_of (places file names el))
      (λ h. some_truth (places file names el)
      (All-map Truth (λ (n : Named). is_there file names el.number (location_number el.automaton n.name)) el.automaton.initial
      (λ j c m. there_truth file checked i d l h (location_number el.automaton (get_or el.automaton.initial j c).name))))

  -- ---- first values
  start_truth : (x : Lasting) → LastingFine file checked x → types (translated file) (name_at names.variables x.number) ≡ Some (kind_type x.owned.var.kind) → All Truth (start_part file names x)
  start_truth x h t = by_start x.owned.var.start h.1.2
    where
      k : ℕ
      k = scope_of file names x.owned

      compared : (e : Expression) → HasPrismType (types (translated file)) (kind_type x.owned.var.kind) (image (value_name file names k) e) →
          Truth (Two 0 Equal (At 0 (name_at names.variables x.number)) (image (value_name file names k) e))
      compared e p = ap₂ (trees.sort_two prism_meaning Equal) t p.is ∙ equal_typed (kind_type x.owned.var.kind) p.type p.wanted

      by_start : (s : Option Expression) → IfAny (IsFixed file (own_variables file k) (kind_type x.owned.var.kind)) s →
          All Truth (map (λ e. Two 0 Equal (At 0 (name_at names.variables x.number)) (image (value_name file names k) e)) (if_some s))
      by_start None f = All-nil Truth
      by_start (Some e) f =
          All-cons Truth (Two 0 Equal (At 0 (name_at names.variables x.number)) (image (value_name file names k) e)) []
          (compared e (fixed_image file checked (own_variables file k) k (kind_type x.owned.var.kind) e f)) (All-nil Truth)

  starts_truth : All (λ x. All Truth (start_part file names x)) (lasting_variables file)
  starts_truth i d l =
      let x = get_or (lasting_variables file) i d in
      let below = lasting_below 0 (lasting file) i d l in
      let within : x.number < length (lasting file) = omega arith in
      let same : get_or (lasting file) x.number nobody ≡ x.owned = sym (owned_of file x.number within) ∙ ap (λ (y : Lasting). y.owned) (lasting_there file i d l) in
      start_truth x (lasting_fine file checked i d l)
      (variable_type file (has_element file checked) x.number within ∙ ap Some (kind_is file checked x.number within ∙ ap (λ (o : Owned). kind_type o.var.kind) same))

  -- ---- "restrict-initial"
  restriction_truth : (o : Option Expression) → IfAny (IsFine file (own_variables file (outside file)) T.Bool) o → All Truth (map (image (value_name file names (outside file))) (if_some o))
  restriction_truth None h = All-nil Truth
  restriction_truth (Some e) h =
      let new = image (value_name file names (outside file)) e in
      All-cons Truth new [] (as_truth file checked new (fine_image file checked (outside file) T.Bool e h)) (All-nil Truth)

  parts_truth : All Truth (condition_parts file names)
  parts_truth =
      All-append Truth (flat_map (location_part file names) (elements file)) (flat_map (start_part file names) (lasting_variables file) ++ restriction_part file names)
      (All-flat_map Truth (location_part file names) (elements file) locations_truth)
      (All-append Truth (flat_map (start_part file names) (lasting_variables file)) (restriction_part file names)
      (All-flat_map Truth (start_part file names) (lasting_variables file) starts_truth)
      (restriction_truth file.restrict (subst (λ vs. IfAny (IsFine file vs T.Bool) file.restrict) (sym (none_outside file checked)) (restrict_fine file checked))))

  -- ---- the whole
  init_clean : flat_map (demand_faults (translated file) 0) (init_demands (translated file).init) ≡ []
  init_clean = by_flag (has_condition file)
    where
      by_flag : (b : Bool) → flat_map (demand_faults (translated file) 0) (init_demands (if b then Some (all_of (condition_parts file names)) else None)) ≡ []
      by_flag false = refl
      by_flag true =
          let e = all_of (condition_parts file names) in
          append_both (demand_faults (translated file) 0 (varying (wanted_by T.Bool) e)) []
          (varying_clean file checked 0 T.Bool e (has_truth file checked e (all_truth file checked (condition_parts file names) (recursion_from_All Truth (condition_parts file names) parts_truth)))) refl

pub outer_types_fit : (file : File) → OuterTypesFit file
outer_types_fit file checked =
    let F = demand_faults (translated file) 0 in
    flat_map_both F (flat_map const_demands (translated file).constants) _ (consts_clean file checked)
    (flat_map_both F (flat_map var_demands (translated file).globals) _ (globals_clean file checked)
    (flat_map_both F (flat_map label_demands (translated file).labels) _ (labels_clean file checked)
    (flat_map_both F (flat_map rewards_demands (translated file).rewards) (init_demands (translated file).init) (rewards_clean file checked) (init_clean file checked))))
