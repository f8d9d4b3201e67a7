-- No expression of a translated file reads a transient variable, and no edge assigns to a label.
use Rattle.std.specs.Prelude.{◌≡◌, ℕ, List, [], ◌∷◌, ◌++◌, map, Bool, true, false, ◌||◌, Option, Some, None, if◌then◌else◌}
use Rattle.std.specs.List.{flat_map, zip}
use Rattle.std.specs.Option.{option_map}
use Rattle.std.proofs.Common.{refl, ap, ◌∙◌}
use Rattle.std.proofs.Math.Bool.{and-false}
use Rattle.basics.specs.Lists.{append_both, flat_map_both}
use Rattle.bridge_io.specs.declared.reason.Named.{Named}
use Rattle.bridge_io.specs.declared.reason.Reason.TheVariants.{TransientRead, TransientTwoAutomata}
use Rattle.op_trees.specs.declared.tree.Ty.{Ty}
use Rattle.op_trees.specs.Tree.{Tree, Truth, Number, Name as At, One, Two, Three}
use Rattle.op_trees.specs.Names.{names_of}
use Rattle.process_core.specs.Product.{flat_map-flat_map}
use Rattle.process_core.specs.Ready.{Name}
use Rattle.prism_tree.specs.declared.operator.PrismOp.{PrismOp}
use Rattle.prism_tree.specs.declared.operator.PrismOp.TheVariants as P
use Rattle.prism_tree.specs.Syntax as prism
use Rattle.process_core.specs.Instance.{only_if}
use Rattle.prism_check.specs.Flattened.{IsFlat}
use Rattle.jani_table.specs.declared.operator.JaniOp.{JaniOp}
use Rattle.prism_flat.specs.Scene.{has_condition}
use Rattle.jani_tree.specs.Syntax.{Write, is_always}
use Rattle.name_rules.specs.Least.{fault_if}
use Rattle.jani_check.specs.Things.{kind_type, global_thing, is_transient}
use Rattle.basics.specs.Options.{if_some}
use Rattle.op_trees.specs.Wanted.{wanted_by}
use Rattle.op_trees.specs.declared.wanted.Wanted.TheVariants as W
use Rattle.jani_check.specs.Demands.{fixed, varying, const_demands, bound_demands, var_demands, outer_demands}
use Rattle.jani_check.specs.ProfileFaults.{reads, read_fault, demand_profile, start_faults, given_again, given_after}
use Rattle.jani_check.specs.NameFaults.{is_among}
use Rattle.jani_translation.specs.Entry.{Entry}
use Rattle.prism_images.specs.Image.{image, image_one}
use Rattle.jani_translation.specs.Asks.{bodies, variables, new_names}
use Rattle.jani_translation.specs.Parts.{constant, variable, kind_of, restriction, start_of, label, structure}
use Rattle.jani_translation.specs.Automata.{zz_monitor, earns_silently, has_monitor, automaton, location_values, module_automata, monitor_edges, monitor}
use Rattle.jani_translation.specs.Translated.{translated}
use Rattle.jani_translation_laws.specs.ProfileLaws.{StartsFit, ValuesGivenOnce, OuterReadsFit}
use Rattle.jani_translation_laws.proofs.Alike.{lasts}
use Rattle.jani_translation_laws.proofs.Outer.{nothing_each}

-- ---- first values
variable_starts : (new : Name → Name) (any : Bool) (x : prism.Var) (e : Entry) → start_faults (variable new any x e) ≡ []
variable_starts new true x e = refl
variable_starts new false x e = refl

pub starts_fit : (file : prism.File) → StartsFit file
starts_fit file =
    let names = new_names file in
    flat_map_both start_faults (map (λ p. variable names.value (has_condition file) p.0 p.1) (zip (variables file) names.variables)) _
    (nothing_each start_faults (variable names.value (has_condition file)) (variable_starts names.value (has_condition file)) (variables file) names.variables)
    (flat_map_both start_faults (map (λ p. label p.0 p.1) (zip file.labels names.labels)) (map (λ p. structure p.0 p.1) (zip file.rewards names.rewards))
    (nothing_each start_faults label (λ l e. refl) file.labels names.labels)
    (nothing_each start_faults structure (λ r e. refl) file.rewards names.rewards))

-- ---- the values of locations
module _ (file : prism.File) where
  none_again : (ns : List Named) → flat_map (given_again (global_thing (translated file)) (λ x. false)) ns ≡ []
  none_again [] = refl
  none_again (n ∷ ns) =
      append_both (given_again (global_thing (translated file)) (λ x. false) n) _
      (ap (λ b. fault_if b n.at TransientTwoAutomata) (and-false (is_transient (global_thing (translated file) n.name)))) (none_again ns)

  rest_gives : (b : Bool) (earlier : Name → Bool) → given_after (global_thing (translated file)) earlier (only_if b (automaton (new_names file) zz_monitor [] (monitor_edges (new_names file) file))) ≡ []
  rest_gives true earlier = refl
  rest_gives false earlier = refl

  modules_give : (silently : Bool) (ms : List prism.Body) (es : List Entry) (earlier : Name → Bool) →
      given_after (global_thing (translated file)) earlier (module_automata (new_names file) silently [] ms es ++ monitor (new_names file) file) ≡ []
  modules_give silently [] es earlier = rest_gives (has_monitor file) earlier
  modules_give silently (m ∷ ms) [] earlier = rest_gives (has_monitor file) earlier
  modules_give silently (m ∷ ms) (e ∷ es) earlier = modules_give silently ms es (λ x. earlier x || false)

  first_gives : (silently : Bool) (values : List Write) (ms : List prism.Body) (es : List Entry) →
      given_after (global_thing (translated file)) (λ x. false) (module_automata (new_names file) silently values ms es ++ monitor (new_names file) file) ≡ []
  first_gives silently values [] es = rest_gives (has_monitor file) (λ x. false)
  first_gives silently values (m ∷ ms) [] = rest_gives (has_monitor file) (λ x. false)
  first_gives silently values (m ∷ ms) (e ∷ es) =
      append_both (flat_map (given_again (global_thing (translated file)) (λ x. false)) (map (λ w. w.target) values ++ [])) _
      (none_again (map (λ w. w.target) values ++ [])) (modules_give silently ms es (λ x. is_among (map (λ w. w.target) values ++ []) x))

pub values_given_once : (file : prism.File) → ValuesGivenOnce file
values_given_once file = first_gives file (earns_silently file) (location_values (new_names file) file) (bodies file) (new_names file).modules

-- ---- what is read
module _ (file : prism.File) (flat : IsFlat file) where
  one_read : (at : ℕ) (o : PrismOp) (a : Tree JaniOp) → reads (global_thing (translated file)) a ≡ [] → reads (global_thing (translated file)) (image_one at o a) ≡ []
  one_read at P.Neg a h = h
  one_read at o a h = h

  pub none_read : (e : prism.Expression) → reads (global_thing (translated file)) (image (new_names file).value e) ≡ []
  none_read (Truth at b) = refl
  none_read (Number at d) = refl
  none_read (At at x) = ap (λ b. fault_if b at TransientRead ++ []) (lasts file flat x)
  none_read (One at o a) = one_read at o (image (new_names file).value a) (none_read a)
  none_read (Two at o a b) =
      flat_map_both (read_fault (global_thing (translated file))) (names_of (image (new_names file).value a)) (names_of (image (new_names file).value b)) (none_read a) (none_read b)
  none_read (Three at o a b c) =
      flat_map_both (read_fault (global_thing (translated file))) (names_of (image (new_names file).value a)) _ (none_read a)
      (flat_map_both (read_fault (global_thing (translated file))) (names_of (image (new_names file).value b)) (names_of (image (new_names file).value c)) (none_read b) (none_read c))

  value_reads : (t : Ty) (o : Option prism.Expression) → flat_map (demand_profile (global_thing (translated file))) (map (fixed (wanted_by t)) (if_some (option_map (image (new_names file).value) o))) ≡ []
  value_reads t None = refl
  value_reads t (Some e) = append_both (reads (global_thing (translated file)) (image (new_names file).value e)) [] (none_read e) refl

  start_reads : (t : Ty) (r : Option prism.Range) (o : Option prism.Expression) →
      flat_map (demand_profile (global_thing (translated file))) (bound_demands (kind_of (new_names file).value r) ++ (fixed (wanted_by t) (start_of (new_names file).value o r) ∷ [])) ≡ []
  start_reads t None None = refl
  start_reads t None (Some e) = append_both (reads (global_thing (translated file)) (image (new_names file).value e)) [] (none_read e) refl
  start_reads t (Some r) None =
      append_both (reads (global_thing (translated file)) (image (new_names file).value r.low)) _ (none_read r.low)
      (append_both (reads (global_thing (translated file)) (image (new_names file).value r.high)) _ (none_read r.high)
      (append_both (reads (global_thing (translated file)) (image (new_names file).value r.low)) [] (none_read r.low) refl))
  start_reads t (Some r) (Some e) =
      append_both (reads (global_thing (translated file)) (image (new_names file).value r.low)) _ (none_read r.low)
      (append_both (reads (global_thing (translated file)) (image (new_names file).value r.high)) _ (none_read r.high)
      (append_both (reads (global_thing (translated file)) (image (new_names file).value e)) [] (none_read e) refl))

  -- where there is a condition there is no first value
  bounds_read : (r : Option prism.Range) → flat_map (demand_profile (global_thing (translated file))) (bound_demands (kind_of (new_names file).value r) ++ []) ≡ []
  bounds_read None = refl
  bounds_read (Some r) =
      append_both (reads (global_thing (translated file)) (image (new_names file).value r.low)) _ (none_read r.low)
      (append_both (reads (global_thing (translated file)) (image (new_names file).value r.high)) [] (none_read r.high) refl)

  variable_reads : (any : Bool) (x : prism.Var) (e : Entry) → flat_map (demand_profile (global_thing (translated file))) (var_demands (variable (new_names file).value any x e)) ≡ []
  variable_reads true x e = bounds_read x.range
  variable_reads false x e = start_reads (kind_type (kind_of (new_names file).value x.range)) x.range x.start

  restriction_reads : (o : Option prism.Expression) → flat_map (demand_profile (global_thing (translated file))) (map (varying W.Bool) (if_some (restriction (new_names file).value o))) ≡ []
  restriction_reads None = refl
  restriction_reads (Some e) = by_always (is_always (image (new_names file).value e))
    where
      by_always : (b : Bool) →
          flat_map (demand_profile (global_thing (translated file))) (map (varying W.Bool) (if_some (if b then None else Some (image (new_names file).value e)))) ≡ []
      by_always true = refl
      by_always false = append_both (reads (global_thing (translated file)) (image (new_names file).value e)) [] (none_read e) refl

  outer_reads : flat_map (demand_profile (global_thing (translated file))) (outer_demands (translated file)) ≡ []
  outer_reads =
      let names = new_names file in
      let F = demand_profile (global_thing (translated file)) in
      flat_map_both F (flat_map const_demands (translated file).constants) _
      (flat_map-flat_map F const_demands (translated file).constants
      ∙ nothing_each (λ c. flat_map F (const_demands c)) (constant names.value) (λ c e. value_reads c.ty c.value) file.constants names.constants)
      (flat_map_both F (flat_map var_demands (translated file).variables) (map (varying W.Bool) (if_some (translated file).restrict))
      (flat_map-flat_map F var_demands (translated file).variables
      ∙ flat_map_both (λ v. flat_map F (var_demands v)) (map (λ p. variable names.value (has_condition file) p.0 p.1) (zip (variables file) names.variables)) _
      (nothing_each (λ v. flat_map F (var_demands v)) (variable names.value (has_condition file)) (variable_reads (has_condition file)) (variables file) names.variables)
      (flat_map_both (λ v. flat_map F (var_demands v)) (map (λ p. label p.0 p.1) (zip file.labels names.labels)) (map (λ p. structure p.0 p.1) (zip file.rewards names.rewards))
      (nothing_each (λ v. flat_map F (var_demands v)) label (λ l e. refl) file.labels names.labels)
      (nothing_each (λ v. flat_map F (var_demands v)) structure (λ r e. refl) file.rewards names.rewards)))
      (restriction_reads file.init))

pub outer_reads_fit : (file : prism.File) → OuterReadsFit file
outer_reads_fit file flat = outer_reads file flat
