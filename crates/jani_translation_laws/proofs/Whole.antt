-- A translated file has no fault of types, and none of the profile.
use Rattle.std.specs.Prelude.{◌≡◌, List, [], ◌∷◌, ◌++◌, Bool, true, false}
use Rattle.std.specs.List.{flat_map}
use Rattle.std.proofs.Common.{refl, ◌∙◌}
use Rattle.basics.specs.Lists.{append_parts, append_both, flat_map_both}
use Rattle.bridge_io.specs.declared.reason.Fault.{Fault}
use Rattle.prism_tree.specs.Syntax as prism
use Rattle.process_core.specs.Instance.{only_if}
use Rattle.jani_tree.specs.Syntax.{Var, Write}
use Rattle.jani_check.specs.Things.{global_thing, beside}
use Rattle.jani_check.specs.Demands.{automaton_demands, outer_demands}
use Rattle.jani_check.specs.TypeFaults.{var_faults, demand_faults, repeated_writes, automaton_faults}
use Rattle.jani_check.specs.ProfileFaults.{start_faults, demand_profile, branch_rewards, automaton_profile, given_after}
use Rattle.jani_check.proofs.Parts.{from_none}
use Rattle.jani_translation.specs.Entry.{Entry}
use Rattle.jani_translation.specs.Asks.{bodies, new_names}
use Rattle.jani_translation.specs.Automata.{zz_monitor, earns_silently, has_monitor, automaton, location_values, module_automata, monitor_edges, monitor}
use Rattle.jani_translation.specs.Translated.{translated}
use Rattle.jani_translation_laws.specs.TypeLaws.{TypesButShared, NoTypeFault}
use Rattle.jani_translation_laws.specs.ProfileLaws.{NoProfileFault}
use Rattle.jani_translation_laws.proofs.Outer.{kinds_fit, outer_fit}
use Rattle.jani_translation_laws.proofs.Automata.{automata_fit}
use Rattle.jani_translation_laws.proofs.Once.{automata_write_once}
use Rattle.jani_translation_laws.proofs.Reading.{starts_fit, values_given_once, outer_reads_fit}
use Rattle.jani_translation_laws.proofs.EdgeProfile.{automata_reads_fit, branches_fit}
use Rattle.jani_translation_laws.proofs.OneWriter.{one_reward_writer}
use Rattle.jani_translation_laws.proofs.Shared.{no_clashing_writes}

three_none : {A B : Type 0} (f g h : A → List B) (xs : List A) → flat_map f xs ≡ [] → flat_map g xs ≡ [] → flat_map h xs ≡ [] → flat_map (λ x. f x ++ (g x ++ h x)) xs ≡ []
three_none f g h [] p q r = refl
three_none f g h (x ∷ xs) p q r =
    let a = append_parts (f x) (flat_map f xs) p in
    let b = append_parts (g x) (flat_map g xs) q in
    let c = append_parts (h x) (flat_map h xs) r in
    append_both (f x ++ (g x ++ h x)) _ (append_both (f x) (g x ++ h x) a.0 (append_both (g x) (h x) b.0 c.0)) (three_none f g h xs a.1 b.1 c.1)

-- an automaton has no variables of its own
module _ (file : prism.File) (F : Var → List Fault) where
  own_modules : (silently : Bool) (values : List Write) (ms : List prism.Body) (es : List Entry) →
      flat_map (λ a. flat_map F a.variables) (module_automata (new_names file) silently values ms es) ≡ []
  own_modules silently values [] es = refl
  own_modules silently values (m ∷ ms) [] = refl
  own_modules silently values (m ∷ ms) (e ∷ es) = own_modules silently [] ms es

  own_monitor : (b : Bool) → flat_map (λ a. flat_map F a.variables) (only_if b (automaton (new_names file) zz_monitor [] (monitor_edges (new_names file) file))) ≡ []
  own_monitor true = refl
  own_monitor false = refl

  no_own : flat_map (λ a. flat_map F a.variables) (translated file).automata ≡ []
  no_own =
      flat_map_both (λ a. flat_map F a.variables) (module_automata (new_names file) (earns_silently file) (location_values (new_names file) file) (bodies file) (new_names file).modules) (monitor (new_names file) file)
      (own_modules (earns_silently file) (location_values (new_names file) file) (bodies file) (new_names file).modules) (own_monitor (has_monitor file))

pub no_profile_fault : (file : prism.File) → NoProfileFault file
no_profile_fault file flat =
    let g = global_thing (translated file) in
    append_both (flat_map start_faults (translated file).variables) _ (starts_fit file)
    (append_both (flat_map (demand_profile g) (outer_demands (translated file))) _ (outer_reads_fit file flat)
    (append_both (flat_map (automaton_profile g) (translated file).automata) _
    (three_none (λ a. flat_map start_faults a.variables) (λ a. flat_map (demand_profile (beside g a.variables)) (automaton_demands a))
    (λ a. flat_map (branch_rewards (beside g a.variables)) a.edges) (translated file).automata (no_own file start_faults) (automata_reads_fit file flat) (branches_fit file flat))
    (append_both (given_after g (λ x. false) (translated file).automata) _ (values_given_once file) (one_reward_writer file flat))))

pub types_but_shared : (file : prism.File) → TypesButShared file
types_but_shared file flat =
    let g = global_thing (translated file) in
    from_none (flat_map var_faults (translated file).variables) _ (kinds_fit file)
    ∙ from_none (flat_map (demand_faults g) (outer_demands (translated file))) _ (outer_fit file flat)
    ∙ from_none (flat_map (automaton_faults g) (translated file).automata) _
    (three_none (λ a. flat_map var_faults a.variables) (λ a. flat_map (demand_faults (beside g a.variables)) (automaton_demands a))
    repeated_writes (translated file).automata (no_own file var_faults) (automata_fit file flat) (automata_write_once file flat))

pub no_type_fault : (file : prism.File) → NoTypeFault file
no_type_fault file flat = types_but_shared file flat ∙ no_clashing_writes file flat
