-- The names in a translated file.
use Rattle.std.specs.Prelude.{◌≡◌, ◌++◌, [], ◌∷◌, List, length, map, Bool, true, false}
use Rattle.std.specs.List.{zip}
use Rattle.std.proofs.Common.{refl, sym, ap, ap₂, ◌∙◌, arith}
use Rattle.std.proofs.lemmas.List.{map-append}
use Rattle.bridge_io.specs.declared.reason.Named.{Named}
use Rattle.process_core.specs.Instance.{only_if}
use Rattle.process_core.specs.Product.{map-map}
use Rattle.process_core.specs.Ready.{Name}
use Rattle.prism_tree.specs.Syntax as prism
use Rattle.prism_flat.specs.Scene.{has_condition}
use Rattle.prism_names.specs.Flat.{flat}
use Rattle.jani_tree.specs.Places.{bare_automaton, bare_const, bare_file, bare_var}
use Rattle.op_trees.specs.Names.{bare_name}
use Rattle.jani_tree.specs.Syntax.{Automaton, File, Write}
use Rattle.name_table.specs.declared.class.Target.TheVariants.{Jani}
use Rattle.name_table.specs.declared.entry.Entry.{Entry}
use Rattle.name_table.specs.Asks.{asks, bodies, NewNames, new_names, variables}
use Rattle.renaming.specs.Renaming.{names_of}
use Rattle.renaming.proofs.Renaming.{one_to_one}
use Rattle.jani_translation.specs.Parts.{constant, label, structure, variable}
use Rattle.jani_translation.specs.Automata.{automaton, earns_silently, has_monitor, location_values, module_automata, monitor, monitor_edges, zz_monitor}
use Rattle.jani_translation.specs.Translated.{translated}
use Rattle.jani_translation.proofs.Differ.{actions_differ}
use Rattle.jani_translation.proofs.Each.{for_constants, for_labels, for_modules, for_rewards, for_variables, map-zip-right}
use Rattle.jani_translation_laws.proofs.Doubled.{actions_named}
use Rattle.prism_to_jani.specs.Names.{AreJaniNames}
use Rattle.jani_translation_laws.proofs.Alike.{structure_name}

-- an automaton for each module has its entry's name
modules_named : (n : NewNames) (silently : Bool) (ws : List Write) (ms : List prism.Body) (es : List Entry) → length ms ≡ length es →
    map (λ a. a.name.name) (module_automata n silently ws ms es) ≡ names_of es
modules_named n silently ws [] [] l = refl
modules_named n silently ws [] (e ∷ es) l = absurd (let no : ⊥ = omega arith in no)
modules_named n silently ws (m ∷ ms) [] l = absurd (let no : ⊥ = omega arith in no)
modules_named n silently ws (m ∷ ms) (e ∷ es) l = ap (λ (xs : List Name). e.name ∷ xs) (modules_named n silently [] ms es (omega arith))

monitor_named : (n : NewNames) (file : prism.File) (b : Bool) → map (λ a. a.name.name) (only_if b (automaton n zz_monitor [] (monitor_edges n file))) ≡ only_if b zz_monitor.name
monitor_named n file true = refl
monitor_named n file false = refl

module _ (old : prism.File) where
  abbrev file : prism.File
  file = flat old

  abbrev n : NewNames
  n = new_names file

  variables_named : map (λ x. x.name.name) (translated file).variables ≡ names_of n.variables ++ (names_of n.labels ++ names_of n.rewards)
  variables_named =
      let xs = map (λ p. variable n.value (has_condition file) p.0 p.1) (zip (variables file) n.variables) in
      let ys = map (λ p. label p.0 p.1) (zip file.labels n.labels) in
      let zs = map (λ p. structure p.0 p.1) (zip file.rewards n.rewards) in
      map-append (λ x. x.name.name) xs (ys ++ zs)
      ∙ ap₂ (λ a b. a ++ b) (map-zip-right (λ x. x.name.name) (variable n.value (has_condition file)) (λ e. e.name) (λ x e. refl) (variables file) n.variables (for_variables file))
      (map-append (λ x. x.name.name) ys zs
      ∙ ap₂ (λ a b. a ++ b) (map-zip-right (λ x. x.name.name) label (λ e. e.name) (λ x e. refl) file.labels n.labels (for_labels file))
      (map-zip-right (λ x. x.name.name) structure (λ e. e.name) structure_name file.rewards n.rewards (for_rewards file)))

  automata_named : map (λ a. a.name.name) (translated file).automata ≡ names_of n.modules ++ only_if (has_monitor file) zz_monitor.name
  automata_named =
      let ms = module_automata n (earns_silently file) (location_values n file) (bodies file) n.modules in
      map-append (λ (a : Automaton). a.name.name) ms (monitor n file)
      ∙ ap₂ (λ a b. a ++ b) (modules_named n (earns_silently file) (location_values n file) (bodies file) n.modules (for_modules file)) (monitor_named n file (has_monitor file))

  pub are_named : AreJaniNames old (translated file)
  are_named = record {
    constants = map-zip-right (λ x. x.name.name) (constant n.value) (λ e. e.name) (λ x e. refl) file.constants n.constants (for_constants file);
    variables = variables_named;
    automata = automata_named;
    actions = actions_named file;
    one_to_one = one_to_one Jani (asks file);
    labels = actions_differ file;
  }

-- names don't depend on places
pub named_aside : (old : prism.File) (f g : File) → bare_file f ≡ bare_file g → AreJaniNames old f → AreJaniNames old g
named_aside old f g e h = record {
  constants = sym (map-map (λ c. c.name.name) bare_const g.constants) ∙ ap (λ (t : File). map (λ c. c.name.name) t.constants) (sym e) ∙ map-map (λ c. c.name.name) bare_const f.constants ∙ h.constants;
  variables = sym (map-map (λ x. x.name.name) bare_var g.variables) ∙ ap (λ (t : File). map (λ x. x.name.name) t.variables) (sym e) ∙ map-map (λ x. x.name.name) bare_var f.variables ∙ h.variables;
  automata = sym (map-map (λ a. a.name.name) bare_automaton g.automata) ∙ ap (λ (t : File). map (λ a. a.name.name) t.automata) (sym e) ∙ map-map (λ a. a.name.name) bare_automaton f.automata ∙ h.automata;
  actions = sym (map-map (λ (a : Named). a.name) bare_name g.actions) ∙ ap (λ (t : File). map (λ a. a.name) t.actions) (sym e) ∙ map-map (λ (a : Named). a.name) bare_name f.actions ∙ h.actions;
  one_to_one = h.one_to_one;
  labels = h.labels;
}
