-- The JANI file that a PRISM file is translated to (this project's own rule; the members are those of the jani-model
-- specification, version 1: "Models", "Composition"). The file's formulas and copies of modules are written out. The
-- places that the trees keep are of no account.
use Rattle.std.specs.Prelude.{ℕ, List, [], ◌∷◌, ◌++◌, map, Bool, Option, Some, None, if◌then◌else◌, nat_eq}
use Rattle.std.specs.List.{list_any, zip}
use Rattle.bridge_io.specs.declared.reason.Named.{Named}
use Rattle.process_core.specs.Ready.{Name, same_label}
use Rattle.prism_tree.specs.Syntax as prism
use Rattle.prism_tree.specs.Syntax.{Body}
use Rattle.process_core.specs.Instance.{numbered, only_if}
use Rattle.prism_flat.specs.Scene.{has_condition}
use Rattle.jani_table.specs.Node.{array, no_nodes}
use Rattle.jani_tree.specs.Syntax.{Var, Vector, File, plain_element}
use Rattle.name_table.specs.Asks.{bodies, variables, actions, action_of, NewNames, new_names}
use Rattle.jani_translation.specs.Parts.{made, constant, variable, restriction, label, structure}
use Rattle.jani_translation.specs.Automata.{zz_silent, has_items, for_action, has_silent, earns_silently, has_monitor, automata}

-- some command of the module has the action
abbrev pub has_command : Name → Body → Bool
has_command a m = list_any (λ c. same_label (Some a) (action_of c)) m.commands

-- this action at an element that takes part, null at any other
abbrev pub part_if : Bool → Named → Option Named
part_if takes_part a = if takes_part then Some a else None

-- ---- commands without action: each module takes part alone, with the monitor, and the choice has no label
abbrev pub silent_vector : prism.File → ℕ → Vector
silent_vector file i = record {
  parts = numbered (λ k m. part_if (nat_eq i k) zz_silent ∷ []) 0 (bodies file) ++ Some zz_silent ∷ [];
  result = None;
  at = 0;
}

-- one for each module that has such a command
abbrev pub silent_vectors : prism.File → List Vector
silent_vectors file = numbered (λ i m. only_if (has_silent m) (silent_vector file i)) 0 (bodies file)

module _ (names : NewNames) where
  -- the global variables: those of the file, then its labels, then its reward structures
  abbrev pub global_variables : prism.File → List Var
  global_variables file =
      map (λ p. variable names.value (has_condition file) p.0 p.1) (zip (variables file) names.variables)
      ++ (map (λ p. label p.0 p.1) (zip file.labels names.labels) ++ map (λ p. structure p.0 p.1) (zip file.rewards names.rewards))

  -- the actions of the commands, then zz_silent, if it is used
  abbrev pub jani_actions : prism.File → List Named
  jani_actions file = map (λ a. made (names.action a)) (actions file) ++ only_if (earns_silently file) zz_silent

  -- each module that has the action takes part, and the monitor, if it has an edge for it; the action is the label
  abbrev pub action_vector : prism.File → Name → Vector
  action_vector file a = record {
    parts =
        map (λ m. part_if (has_command a m) (made (names.action a))) (bodies file)
        ++ only_if (has_monitor file) (part_if (has_items (for_action a) file) (made (names.action a)));
    result = Some (made (names.action a));
    at = 0;
  }

  -- one for each action, then those of the commands without action, if zz_silent is used
  abbrev pub vectors : prism.File → List Vector
  vectors file = map (action_vector file) (actions file) ++ (if earns_silently file then silent_vectors file else [])

  abbrev pub translated_by : prism.File → File
  translated_by file = record {
    actions = jani_actions file;
    constants = map (λ p. constant names.value p.0 p.1) (zip file.constants names.constants);
    variables = global_variables file;
    restrict = restriction names.value file.init;
    automata = automata names file;
    elements = map (λ a. plain_element a.name) (automata names file);
    elements_at = 0;
    vectors = vectors file;
    properties = array 0 no_nodes;
  }

-- a PRISM file translated
abbrev pub translated : prism.File → File
translated file = translated_by (new_names file) file
