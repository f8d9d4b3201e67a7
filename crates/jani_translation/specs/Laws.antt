-- What holds of every translated file: statements, which are proved of the functions of this crate.
use Rattle.std.specs.Prelude.{◌≡◌, ◌+◌, [], ◌++◌, map, length, take, not, Some, None, if◌then◌else◌}
use Rattle.std.specs.List.{filter}
use Rattle.std.specs.Option.{option_map}
use Rattle.process_core.specs.Ready.{Values, Name, Vector, actions_of, vector_of}
use Rattle.prism_tree.specs.Syntax as prism
use Rattle.process_core.specs.Instance.{Valuation, only_if}
use Rattle.prism_flat.specs.Kept.{IsWrittenOut}
use Rattle.prism_flat.specs.Moment.{moment}
use Rattle.prism_flat.specs.Scene.{has_condition}
use Rattle.jani_meaning.specs.Moment as jani
use Rattle.prism_images.specs.Image.{image}
use Rattle.name_table.specs.Asks.{bodies, variables, new_names}
use Rattle.jani_translation.specs.Parts.{kind_of, start_under}
use Rattle.jani_translation.specs.Automata.{has_items, for_action, earns_silently, has_monitor, edge}
use Rattle.jani_translation.specs.Translated.{silent_vectors, translated}
use Rattle.jani_tree.specs.Syntax.{plain_element}

-- ---- one for one
-- there is an automaton for each module, and one more where there is a monitor
abbrev pub OneAutomatonEach : prism.File → Type 0
OneAutomatonEach file = length (translated file).automata ≡ length file.modules + (if has_monitor file then 1 else 0)

-- each automaton is an element, which accepts no action besides
abbrev pub OneElementEach : prism.File → Type 0
OneElementEach file = (translated file).elements ≡ map (λ a. plain_element a.name) (translated file).automata

-- the first automata are those of the modules, in order: they have the new names of the modules
abbrev pub ModulesComeFirst : prism.File → Type 0
ModulesComeFirst file =
    map (λ a. a.name.name) (take (length file.modules) (translated file).automata) ≡ map (λ e. e.name) (new_names file).modules

-- the edges of an automaton are those of its module's commands, in order
abbrev pub OneEdgeEach : prism.File → Type 0
OneEdgeEach file =
    map (λ a. a.edges) (take (length file.modules) (translated file).automata)
    ≡ map (λ m. map (edge (new_names file) (earns_silently file)) m.commands) (bodies file)

-- the constants have the types and the images of the values of those of the file, in order
abbrev pub ConstantTypes : prism.File → Type 0
ConstantTypes file = map (λ c. c.ty) (translated file).constants ≡ map (λ c. c.ty) file.constants

abbrev pub ConstantValues : prism.File → Type 0
ConstantValues file =
    map (λ c. c.value) (translated file).constants ≡ map (λ c. option_map (image (new_names file).value) c.value) file.constants

-- the variables that are not transient have the ranges of those of the file, in order, and their first values, unless the file has an
-- initial condition
abbrev pub VariableKinds : prism.File → Type 0
VariableKinds file =
    map (λ x. x.kind) (filter (λ x. not x.transient) (translated file).variables)
    ≡ map (λ x. kind_of (new_names file).value x.range) (variables file)

abbrev pub VariableStarts : prism.File → Type 0
VariableStarts file =
    map (λ x. x.start) (filter (λ x. not x.transient) (translated file).variables)
    ≡ map (λ x. start_under (new_names file).value (has_condition file) x.start x.range) (variables file)

-- there is a transient variable for each label and for each reward structure
abbrev pub OneTransientEach : prism.File → Type 0
OneTransientEach file =
    length (filter (λ x. x.transient) (translated file).variables) ≡ length file.labels + length file.rewards

-- ---- vectors
-- the vector under other names, and behind it the part of the monitor, if there is one: it takes part in actions that have
-- items
abbrev pub watched_vector : prism.File → (Name → Name) → Name → Vector → Vector
watched_vector file new a v = record {
  parts = map (option_map new) v.parts ++ only_if (has_monitor file) (if has_items (for_action a) file then Some (new a) else None);
  result = option_map new v.result;
}

-- Every file has the vectors of the modules' actions, watched by the monitor; behind them are those of commands without
-- action, if the monitor earns rewards for them.
abbrev pub VectorsWatched : prism.File → Type 0
VectorsWatched file = IsWrittenOut file → (v : Valuation) (s : Values) →
    map jani.vector_of (translated file).vectors
    ≡ map (λ a. watched_vector file (new_names file).action a (vector_of a (moment file v s).modules)) (actions_of (moment file v s).modules)
    ++ map jani.vector_of (if earns_silently file then silent_vectors file else [])
