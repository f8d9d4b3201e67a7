-- One for one: automata and modules, edges and commands, constants, variables, labels and structures.
use Rattle.std.specs.Prelude.{◌≡◌, suc, ◌+◌, List, [], ◌∷◌, ◌++◌, map, length, take, Bool, true, false, not, Some, if◌then◌else◌}
use Rattle.std.specs.List.{filter, zip}
use Rattle.std.specs.Option.{option_map}
use Rattle.std.proofs.Common.{refl, sym, ap, ap₂, ◌∙◌, arith, length-append, append-nil}
use Rattle.std.proofs.lemmas.List.{length-map}
use Rattle.prism_tree.specs.Syntax as prism
use Rattle.process_core.specs.Instance.{only_if}
use Rattle.prism_flat.specs.Scene.{has_condition}
use Rattle.jani_tree.specs.Syntax.{Automaton, Write}
use Rattle.name_table.specs.declared.entry.Entry.{Entry}
use Rattle.prism_images.specs.Image.{image}
use Rattle.name_table.specs.Asks.{bodies, variables, NewNames, new_names}
use Rattle.jani_translation.specs.Parts.{constant, variable, label, structure, kind_of, start_under}
use Rattle.jani_translation.specs.Automata.{earns_silently, has_monitor, edge, module_automata, monitor, location_values}
use Rattle.jani_translation.specs.Laws.{OneAutomatonEach, OneElementEach, ModulesComeFirst, OneEdgeEach, ConstantTypes, ConstantValues, VariableKinds, VariableStarts, OneTransientEach}
use Rattle.jani_translation.proofs.Each.{map-zip, length-zip, n_bodies, for_constants, for_variables, for_labels, for_rewards, for_modules}

-- ---- automata
pub one_or_none : {X : Type 0} (b : Bool) (x : X) → length (only_if b x) ≡ (if b then 1 else 0)
one_or_none true x = refl
one_or_none false x = refl

module _ (names : NewNames) (silently : Bool) where
  n_automata : (vs : List Write) (ms : List prism.Body) (es : List Entry) → length ms ≡ length es → length (module_automata names silently vs ms es) ≡ length ms
  n_automata vs [] es l = refl
  n_automata vs (m ∷ ms) [] l = absurd cc
  n_automata vs (m ∷ ms) (e ∷ es) l = ap suc (n_automata [] ms es (omega arith))

  first_names : (vs : List Write) (ms : List prism.Body) (es : List Entry) (rest : List Automaton) → length ms ≡ length es →
      map (λ a. a.name.name) (take (length ms) (module_automata names silently vs ms es ++ rest)) ≡ map (λ e. e.name) es
  first_names vs [] [] rest l = refl
  first_names vs [] (e ∷ es) rest l = absurd cc
  first_names vs (m ∷ ms) [] rest l = absurd cc
  first_names vs (m ∷ ms) (e ∷ es) rest l = ap (λ r. e.name ∷ r) (first_names [] ms es rest (omega arith))

  first_edges : (vs : List Write) (ms : List prism.Body) (es : List Entry) (rest : List Automaton) → length ms ≡ length es →
      map (λ a. a.edges) (take (length ms) (module_automata names silently vs ms es ++ rest)) ≡ map (λ m. map (edge names silently) m.commands) ms
  first_edges vs [] es rest l = refl
  first_edges vs (m ∷ ms) [] rest l = absurd cc
  first_edges vs (m ∷ ms) (e ∷ es) rest l = ap (λ r. map (edge names silently) m.commands ∷ r) (first_edges [] ms es rest (omega arith))

pub one_automaton_each : (file : prism.File) → OneAutomatonEach file
one_automaton_each file =
    let names = new_names file in
    length-append (module_automata names (earns_silently file) (location_values names file) (bodies file) names.modules) (monitor names file)
    ∙ ap₂ (λ a b. a + b) (n_automata names (earns_silently file) (location_values names file) (bodies file) names.modules (for_modules file) ∙ n_bodies file)
    (one_or_none (has_monitor file) _)

pub one_element_each : (file : prism.File) → OneElementEach file
one_element_each file = refl

pub modules_come_first : (file : prism.File) → ModulesComeFirst file
modules_come_first file =
    let names = new_names file in
    ap (λ n. map (λ a. a.name.name) (take n (module_automata names (earns_silently file) (location_values names file) (bodies file) names.modules ++ monitor names file))) (sym (n_bodies file))
    ∙ first_names names (earns_silently file) (location_values names file) (bodies file) names.modules (monitor names file) (for_modules file)

pub one_edge_each : (file : prism.File) → OneEdgeEach file
one_edge_each file =
    let names = new_names file in
    ap (λ n. map (λ a. a.edges) (take n (module_automata names (earns_silently file) (location_values names file) (bodies file) names.modules ++ monitor names file))) (sym (n_bodies file))
    ∙ first_edges names (earns_silently file) (location_values names file) (bodies file) names.modules (monitor names file) (for_modules file)

-- ---- constants
pub constant_types : (file : prism.File) → ConstantTypes file
constant_types file =
    let names = new_names file in
    map-zip (λ c. c.ty) (constant names.value) (λ c. c.ty) (λ c e. refl) file.constants names.constants (for_constants file)

pub constant_values : (file : prism.File) → ConstantValues file
constant_values file =
    let names = new_names file in
    map-zip (λ c. c.value) (constant names.value) (λ c. option_map (image names.value) c.value) (λ c e. refl) file.constants names.constants (for_constants file)

-- ---- variables
-- where all pass, and where none does
filter-all : {X Y : Type 0} (p : Y → Bool) (f : X → Y) → ((x : X) → p (f x) ≡ true) → (xs : List X) (rest : List Y) →
    filter p (map f xs ++ rest) ≡ map f xs ++ filter p rest
filter-all p f h [] rest = refl
filter-all p f h (x ∷ xs) rest = kept (p (f x)) (h x) (filter-all p f h xs rest)
  where
    kept : (b : Bool) → b ≡ true → filter p (map f xs ++ rest) ≡ map f xs ++ filter p rest →
        (if b then (f x ∷ filter p (map f xs ++ rest)) else filter p (map f xs ++ rest)) ≡ f x ∷ (map f xs ++ filter p rest)
    kept true e t = ap (λ r. f x ∷ r) t
    kept false e t = absurd cc

pub filter-none : {X Y : Type 0} (p : Y → Bool) (f : X → Y) → ((x : X) → p (f x) ≡ false) → (xs : List X) (rest : List Y) →
    filter p (map f xs ++ rest) ≡ filter p rest
filter-none p f h [] rest = refl
filter-none p f h (x ∷ xs) rest = dropped (p (f x)) (h x) (filter-none p f h xs rest)
  where
    dropped : (b : Bool) → b ≡ false → filter p (map f xs ++ rest) ≡ filter p rest →
        (if b then (f x ∷ filter p (map f xs ++ rest)) else filter p (map f xs ++ rest)) ≡ filter p rest
    dropped true e t = absurd cc
    dropped false e t = t

-- the variables that are not transient are the translated variables
pub lasting_are : (file : prism.File) →
    filter (λ x. not x.transient) (map (λ p. variable (new_names file).value (has_condition file) p.0 p.1) (zip (variables file) (new_names file).variables)
    ++ (map (λ p. label p.0 p.1) (zip file.labels (new_names file).labels) ++ map (λ p. structure p.0 p.1) (zip file.rewards (new_names file).rewards)))
    ≡ map (λ p. variable (new_names file).value (has_condition file) p.0 p.1) (zip (variables file) (new_names file).variables)
lasting_are file =
    let vs = map (λ p. variable (new_names file).value (has_condition file) p.0 p.1) (zip (variables file) (new_names file).variables) in
    let structures = map (λ p. structure p.0 p.1) (zip file.rewards (new_names file).rewards) in
    filter-all (λ x. not x.transient) (λ p. variable (new_names file).value (has_condition file) p.0 p.1) (λ p. refl) (zip (variables file) (new_names file).variables) _
    ∙ ap (λ r. vs ++ r)
    (filter-none (λ x. not x.transient) (λ p. label p.0 p.1) (λ p. refl) (zip file.labels (new_names file).labels) structures
    ∙ ap (filter (λ x. not x.transient)) (sym (append-nil structures))
    ∙ filter-none (λ x. not x.transient) (λ p. structure p.0 p.1) (λ p. refl) (zip file.rewards (new_names file).rewards) [])
    ∙ append-nil vs

pub variable_kinds : (file : prism.File) → VariableKinds file
variable_kinds file =
    ap (map (λ x. x.kind)) (lasting_are file)
    ∙ map-zip (λ x. x.kind) (variable (new_names file).value (has_condition file)) (λ x. kind_of (new_names file).value x.range) (λ x e. refl) (variables file) (new_names file).variables (for_variables file)

pub variable_starts : (file : prism.File) → VariableStarts file
variable_starts file =
    ap (map (λ x. x.start)) (lasting_are file)
    ∙ map-zip (λ x. x.start) (variable (new_names file).value (has_condition file)) (λ x. start_under (new_names file).value (has_condition file) x.start x.range) (λ x e. refl) (variables file) (new_names file).variables (for_variables file)

pub one_transient_each : (file : prism.File) → OneTransientEach file
one_transient_each file =
    let structures = map (λ p. structure p.0 p.1) (zip file.rewards (new_names file).rewards) in
    let labels = map (λ p. label p.0 p.1) (zip file.labels (new_names file).labels) in
    ap length
    (filter-none (λ x. x.transient) (λ p. variable (new_names file).value (has_condition file) p.0 p.1) (λ p. refl) (zip (variables file) (new_names file).variables) (labels ++ structures)
    ∙ filter-all (λ x. x.transient) (λ p. label p.0 p.1) (λ p. refl) (zip file.labels (new_names file).labels) structures
    ∙ ap (λ r. labels ++ r)
    (ap (filter (λ x. x.transient)) (sym (append-nil structures))
    ∙ filter-all (λ x. x.transient) (λ p. structure p.0 p.1) (λ p. refl) (zip file.rewards (new_names file).rewards) []
    ∙ append-nil structures))
    ∙ length-append labels structures
    ∙ ap₂ (λ a b. a + b) (length-map (zip file.labels (new_names file).labels) (λ p. label p.0 p.1) ∙ length-zip file.labels (new_names file).labels (for_labels file))
    (length-map (zip file.rewards (new_names file).rewards) (λ p. structure p.0 p.1) ∙ length-zip file.rewards (new_names file).rewards (for_rewards file))
