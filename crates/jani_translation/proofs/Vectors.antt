-- The vectors of a translated file.
use Rattle.std.specs.Prelude.{◌≡◌, List, [], ◌∷◌, ◌++◌, map, Bool, true, false, ◌||◌, Option, Some, None, if◌then◌else◌, bytes_eq}
use Rattle.std.specs.List.{flat_map, list_any, list_all}
use Rattle.std.specs.Option.{option_map}
use Rattle.std.proofs.Common.{refl, sym, ap, ap₂, ◌∙◌}
use Rattle.std.proofs.lemmas.List.{map-append}
use Rattle.basics.specs.Booleans.{first_true, second_true}
use Rattle.basics.specs.Lists.{map_agree}
use Rattle.process_core.specs.Product.{map-map}
use Rattle.basics.specs.Options.{if_some}
use Rattle.process_core.specs.Ready.{Values, Name, Ready, Vector, firsts, has_action, same_label, vector_of}
use Rattle.prism_tree.specs.Syntax as prism
use Rattle.prism_tree.specs.Syntax.{Command, Module, plain, copied}
use Rattle.prism_names.specs.Names.{part_of}
use Rattle.process_core.specs.Instance.{Valuation, only_if}
use Rattle.prism_flat.specs.Kept.{is_plain}
use Rattle.prism_flat.specs.Moment.{part_at, moment}
use Rattle.jani_meaning.specs.Moment as jani
use Rattle.name_table.specs.Asks.{contents, bodies, actions, action_of, new_names}
use Rattle.jani_translation.specs.Parts.{made}
use Rattle.jani_translation.specs.Automata.{earns_silently, has_monitor, has_items, for_action}
use Rattle.jani_translation.specs.Translated.{has_command, part_if, silent_vectors, action_vector}
use Rattle.jani_translation.specs.Laws.{watched_vector, VectorsWatched}

-- ---- the commands of a module, as they are at a state, have the actions of the commands
module _ (f : Command → Ready) (same : (c : Command) → (f c).action ≡ action_of c) where
  command_actions : (cs : List Command) → flat_map (λ r. if_some r.action) (map f cs) ≡ flat_map (λ c. if_some (action_of c)) cs
  command_actions [] = refl
  command_actions (c ∷ cs) = ap₂ (λ a b. if_some a ++ b) (same c) (command_actions cs)

  commands_have : (a : Name) (cs : List Command) → list_any (has_action (Some a)) (map f cs) ≡ list_any (λ c. same_label (Some a) (action_of c)) cs
  commands_have a [] = refl
  commands_have a (c ∷ cs) = ap₂ (λ x y. same_label (Some a) x || y) (same c) (commands_have a cs)

module _ (file : prism.File) (v : Valuation) (s : Values) where
  module_actions : (m : Module) → is_plain m ≡ true → flat_map (λ r. if_some r.action) (part_at file v s (part_of file m)) ≡ flat_map (λ c. if_some (action_of c)) (contents m).commands
  module_actions (plain m) h = command_actions _ (λ c. refl) m.commands
  module_actions (copied m) h = absurd cc

  module_has : (a : Name) (m : Module) → is_plain m ≡ true → list_any (has_action (Some a)) (part_at file v s (part_of file m)) ≡ has_command a (contents m)
  module_has a (plain m) h = commands_have _ (λ c. refl) a m.commands
  module_has a (copied m) h = absurd cc

  pub all_actions : (ms : List Module) → list_all is_plain ms ≡ true →
      flat_map (λ m. flat_map (λ r. if_some r.action) m) (map (part_at file v s) (map (part_of file) ms))
      ≡ flat_map (λ m. flat_map (λ c. if_some (action_of c)) m.commands) (map contents ms)
  all_actions [] h = refl
  all_actions (m ∷ ms) h =
      ap₂ (λ x y. x ++ y) (module_actions m (first_true (is_plain m) (list_all is_plain ms) h)) (all_actions ms (second_true (is_plain m) (list_all is_plain ms) h))

  -- a module that takes part
  part_same : (new : Name → Name) (a : Name) (b c : Bool) → b ≡ c →
      option_map (λ n. n.name) (part_if b (made (new a))) ≡ option_map new (if c then Some a else None)
  part_same new a true true e = refl
  part_same new a true false e = absurd cc
  part_same new a false true e = absurd cc
  part_same new a false false e = refl

  all_parts : (new : Name → Name) (a : Name) (ms : List Module) → list_all is_plain ms ≡ true →
      map (option_map (λ n. n.name)) (map (λ m. part_if (has_command a m) (made (new a))) (map contents ms))
      ≡ map (option_map new) (map (λ m. if list_any (has_action (Some a)) m then Some a else None) (map (part_at file v s) (map (part_of file) ms)))
  all_parts new a [] h = refl
  all_parts new a (m ∷ ms) h =
      ap₂ (λ x y. x ∷ y) (part_same new a _ _ (sym (module_has a m (first_true (is_plain m) (list_all is_plain ms) h))))
      (all_parts new a ms (second_true (is_plain m) (list_all is_plain ms) h))

same_vector : (ps qs : List (Option Name)) (r : Option Name) → ps ≡ qs → ◌≡◌ {A = Vector} (record { parts = ps; result = r }) (record { parts = qs; result = r })
same_vector ps qs r e = cc

monitor_same : (b c : Bool) (n : Name) → map (option_map (λ k. k.name)) (only_if b (part_if c (made n))) ≡ only_if b (if c then Some n else None)
monitor_same true true n = refl
monitor_same true false n = refl
monitor_same false c n = refl

pub vectors_watched : (file : prism.File) → VectorsWatched file
vectors_watched file written v s =
    let names = new_names file in
    let modules = (moment file v s).modules in
    let rest = (if earns_silently file then silent_vectors file else []) in
    map-append jani.vector_of (map (action_vector names file) (actions file)) rest
    ∙ ap (λ r. r ++ map jani.vector_of rest)
    (map-map jani.vector_of (action_vector names file) (actions file)
    ∙ map_agree (λ a. jani.vector_of (action_vector names file a)) (λ a. watched_vector file names.action a (vector_of a modules))
    (λ a. same_vector _ _ _
    (map-append (option_map (λ n. n.name)) (map (λ m. part_if (has_command a m) (made (names.action a))) (bodies file))
    (only_if (has_monitor file) (part_if (has_items (for_action a) file) (made (names.action a))))
    ∙ ap₂ (λ x y. x ++ y) (all_parts file v s names.action a file.modules written.modules)
    (monitor_same (has_monitor file) (has_items (for_action a) file) (names.action a)))) (actions file)
    ∙ ap (λ as_. map (λ a. watched_vector file names.action a (vector_of a modules)) (firsts bytes_eq as_)) (sym (all_actions file v s file.modules written.modules)))
