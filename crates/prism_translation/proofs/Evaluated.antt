-- The commands of a translated file and the edges of the file, evaluated at states of each.
use Rattle.std.specs.Prelude.{◌≡◌, ℕ, ◌+◌, List, [], ◌∷◌, ◌++◌, map, Bool, true, false, cond, Option, Some, None, get_or}
use Rattle.std.specs.List.{flat_map, filter}
use Rattle.std.proofs.Common.{refl, sym, ap, ap₂, ◌∙◌}
use Rattle.std.proofs.lemmas.List.{map-append}
use Rattle.std.proofs.lemmas.List.Concat.{flat_map_single}
use Rattle.basics.specs.Lists.{map_agree}
use Rattle.process_core.specs.Product.{map-map, map-flat_map, flat_map_agree}
use Rattle.process_core.specs.Ready.{Values, Name, Ready}
use Rattle.choice_laws.proofs.Walks.{flat_map_agree_in}
use Rattle.prism_tree.specs.Syntax as prism
use Rattle.prism_tree.specs.Syntax.{plain}
use Rattle.prism_names.specs.Names.{unchanged, part_of}
use Rattle.process_core.specs.Instance.{Valuation, only_if}
use Rattle.prism_flat.specs.Scene as prism_scene
use Rattle.prism_flat.specs.Moment as prism_moment
use Rattle.jani_tree.specs.Syntax.{Edge, File}
use Rattle.jani_meaning.specs.Elements as jani
use Rattle.jani_meaning.specs.Moment as jani_moment
use Rattle.name_table.specs.PrismAsks.{NewNames}
use Rattle.prism_translation.specs.Elements.{Element, elements, edges_of, Placed, placed_edges}
use Rattle.prism_translation.specs.Targets.{serves, serves_silently, is_blocked}
use Rattle.prism_translation.specs.Names.{new_names}
use Rattle.prism_translation.specs.Modules.{Action, actions, command, commands_of, commands, blocking, module_of}
use Rattle.prism_translation.specs.Translated.{translated}
use Rattle.prism_translation.proofs.OnlyIf.{map-only_if}
use Rattle.prism_translation.proofs.Numbered.{at_element, numbered_walk, placed_from}
use Rattle.prism_translation.proofs.CommandsAlike.{Evaluation, module_ready, element_ready, commands_at}
use Rattle.prism_translation.proofs.AllChoices.{modules_here, elements_at}

module _ (file : File) (v w : Valuation) (s u : Values) where
  -- ---- edges at a state of the file
  abbrev pub edge_ready : Placed → Ready
  edge_ready p = jani_moment.edge_at file w u p.element.number p.element.automaton p.edge

  abbrev pub current : Placed → Bool
  current p = jani_moment.is_current u p.element.number p.element.automaton p.edge.location.name

  -- ---- commands at a state of the translated file
  abbrev pub names : NewNames
  names = new_names file

  abbrev pub acts : List Action
  acts = actions file names

  abbrev pub seen_at : prism.Command → Ready
  seen_at c = prism_moment.command_at (translated file) (prism_scene.columns_of (translated file) v) unchanged (prism_moment.names_in (translated file) v s unchanged) c

  abbrev pub command_ready : Placed → Option Name → Ready
  command_ready p a = seen_at (command file names p.element p.edge a)

  -- a blocking command is that of any element
  abbrev pub blocked : Element → Name → Ready
  blocked el x = seen_at (blocking file names el x)

  abbrev pub evaluation : Element → Evaluation
  evaluation el = record { edge = edge_ready; command = command_ready; block = blocked el; current = current }

  module _ (any : Element) where
    placed_here : (el : Element) (i : ℕ) (es : List Edge) →
        map edge_ready (filter current (placed_from el i es))
        ≡ map (jani_moment.edge_at file w u el.number el.automaton) (filter (λ e. jani_moment.is_current u el.number el.automaton e.location.name) es)
    placed_here el i [] = refl
    placed_here el i (e ∷ es) = by_test (jani_moment.is_current u el.number el.automaton e.location.name) (placed_here el (i + 1) es)
      where
        q : Placed
        q = record { element = el; number = i; edge = e }

        here : Edge → Bool
        here f = jani_moment.is_current u el.number el.automaton f.location.name

        at : Edge → Ready
        at = jani_moment.edge_at file w u el.number el.automaton

        by_test : (b : Bool) → map edge_ready (filter current (placed_from el (i + 1) es)) ≡ map at (filter here es) →
            map edge_ready (cond b (q ∷ filter current (placed_from el (i + 1) es)) (filter current (placed_from el (i + 1) es))) ≡ map at (cond b (e ∷ filter here es) (filter here es))
        by_test true h = ap (λ l. at e ∷ l) h
        by_test false h = h

    pub elements_are : (jani_moment.moment file w u).elements ≡ elements_at file acts (evaluation any)
    elements_are =
        sym (numbered_walk (λ el. jani_moment.element_at file w u el.number el.automaton ∷ []) 0 (jani.elements file))
        ∙ flat_map_agree _ _ (λ el. ap (λ l. l ∷ []) (sym (placed_here el 0 (edges_of el)))) (elements file)
        ∙ flat_map_single (element_ready file acts (evaluation any)) (elements file)

    commands_seen : (el : Element) → map seen_at (commands file names el) ≡ module_ready file acts (evaluation any) el
    commands_seen el =
        map-append seen_at (flat_map (commands_of file names el) (placed_edges el)) (map (λ t. blocking file names el t.name) (filter (λ t. is_blocked file el t.target) acts))
        ∙ ap₂ (λ a b. a ++ b)
        (map-flat_map seen_at (commands_of file names el) (placed_edges el)
        ∙ flat_map_agree_in (λ p. map seen_at (commands_of file names el p)) (commands_at file acts (evaluation any)) (placed_edges el)
        (λ k d l.
        let p = get_or (placed_edges el) k d in
        let at : p.element ≡ el = at_element el 0 (edges_of el) k d l in
        ap (λ x. map seen_at (commands_of file names x p)) (sym at)
        ∙ map-append seen_at (map (λ t. command file names p.element p.edge (Some t.name)) (filter (λ t. serves file t.target p) acts)) (only_if (serves_silently file p) (command file names p.element p.edge None))
        ∙ ap₂ (λ a b. a ++ b)
        (map-map seen_at (λ t. command file names p.element p.edge (Some t.name)) (filter (λ t. serves file t.target p) acts))
        (map-only_if seen_at (serves_silently file p) (command file names p.element p.edge None))))
        (map-map seen_at (λ t. blocking file names el t.name) (filter (λ t. is_blocked file el t.target) acts))

    pub modules_are : (prism_moment.moment (translated file) v s).modules ≡ modules_here file acts (evaluation any)
    modules_are =
        ap (map (prism_moment.part_at (translated file) v s)) (map-map (part_of (translated file)) (λ el. plain (module_of file names el)) (elements file))
        ∙ map-map (prism_moment.part_at (translated file) v s) (λ el. part_of (translated file) (plain (module_of file names el))) (elements file)
        ∙ map_agree _ _ commands_seen (elements file)
