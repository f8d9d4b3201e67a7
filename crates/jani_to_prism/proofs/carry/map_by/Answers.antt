use Rattle.std.proofs.Common.{◌∙◌, ap, length, map, List}
use Rattle.jani_tree.specs.Syntax.{Automaton}
use Rattle.jani_loops.specs.declared.accepting.ElementAutomaton.{ElementAutomaton}
use Rattle.jani_loops.specs.Elements.{element_view}
use Rattle.prism_modules.specs.Code.{file_in, names_in}
use Rattle.jani_to_prism.proofs.MapMade.{actions_paired}
use Rattle.jani_to_prism.proofs.carry.map_by.Goals as goal

pub returns : goal.returns
returns c =
    let n = c.args.names.now in
    let outer = c.in_ok-locations.ensures.ok in
    let inner = rw outer.1 at c.together.ensures.ok in
    record {
      locations =
          (rw outer.0 at c.location_counts-locations.ensures)
          ∙ ap (λ (l : List ElementAutomaton). map (λ (a : Automaton). length a.locations) (map element_view l)) c.as_slice.ensures.value
          ∙ ap (map (λ (a : Automaton). length a.locations)) c.requires.parts.automata_are;
      columns = rw inner.0 at c.map_columns-columns.ensures;
      labels = (rw inner.1 at c.label_pairs-labels.ensures) ∙ actions_paired (file_in n) (names_in n) c.args.made.now c.requires.targets;
    }
