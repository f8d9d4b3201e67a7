use Rattle.std.proofs.Common.{◌∙◌, sym, ap, List, ◌++◌, map, Some, None}
use Rattle.std.specs.List.{filter}
use Rattle.process_core.specs.Instance.{numbered}
use Rattle.jani_tree.specs.Syntax.{Automaton, file_of, var_of}
use Rattle.jani_meaning.specs.Elements.{owned_by}
use Rattle.jani_loops.specs.Elements.{element_view}
use Rattle.name_table.specs.JaniParts.{is_wanted}
use Rattle.name_table.proofs.JaniGathering.{chosen_are}
use Rattle.gathering.proofs.Loops.{numbered_all as numbered_rest}
use Rattle.name_table.proofs.jani_parts.chosen.Goals as goal

pub returns : goal.returns
returns c =
    let kept = is_wanted c.args.wanted in
    let first = filter kept (owned_by None (map var_of c.args.file.now.variables)) in
    numbered_rest (λ i (a : Automaton). filter kept (owned_by (Some i) a.variables)) element_view (first ++ numbered (λ i (a : Automaton). filter kept (owned_by (Some i) a.variables)) 0 (map element_view c.args.automata.now)) _
    c.args.automata.now c.loop-i.i c.loop-i-test.false c.loop-i.invariant
    ∙ ap (λ (l : List Automaton). first ++ numbered (λ i (a : Automaton). filter kept (owned_by (Some i) a.variables)) 0 l) c.requires
    ∙ sym (chosen_are kept (file_of c.args.file.now))
