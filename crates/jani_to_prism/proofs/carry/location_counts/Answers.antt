use Rattle.std.proofs.Common.{◌∙◌, sym, ap, length, map, refl, arith, List}
use Rattle.std.proofs.lemmas.List.{length-map}
use Rattle.jani_tree.specs.Syntax.{Automaton, location_of}
use Rattle.jani_loops.specs.declared.accepting.ElementAutomaton.{ElementAutomaton}
use Rattle.jani_loops.specs.Elements.{element_view}
use Rattle.gathering.proofs.Loops.{map_left, none_left}
use Rattle.jani_to_prism.proofs.carry.location_counts.Goals as goal

pub loop-i-preserved : goal.loop-i-preserved
loop-i-preserved c =
    let a = c.index-automata-i.result in
    map_left (λ (x : Automaton). length x.locations) element_view _ c.loop-i.all c.push.new.self c.args.automata.now c.loop-i.i a (length c.locations-count.result.now) (omega arith)
    c.index-automata-i.is c.loop-i.invariant c.in_ok-push.ensures.ok
    (sym (length-map c.locations-count.result.now location_of)
    ∙ ap length c.locations-count.ensures)

pub returns : goal.returns
returns c =
    none_left (λ (l : List ElementAutomaton). map (λ (x : Automaton). length x.locations) (map element_view l)) _ c.loop-i.all c.args.automata.now c.loop-i.i refl (omega arith)
    c.loop-i.invariant
