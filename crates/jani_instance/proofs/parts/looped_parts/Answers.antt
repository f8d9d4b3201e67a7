use Rattle.std.specs.Prelude.{map}
use Rattle.std.proofs.Common.{◌∙◌, ap, arith, sym}
use Rattle.name_rules.specs.Names.{under}
use Rattle.gathering.proofs.Loops.{map_more}
use Rattle.jani_tree.specs.declared.syntax.JaniAutomaton.{JaniAutomaton}
use Rattle.jani_tree.specs.declared.syntax.JaniElement.{JaniElement}
use Rattle.jani_tree.specs.Syntax.{automaton_of, edge_of}
use Rattle.jani_instance.specs.Parts.{automaton_at, automaton_by, looped_by, named_automaton, with_edges}
use Rattle.jani_instance.proofs.Looped.{as_long, at_both, edges_put}
use Rattle.jani_instance.proofs.parts.looped_parts.Goals as goal

pub loop-i-preserved : goal.loop-i-preserved
loop-i-preserved c =
    let t = c.args.automata.now in
    let e = c.index-elements-i.result in
    let a = c.index-looped-i.result in
    let f = λ (x : JaniElement). looped_by t x in
    let lt = c.loop-i-test.true in
    map_more automaton_at f c.args.elements.now c.loop-i.i e c.loop-i.all.items c.push.new.self.items _ (omega (arith, lt)) c.index-elements-i.is c.loop-i.invariant c.in_ok-push.ensures.items
    (ap (λ es. with_edges (named_automaton c.get-automaton.result e.name) (map edge_of es)) c.as_slice.ensures
    ∙ ap (λ (x : JaniAutomaton). with_edges (named_automaton c.get-automaton.result e.name) (map edge_of x.edges)) (sym c.index-looped-i.is)
    ∙ ap (λ o. with_edges (named_automaton o e.name) (map edge_of a.edges)) (c.get-automaton.ensures ∙ ap (under t) c.as_str.ensures)
    ∙ edges_put e.enable (automaton_by t e.name) (automaton_of a)
    (at_both automaton_of f c.args.looped.now c.args.elements.now c.loop-i.i a e c.requires (let l = as_long automaton_of f c.args.looped.now c.args.elements.now c.requires in omega (arith, lt, l)) c.index-looped-i.is c.index-elements-i.is))
