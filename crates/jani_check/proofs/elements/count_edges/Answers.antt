use Rattle.std.specs.Prelude.{[], length, map}
use Rattle.std.proofs.Common.{◌∙◌, ap, arith}
use Rattle.jani_tree.specs.Syntax.{automaton_of, file_of}
use Rattle.jani_check.specs.Faults.{element_edges}
use Rattle.jani_check.specs.Participants.{automaton_in}
use Rattle.jani_check.specs.TypeFaults.{with_automaton}
use Rattle.jani_check.proofs.Parts.{sum_next}
use Rattle.jani_check.proofs.elements.count_edges.Goals as goal

pub loop-e-preserved : goal.loop-e-preserved
loop-e-preserved c = (
  sum_next (λ e. length (element_edges (file_of c.args.file.now) e.name)) c.as_slice-e-items.result.now c.loop-e.e-index c.e-item.result c.loop-e.sum c.edges_of.result _
      c.loop-e-test.true c.e-item.is
      (c.edges_of.ensures
      ∙ ap (λ o. length (with_automaton (λ a. a.edges) [] o))
      (c.in_ok-automata.ensures c.e-item.result.name.name ∙ ap (λ l. automaton_in (map automaton_of l) c.e-item.result.name.name) c.as_slice.ensures))
      c.loop-e.invariant.0,
  omega (arith, c.loop-e.invariant.1, c.edges_of.type_inv),
)
