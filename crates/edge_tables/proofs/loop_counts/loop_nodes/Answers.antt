use Rattle.std.specs.Prelude.{◌*◌, List, Some, map}
use Rattle.std.specs.List.{filter, sum_by}
use Rattle.std.proofs.Common.{◌∙◌, ap, ap₂, take_all}
use Rattle.bridge_io.specs.declared.reason.Named.{Named}
use Rattle.op_trees.specs.Tree.{capped}
use Rattle.jani_tree.specs.declared.syntax.JaniLocation.{JaniLocation}
use Rattle.jani_tree.specs.Syntax.{Edge, automaton_of, edge_of, location_of}
use Rattle.jani_meaning.specs.Loops.{has_name}
use Rattle.edge_tables.specs.Counts.{action_count, edges_at, guard_nodes, joined_nodes}
use Rattle.edge_tables.proofs.Summing.{product_next}
use Rattle.edge_tables.proofs.loop_counts.loop_nodes.Goals as goal

pub loop-x-preserved : goal.loop-x-preserved
loop-x-preserved c = λ ss k h.
    let x = c.x-item.result in
    let a = automaton_of c.args.a.now in
    product_next (λ (x : Named). action_count ss k (Some x.name) * guard_nodes a x) c.args.actions.now c.loop-x.x-index x c.loop-x.sum c.saturating_add-sum.result c.in_ok-next.next
    c.loop-x-test.true c.x-item.is (c.loop-x.invariant ss k h)
    (c.in_ok-next.ensures ss k h
    ∙ ap₂ (λ (es : List Edge) (ls : List JaniLocation). capped (action_count ss k (Some x.name) * sum_by (λ l. joined_nodes (edges_at l es)) (map location_of ls)))
    (c.in_ok-acting.ensures x.name ∙ ap (λ es. filter (λ e. has_name x.name e.action) (map edge_of es)) c.as_slice.ensures) c.as_slice-in-loop-x.ensures)
    c.saturating_add-sum.ensures

pub returns : goal.returns
returns c = λ ss k h.
    c.loop-x.invariant ss k h
    ∙ ap (λ (xs : List Named). capped (sum_by (λ x. action_count ss k (Some x.name) * guard_nodes (automaton_of c.args.a.now) x) xs)) (take_all c.loop-x.x-index c.args.actions.now c.loop-x-test.false)
