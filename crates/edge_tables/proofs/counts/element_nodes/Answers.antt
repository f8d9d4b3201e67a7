use Rattle.std.specs.Prelude.{◌+◌, ◌*◌, List, Some, map}
use Rattle.std.specs.List.{sum_by}
use Rattle.std.proofs.Common.{◌∙◌, ap, rules}
use Rattle.std.proofs.lemmas.List.Sums.{sum_by-append}
use Rattle.bridge_io.specs.declared.reason.Named.{Named}
use Rattle.op_trees.specs.Tree.{capped}
use Rattle.jani_tree.specs.Syntax.{automaton_of}
use Rattle.prism_translation.specs.Refused.{edge_nodes}
use Rattle.edge_tables.specs.declared.edges.RankedEdge.{RankedEdge}
use Rattle.edge_tables.specs.Tables.{Ranked, ranked_loop}
use Rattle.edge_tables.specs.Counts.{action_count, edge_count, guard_nodes}
use Rattle.edge_tables.specs.Code.{loops_of, numbers_in, ranked_view}
use Rattle.edge_tables.proofs.Looping.{loops_nodes}
use Rattle.edge_tables.proofs.Summing.{two_capped}
use Rattle.edge_tables.proofs.counts.element_nodes.Goals as goal

pub returns : goal.returns
returns c = λ ss k h.
    let t = c.args.element.now in
    let xs = t.element.accepts.now in
    let a = automaton_of t.element.automaton.now in
    let size = λ (e : Ranked). edge_nodes e.edge * edge_count ss k e in
    let own = sum_by size (map ranked_view t.edges.items) in
    let looped = sum_by (λ (x : Named). action_count ss k (Some x.name) * guard_nodes a x) xs in
    two_capped c.nodes_of-own.result c.in_ok-loops.loops own looped c.saturating_add.result _
    (c.nodes_of-own.ensures ss k h ∙ ap (λ (es : List RankedEdge). capped (sum_by size (map ranked_view es))) c.as_slice.ensures.value)
    (c.in_ok-loops.ensures ss k h) (search rules)
    (sum_by-append size (map ranked_view t.edges.items) (map (ranked_loop (numbers_in t)) (loops_of t.element)) ∙ ap (λ n. own + n) (loops_nodes ss k a (numbers_in t) xs))
