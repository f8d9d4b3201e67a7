use Rattle.std.specs.Prelude.{◌+◌, ◌*◌, List, Some, length, map}
use Rattle.std.specs.List.{filter, sum_by}
use Rattle.std.specs.Borrow.{Bor}
use Rattle.std.proofs.Common.{◌∙◌, ap, rules}
use Rattle.std.proofs.lemmas.List.{length-map}
use Rattle.std.proofs.lemmas.List.Sums.{sum_by-append}
use Rattle.bridge_io.specs.declared.reason.Named.{Named}
use Rattle.op_trees.specs.Tree.{capped}
use Rattle.jani_tree.specs.declared.syntax.JaniLocation.{JaniLocation}
use Rattle.jani_tree.specs.Syntax.{automaton_of, location_of}
use Rattle.edge_tables.specs.declared.edges.RankedEdge.{RankedEdge}
use Rattle.edge_tables.specs.declared.splits.VectorSplit.{VectorSplit}
use Rattle.edge_tables.specs.Tables.{ranked_loop, split_count}
use Rattle.edge_tables.specs.Counts.{action_count, blocks_split, edge_count}
use Rattle.edge_tables.specs.Code.{loops_of, numbers_in, ranked_view, split_view, table_view}
use Rattle.edge_tables.proofs.Looping.{loops_count}
use Rattle.edge_tables.proofs.Summing.{three_capped}
use Rattle.edge_tables.proofs.counts.element_commands.Goals as goal

pub returns : goal.returns
returns c = λ h.
    let t = c.args.element.now in
    let xs = t.element.accepts.now in
    let ss = map (λ (s : Bor VectorSplit). split_view s.now) c.args.splits.now in
    let k = c.args.number in
    let own = sum_by (edge_count ss k) (map ranked_view t.edges.items) in
    let blocked = sum_by split_count (filter (blocks_split k (table_view t)) ss) in
    let looped = sum_by (λ (x : Named). length t.element.automaton.now.locations * action_count ss k (Some x.name)) xs in
    three_capped c.edge_commands.result c.loop_commands.result c.blocked_count.result own looped blocked c.saturating_add.result c.saturating_add-2.result _
    (c.edge_commands.ensures ss k h ∙ ap (λ (es : List RankedEdge). capped (sum_by (edge_count ss k) (map ranked_view es))) c.as_slice.ensures.value)
    (c.loop_commands.ensures ss k h ∙ ap (λ (ls : List JaniLocation). capped (sum_by (λ (x : Named). length ls * action_count ss k (Some x.name)) xs)) c.as_slice-2.ensures) c.blocked_count.ensures (search rules) (search rules)
    (ap (λ n. n + blocked)
    (sum_by-append (edge_count ss k) (map ranked_view t.edges.items) (map (ranked_loop (numbers_in t)) (loops_of t.element))
    ∙ ap (λ n. own + n)
    (loops_count ss k (automaton_of t.element.automaton.now) (numbers_in t) xs
    ∙ ap (λ n. sum_by (λ (x : Named). n * action_count ss k (Some x.name)) xs) (length-map t.element.automaton.now.locations location_of))))
