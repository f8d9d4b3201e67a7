use Rattle.std.specs.Prelude.{◌≡◌, ◌+◌, List, map, drop}
use Rattle.std.specs.List.{filter}
use Rattle.std.specs.Borrow.{Bor}
use Rattle.std.proofs.Common.{◌∙◌, ap, arith, sym}
use Rattle.std.proofs.lemmas.List.{drop_all}
use Rattle.basics.specs.Lists.{drop_item}
use Rattle.op_trees.specs.Tree.{capped}
use Rattle.edge_tables.specs.declared.edges.ElementEdges.{ElementEdges}
use Rattle.edge_tables.specs.declared.splits.VectorSplit.{VectorSplit}
use Rattle.edge_tables.specs.Tables.{Split, is_participant}
use Rattle.edge_tables.specs.Counts.{command_count, commands_from, node_count, nodes_from}
use Rattle.edge_tables.specs.Code.{table_view, split_view}
use Rattle.edge_tables.proofs.TakingPart.{commands_own, nodes_own}
use Rattle.edge_tables.proofs.Summing.{capped_done, capped_rest, capped_within}
use Rattle.edge_tables.proofs.counts.whole_size.Goals as goal

pub loop-k-preserved : goal.loop-k-preserved
loop-k-preserved c =
    let ss = map split_view c.args.splits.now in
    let rest = drop_item c.args.elements.now c.loop-k.k c.index-elements-k.result c.loop-k-test.true c.index-elements-k.is in
    let t = table_view c.index-elements-k.result in
    let before = c.loop-k.whole in
    let whole = c.in_ok-next.next in
    let mine : map (λ (s : Bor VectorSplit). split_view s.now) c.get.result.now ≡ filter (is_participant c.loop-k.k) ss =
    ap (map (λ (s : Bor VectorSplit). split_view s.now)) c.get.ensures ∙ c.in_ok-mine.ensures c.loop-k.k in
    let commands : whole.commands ≡ capped (before.commands + command_count ss c.loop-k.k t) =
    c.in_ok-next.ensures.commands ∙ ap (λ (l : List Split). capped (before.commands + command_count l c.loop-k.k t)) mine ∙ ap (λ n. capped (before.commands + n)) (commands_own ss c.loop-k.k t) in
    record {
      commands =
          capped_rest before.commands whole.commands (command_count ss c.loop-k.k t) (commands_from ss (c.loop-k.k + 1) (map table_view (drop (c.loop-k.k + 1) c.args.elements.now))) _ commands
          (ap (λ (l : List ElementEdges). capped (before.commands + commands_from ss c.loop-k.k (map table_view l))) (sym rest) ∙ c.loop-k.invariant.commands);
      nodes = λ few.
          capped_rest before.nodes whole.nodes (node_count ss c.loop-k.k t) (nodes_from ss (c.loop-k.k + 1) (map table_view (drop (c.loop-k.k + 1) c.args.elements.now))) _
          (c.in_ok-next.ensures.nodes few ∙ ap (λ (l : List Split). capped (before.nodes + node_count l c.loop-k.k t)) mine ∙ ap (λ n. capped (before.nodes + n)) (nodes_own ss c.loop-k.k t))
          (ap (λ (l : List ElementEdges). capped (before.nodes + nodes_from ss c.loop-k.k (map table_view l))) (sym rest)
          ∙ c.loop-k.invariant.nodes (capped_within before.commands (command_count ss c.loop-k.k t) whole.commands commands few));
      few_commands = let e = commands in omega (arith, e);
      few_nodes = λ few. let e = c.in_ok-next.ensures.nodes few in omega (arith, e);
    }

pub returns-clause-commands : goal.returns-clause-commands
returns-clause-commands c =
    let ss = map split_view c.args.splits.now in
    capped_done c.loop-k.whole.commands _ _ c.loop-k.invariant.few_commands
    (ap (λ (l : List ElementEdges). commands_from ss c.loop-k.k (map table_view l)) (drop_all c.loop-k.k c.args.elements.now c.loop-k-test.false)) c.loop-k.invariant.commands

pub returns-clause-nodes : goal.returns-clause-nodes
returns-clause-nodes c = λ few.
    let ss = map split_view c.args.splits.now in
    capped_done c.loop-k.whole.nodes _ _ (c.loop-k.invariant.few_nodes few)
    (ap (λ (l : List ElementEdges). nodes_from ss c.loop-k.k (map table_view l)) (drop_all c.loop-k.k c.args.elements.now c.loop-k-test.false)) (c.loop-k.invariant.nodes few)
