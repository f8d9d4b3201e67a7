use Rattle.std.specs.Prelude.{◌≡◌, List, Some, map}
use Rattle.std.specs.List.{filter, sum_by}
use Rattle.std.specs.Borrow.{Bor}
use Rattle.std.proofs.Common.{◌∙◌, ap, sym}
use Rattle.std.proofs.Math.Path.{fun_ext}
use Rattle.gathering.specs.Lists.{list_under}
use Rattle.op_trees.specs.Names.{is_called}
use Rattle.op_trees.specs.Tree.{capped}
use Rattle.jani_tree.specs.declared.syntax.JaniEdge.{JaniEdge}
use Rattle.jani_tree.specs.Syntax.{Edge, Location, location_of}
use Rattle.jani_loops.specs.Looped.{lent_edge}
use Rattle.edge_tables.specs.Code.{sum_under}
use Rattle.edge_tables.specs.Counts.{action_count, edges_at, joined_nodes}
use Rattle.edge_tables.proofs.Summing.{capped_product, capped_zero}
use Rattle.edge_tables.proofs.loop_counts.action_nodes.Goals as goal

pub returns-then-times-eq0 : goal.returns-then-times-eq0
returns-then-times-eq0 c = λ ss k h.
    capped_zero (action_count ss k (Some c.args.action.now.name)) _
    (sym c.if-times-eq0.true ∙ c.get-times.ensures ∙ ap (sum_under c.args.sums.now) c.as_str.ensures ∙ h c.args.action.now.name)

pub returns : goal.returns
returns c = λ ss k h.
    let es = map lent_edge (list_under c.args.acting.now c.args.action.now.name) in
    let at : (l : Location) → map lent_edge (list_under c.in_ok-here.here l.name.name) ≡ edges_at l es = λ l.
    c.in_ok-here.ensures l.name.name
    ∙ ap (λ (bs : List (Bor JaniEdge)). filter (λ e. is_called l.name.name e.location) (map lent_edge bs)) (c.get.ensures ∙ ap (list_under c.args.acting.now) c.as_str-2.ensures) in
    c.saturating_mul.ensures
    ∙ capped_product c.get-times.result c.location_nodes.result (action_count ss k (Some c.args.action.now.name)) (sum_by (λ l. joined_nodes (edges_at l es)) (map location_of c.args.locations.now))
    (c.get-times.ensures ∙ ap (sum_under c.args.sums.now) c.as_str.ensures ∙ h c.args.action.now.name)
    (c.location_nodes.ensures ∙ ap (λ (f : Location → List Edge). capped (sum_by (λ l. joined_nodes (f l)) (map location_of c.args.locations.now))) (fun_ext at))
