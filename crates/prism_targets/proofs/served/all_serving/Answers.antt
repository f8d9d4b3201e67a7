use Rattle.std.specs.Prelude.{◌≡◌, ℕ, List, Vec, map}
use Rattle.std.specs.Global.{Global}
use Rattle.std.specs.List.{filter}
use Rattle.std.specs.Borrow.{Bor}
use Rattle.gathering.specs.Lists.{list_under}
use Rattle.edge_tables.specs.Tables.{Row, calls}
use Rattle.prism_targets.specs.declared.rows.VectorRow.{VectorRow}
use Rattle.prism_targets.specs.Code.{loop_serves, row_view}
use Rattle.prism_targets.proofs.Looping.{second_told}
use Rattle.prism_targets.proofs.served.all_serving.Goals as goal

pub returns-clause-loops : goal.returns-clause-loops
returns-clause-loops c =
    let k = c.args.element in
    let all = map (λ (r : Bor VectorRow). row_view r.now) c.args.rows.now in
    let actions = c.args.edges.now.element.accepts.now in
    second_told c.edges_serving-own.result c.loops_serving.result c.together.result
    (λ (ls : Vec (Vec ℕ Global) Global). (rows : List Row) → ((x : List ℕ) → map (λ r. row_view r.now) (list_under c.in_ok-naming.naming x) ≡ filter (calls k x) rows) →
    map (λ ns. ns.items) ls.items ≡ map (λ x. loop_serves rows k x.name) actions)
    (λ (ls : Vec (Vec ℕ Global) Global). map (λ ns. ns.items) ls.items ≡ map (λ x. loop_serves all k x.name) actions)
    (λ ls h. h all c.in_ok-naming.ensures) c.loops_serving.ensures c.together.ensures.ok
