use Rattle.std.specs.Prelude.{◌≡◌, ℕ, Vec, map}
use Rattle.std.specs.Global.{Global}
use Rattle.std.specs.List.{filter, flat_map}
use Rattle.std.specs.Borrow.{Bor}
use Rattle.bridge_io.specs.declared.reason.Named.{Named}
use Rattle.edge_tables.specs.Tables.{all_numbers, blocks, edge_serves}
use Rattle.edge_tables.specs.Code.{ranked_view, table_view}
use Rattle.prism_targets.specs.declared.rows.VectorRow.{VectorRow}
use Rattle.prism_targets.specs.declared.served.EdgeServing.{EdgeServing}
use Rattle.prism_targets.specs.Code.{edge_served, loop_serves, row_view}
use Rattle.prism_targets.proofs.Looping.{element_is, ok_told, shape_is}
use Rattle.prism_targets.proofs.served.element_serving.Goals as goal

abbrev Both : Type 0
Both = Vec EdgeServing Global × Vec (Vec ℕ Global) Global

pub returns-clause-serving : goal.returns-clause-serving
returns-clause-serving c =
    let k = c.args.element in
    let t = c.args.edges.now in
    let all = map (λ (r : Bor VectorRow). row_view r.now) c.args.rows.now in
    let both : Both = (c.in_ok-own.own, c.in_ok-own.loops) in
    element_is all k c.args.first t (record { edges = c.in_ok-own.own; loops = c.in_ok-own.loops; locations = c.len.result; blocked = c.in_ok-own.blocked })
    (ok_told c.all_serving-serving.result both (λ (s : Both). map edge_served s.0.items ≡ map (edge_serves all k c.args.first) (map ranked_view t.edges.items)) c.in_ok-own.ensures.ok.0 c.all_serving-serving.ensures.edges)
    (ok_told c.all_serving-serving.result both (λ (s : Both). map (λ ns. ns.items) s.1.items ≡ map (λ (x : Named). loop_serves all k x.name) t.element.accepts.now) c.in_ok-own.ensures.ok.0 c.all_serving-serving.ensures.loops)
    c.len.ensures
    (ok_told c.blocked.result c.in_ok-own.blocked (λ (ns : Vec ℕ Global). ns.items ≡ flat_map all_numbers (filter (blocks k (table_view t)) all)) c.in_ok-own.ensures.ok.1 c.blocked.ensures)

pub returns-clause-shape : goal.returns-clause-shape
returns-clause-shape c =
    let k = c.args.element in
    let t = c.args.edges.now in
    let all = map (λ (r : Bor VectorRow). row_view r.now) c.args.rows.now in
    let both : Both = (c.in_ok-own.own, c.in_ok-own.loops) in
    shape_is all k c.args.first t (record { edges = c.in_ok-own.own; loops = c.in_ok-own.loops; locations = c.len.result; blocked = c.in_ok-own.blocked })
    (ok_told c.all_serving-serving.result both (λ (s : Both). map edge_served s.0.items ≡ map (edge_serves all k c.args.first) (map ranked_view t.edges.items)) c.in_ok-own.ensures.ok.0 c.all_serving-serving.ensures.edges)
    (ok_told c.all_serving-serving.result both (λ (s : Both). map (λ ns. ns.items) s.1.items ≡ map (λ (x : Named). loop_serves all k x.name) t.element.accepts.now) c.in_ok-own.ensures.ok.0 c.all_serving-serving.ensures.loops)
    c.len.ensures
