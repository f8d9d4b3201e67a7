use Rattle.std.proofs.Common.{◌≡◌, ℕ, List, map, take}
use Rattle.std.specs.List.{filter}
use Rattle.edge_tables.specs.Tables.{Row, calls, edge_serves}
use Rattle.gathering.specs.Lists.{list_under}
use Rattle.edge_tables.specs.Code.{ranked_view}
use Rattle.prism_targets.specs.Code.{edge_served, row_view}
use Rattle.prism_targets.proofs.served.edges_serving.Given as goal

abbrev pub invariant-loop-e : goal.invariant-loop-e
invariant-loop-e l = (rows : List Row) → ((x : List ℕ) → map (λ r. row_view r.now) (list_under l.naming x) ≡ filter (calls l.element x) rows) →
    map edge_served l.all.items ≡ map (edge_serves rows l.element l.first) (map ranked_view (take l.e-index l.edges))
