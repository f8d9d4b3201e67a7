use Rattle.std.proofs.Common.{◌≡◌, ℕ, List, map, take}
use Rattle.std.specs.List.{filter}
use Rattle.edge_tables.specs.Tables.{Row, calls}
use Rattle.gathering.specs.Lists.{list_under}
use Rattle.prism_targets.specs.Code.{loop_serves, row_view}
use Rattle.prism_targets.proofs.served.loops_serving.Given as goal

abbrev pub invariant-loop-x : goal.invariant-loop-x
invariant-loop-x l = (rows : List Row) → ((x : List ℕ) → map (λ r. row_view r.now) (list_under l.naming x) ≡ filter (calls l.element x) rows) →
    map (λ ns. ns.items) l.all.items ≡ map (λ x. loop_serves rows l.element x.name) (take l.x-index l.actions)
