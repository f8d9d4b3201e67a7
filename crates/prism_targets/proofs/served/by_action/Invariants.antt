use Rattle.std.proofs.Common.{◌≡◌, ℕ, List, map, take}
use Rattle.std.specs.List.{filter}
use Rattle.edge_tables.specs.Tables.{calls}
use Rattle.gathering.specs.Lists.{list_under}
use Rattle.prism_targets.specs.Code.{row_view}
use Rattle.prism_targets.proofs.served.by_action.Given as goal

abbrev pub invariant-loop-row : goal.invariant-loop-row
invariant-loop-row l = (x : List ℕ) → map (λ r. row_view r.now) (list_under l.all x) ≡ filter (calls l.element x) (map (λ r. row_view r.now) (take l.row-index l.rows))
