use Rattle.std.specs.Prelude.{◌≡◌, ℕ, map, take}
use Rattle.std.specs.List.{filter}
use Rattle.gathering.specs.Lists.{list_for}
use Rattle.edge_tables.specs.Tables.{is_participant}
use Rattle.prism_targets.specs.Code.{row_view}
use Rattle.prism_targets.proofs.participants.rows_by_element.Given as goal

abbrev pub invariant-loop-row : goal.invariant-loop-row
invariant-loop-row l = (k : ℕ) → map (λ r. row_view r.now) (list_for l.all k) ≡ filter (λ r. is_participant k r.split) (map row_view (take l.row-index l.rows))
