use Rattle.std.specs.Prelude.{◌≡◌, ℕ, map, take}
use Rattle.std.specs.List.{filter}
use Rattle.gathering.specs.Lists.{list_for}
use Rattle.edge_tables.specs.Tables.{is_participant}
use Rattle.edge_tables.specs.Code.{split_view}
use Rattle.edge_tables.proofs.participants.splits_by_element.Given as goal

abbrev pub invariant-loop-split : goal.invariant-loop-split
invariant-loop-split l = (k : ℕ) → map (λ s. split_view s.now) (list_for l.all k) ≡ filter (is_participant k) (map split_view (take l.split-index l.splits))
