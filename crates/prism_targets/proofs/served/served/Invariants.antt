use Rattle.std.proofs.Common.{◌≡◌, map, take}
use Rattle.std.specs.List.{flat_map}
use Rattle.jani_tree.specs.Syntax.{Edge}
use Rattle.edge_tables.specs.Tables.{numbers_served}
use Rattle.prism_targets.specs.Code.{row_view}
use Rattle.prism_targets.proofs.served.served.Given as goal

abbrev pub invariant-loop-row : goal.invariant-loop-row
invariant-loop-row l = (e : Edge) →
    l.all.items ≡ flat_map (numbers_served l.element (record { edge = e; rewarding = l.rewarding; rank = l.rank })) (map (λ r. row_view r.now) (take l.row-index l.rows))
