use Rattle.std.proofs.Common.{◌≡◌, ◌++◌, map, take}
use Rattle.prism_targets.specs.Made.{made_by}
use Rattle.edge_tables.specs.Code.{split_view}
use Rattle.prism_targets.specs.Code.{target_view}
use Rattle.prism_targets.proofs.targets.add_made.Given as goal

abbrev pub invariant-loop-edge : goal.invariant-loop-edge
invariant-loop-edge l = map target_view l.all.items ≡ map target_view l.initial.all.items ++ map (made_by (split_view l.split)) (take l.edge-index l.split.makers.now)
