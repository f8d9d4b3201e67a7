use Rattle.std.specs.Prelude.{◌≡◌, map, drop, None}
use Rattle.std.specs.List.{flat_map}
use Rattle.name_rules.specs.Least.{soonest}
use Rattle.prop_trees.specs.PrismFaults.{part_faults}
use Rattle.prop_check.specs.Views.{part_of}
use Rattle.prop_check.proofs.types.judge_types.Given as goal

abbrev pub invariant-loop-part : goal.invariant-loop-part
invariant-loop-part l =
    soonest l.best (flat_map (part_faults l.scope.file) (map part_of (drop l.part-index l.parts)))
    ≡ soonest None (flat_map (part_faults l.scope.file) (map part_of l.parts))
