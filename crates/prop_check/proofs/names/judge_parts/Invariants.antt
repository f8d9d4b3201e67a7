use Rattle.std.specs.Prelude.{◌≡◌, map, drop}
use Rattle.std.specs.List.{flat_map}
use Rattle.name_rules.specs.Least.{soonest}
use Rattle.prop_trees.specs.PrismFaults.{unknown_in}
use Rattle.prop_check.specs.Views.{part_of}
use Rattle.prop_check.proofs.names.judge_parts.Given as goal

abbrev pub invariant-loop-part : goal.invariant-loop-part
invariant-loop-part l =
    soonest l.best (flat_map (unknown_in l.scope.file) (map part_of (drop l.part-index l.parts)))
    ≡ soonest l.fn.before (flat_map (unknown_in l.scope.file) (map part_of l.parts))
