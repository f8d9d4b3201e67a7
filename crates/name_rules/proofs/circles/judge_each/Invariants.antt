use Rattle.std.specs.Prelude.{◌≡◌, map, drop}
use Rattle.std.specs.List.{flat_map}
use Rattle.name_rules.specs.Least.{soonest}
use Rattle.name_rules.specs.Circles.{circular}
use Rattle.name_rules.specs.Circles.{declared_by}
use Rattle.name_rules.proofs.circles.judge_each.Given as goal

abbrev pub invariant-loop-i : goal.invariant-loop-i
invariant-loop-i l =
    soonest l.best (flat_map (circular (map declared_by l.all)) (drop l.i (map declared_by l.all)))
    ≡ soonest l.fn.before (flat_map (circular (map declared_by l.all)) (map declared_by l.all))
