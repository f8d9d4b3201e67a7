use Rattle.std.specs.Prelude.{◌≡◌, drop, map}
use Rattle.std.specs.List.{flat_map}
use Rattle.name_rules.specs.Least.{soonest}
use Rattle.name_rules.proofs.rule.judge_each.Given as goal

abbrev pub invariant-loop-item : goal.invariant-loop-item
invariant-loop-item g l =
    soonest l.best (flat_map (g.R.Rule.faults l.rule) (map g.R.Rule.view (drop l.item-index l.items)))
    ≡ soonest l.fn.before (flat_map (g.R.Rule.faults l.rule) (map g.R.Rule.view l.items))
