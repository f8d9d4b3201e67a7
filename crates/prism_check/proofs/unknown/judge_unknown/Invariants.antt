use Rattle.std.specs.Prelude.{◌≡◌, map, drop}
use Rattle.std.specs.List.{flat_map}
use Rattle.name_rules.specs.Least.{soonest}
use Rattle.prism_check.specs.NameFaults.{unknown_by}
use Rattle.name_rules.specs.Names.{has_name}
use Rattle.prism_check.specs.Views.{demand_by}
use Rattle.prism_check.proofs.unknown.judge_unknown.Given as goal

abbrev pub invariant-loop-demand : goal.invariant-loop-demand
invariant-loop-demand l =
    soonest l.best (flat_map (unknown_by (has_name l.known)) (map demand_by (drop l.demand-index l.demands)))
    ≡ soonest l.fn.before (flat_map (unknown_by (has_name l.known)) (map demand_by l.demands))
