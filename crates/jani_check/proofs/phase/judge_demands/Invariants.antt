use Rattle.std.specs.Prelude.{◌≡◌, map, drop}
use Rattle.std.specs.List.{flat_map}
use Rattle.name_rules.specs.Least.{soonest}
use Rattle.jani_check.specs.Views.{demand_by}
use Rattle.jani_check.specs.Scopes.{scope_thing}
use Rattle.jani_check.proofs.phase.judge_demands.Given as goal

abbrev pub invariant-loop-demand : goal.invariant-loop-demand
invariant-loop-demand g l =
    soonest l.best (flat_map (g.P.Phase.of_demand (scope_thing l.scope)) (map demand_by (drop l.demand-index l.demands)))
    ≡ soonest l.fn.before (flat_map (g.P.Phase.of_demand (scope_thing l.scope)) (map demand_by l.demands))
