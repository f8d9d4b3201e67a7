use Rattle.std.specs.Prelude.{◌≡◌, map, drop}
use Rattle.std.specs.List.{flat_map}
use Rattle.prism_check.specs.Typing.{faults_in, soonest_at}
use Rattle.prism_check.specs.Views.{demand_by}
use Rattle.prism_check.proofs.types.judge_demands.Given as goal

abbrev pub invariant-loop-demand : goal.invariant-loop-demand
invariant-loop-demand l =
    soonest_at l.spot.place l.best (flat_map (faults_in l.names l.spot.number) (map demand_by (drop l.demand-index l.demands)))
    ≡ soonest_at l.spot.place l.fn.before (flat_map (faults_in l.names l.spot.number) (map demand_by l.demands))
