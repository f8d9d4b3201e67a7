use Rattle.std.specs.Prelude.{◌≡◌, map, drop}
use Rattle.std.specs.List.{list_any}
use Rattle.prism_check.specs.Levels.{lost_in, writes_such}
use Rattle.prism_check.specs.Views.{demand_by}
use Rattle.prism_check.proofs.lost_names.some_write_lost.Given as goal

abbrev pub invariant-loop-demand : goal.invariant-loop-demand
invariant-loop-demand l =
    list_any (writes_such (lost_in l.reading)) (map demand_by (drop l.demand-index l.demands))
    ≡ list_any (writes_such (lost_in l.reading)) (map demand_by l.demands)
