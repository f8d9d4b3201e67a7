use Rattle.std.specs.Prelude.{◌≡◌, ◌++◌, map, drop}
use Rattle.std.specs.List.{flat_map}
use Rattle.prism_check.specs.Levels.{names_read}
use Rattle.prism_check.specs.Views.{demand_by}
use Rattle.prism_check.proofs.lost_names.names_read.Given as goal

abbrev pub invariant-loop-demand : goal.invariant-loop-demand
invariant-loop-demand l =
    map (λ s. s.now) l.list.items ++ flat_map names_read (map demand_by (drop l.demand-index l.demands)) ≡ flat_map names_read (map demand_by l.demands)
