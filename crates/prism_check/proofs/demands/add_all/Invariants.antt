use Rattle.std.specs.Prelude.{◌≡◌, ◌++◌, map, drop}
use Rattle.std.specs.List.{flat_map}
use Rattle.prism_check.specs.Views.{demand_by}
use Rattle.prism_check.proofs.demands.add_all.Given as goal

abbrev pub invariant-loop-part : goal.invariant-loop-part
invariant-loop-part g l =
    map demand_by l.list.items ++ flat_map g.T.Demanding.demands (drop l.part-index l.parts)
    ≡ map demand_by l.initial.list.items ++ flat_map g.T.Demanding.demands l.parts
