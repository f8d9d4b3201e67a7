use Rattle.std.specs.Prelude.{◌≡◌, ◌++◌, map, drop}
use Rattle.jani_tree.specs.Syntax.{write_of}
use Rattle.jani_check.specs.Demands.{assigned}
use Rattle.jani_check.specs.Views.{demand_by}
use Rattle.jani_check.proofs.demands.add_assigned.Given as goal

abbrev pub invariant-loop-write : goal.invariant-loop-write
invariant-loop-write l =
    map demand_by l.list.items ++ map assigned (map write_of (drop l.write-index l.writes))
    ≡ map demand_by l.initial.list.items ++ map assigned (map write_of l.writes)
