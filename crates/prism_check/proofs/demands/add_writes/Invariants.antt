use Rattle.std.specs.Prelude.{◌≡◌, ◌++◌, map, drop}
use Rattle.prism_tree.specs.Syntax.{write_of}
use Rattle.prism_check.specs.Demands.{written}
use Rattle.prism_check.specs.Views.{demand_by}
use Rattle.prism_check.proofs.demands.add_writes.Given as goal

abbrev pub invariant-loop-write : goal.invariant-loop-write
invariant-loop-write l =
    map demand_by l.list.items ++ map (written l.acts) (map write_of (drop l.write-index l.writes))
    ≡ map demand_by l.initial.list.items ++ map (written l.acts) (map write_of l.writes)
