use Rattle.std.specs.Prelude.{◌≡◌, ◌++◌, map, take}
use Rattle.gathering.specs.Lists.{list_under}
use Rattle.jani_tree.specs.Syntax.{edge_of, location_of}
use Rattle.jani_loops.specs.Looped.{lent_edge, loop_with}
use Rattle.jani_loops.proofs.loops.add_loops_with.Given as goal

abbrev pub invariant-loop-l : goal.invariant-loop-l
invariant-loop-l s =
    map edge_of s.all ≡ map edge_of s.initial.all ++ map (λ l. loop_with s.action l.name (map lent_edge (list_under s.edges l.name.name))) (map location_of (take s.l-index s.locations))
