use Rattle.std.specs.Prelude.{◌≡◌, ℕ, List, map, take}
use Rattle.std.specs.List.{filter}
use Rattle.op_trees.specs.Names.{is_called}
use Rattle.gathering.specs.Lists.{list_under}
use Rattle.jani_loops.specs.Looped.{lent_edge}
use Rattle.jani_loops.proofs.edges.edges_by_location.Given as goal

abbrev pub invariant-loop-e : goal.invariant-loop-e
invariant-loop-e l = (x : List ℕ) → map lent_edge (list_under l.all x) ≡ filter (λ e. is_called x e.location) (map lent_edge (take l.e-index l.edges))
