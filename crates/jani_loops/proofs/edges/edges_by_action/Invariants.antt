use Rattle.std.specs.Prelude.{◌≡◌, ℕ, List, map, take}
use Rattle.std.specs.List.{filter}
use Rattle.gathering.specs.Lists.{list_under}
use Rattle.jani_tree.specs.Syntax.{edge_of}
use Rattle.jani_meaning.specs.Loops.{has_name}
use Rattle.jani_loops.specs.Looped.{lent_edge}
use Rattle.jani_loops.proofs.edges.edges_by_action.Given as goal

abbrev pub invariant-loop-e : goal.invariant-loop-e
invariant-loop-e l = (x : List ℕ) → map lent_edge (list_under l.all x) ≡ filter (λ e. has_name x e.action) (map edge_of (take l.e-index l.edges))
