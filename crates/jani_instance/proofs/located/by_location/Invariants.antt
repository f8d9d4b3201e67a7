use Rattle.std.proofs.Common.{◌≡◌, ℕ, map, take}
use Rattle.std.specs.List.{filter}
use Rattle.gathering.specs.Lists.{list_for}
use Rattle.jani_tree.specs.Syntax.{edge_of}
use Rattle.jani_instance.specs.Actions.{lent_edge, starts_at}
use Rattle.jani_instance.proofs.located.by_location.Given as goal

abbrev pub invariant-loop-edge : goal.invariant-loop-edge
invariant-loop-edge l = (n : ℕ) → map lent_edge (list_for l.all n) ≡ filter (starts_at l.site n) (map edge_of (take l.edge-index l.these))
