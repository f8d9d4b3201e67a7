use Rattle.std.proofs.Common.{◌≡◌, ◌++◌, List, ℕ, map, take}
use Rattle.std.specs.List.{flat_map}
use Rattle.gathering.specs.Lists.{list_under}
use Rattle.jani_tree.specs.Syntax.{write_of}
use Rattle.jani_instance.specs.Shapes.{giver_at}
use Rattle.jani_instance.specs.Transients.{gift_by}
use Rattle.jani_instance.proofs.transients.add_location.Given as goal

abbrev pub invariant-loop-value : goal.invariant-loop-value
invariant-loop-value l = (x : List ℕ) →
    map giver_at (list_under l.all x) ≡ map giver_at (list_under l.initial.all x) ++ flat_map (gift_by x l.i l.n) (map write_of (take l.value-index l.values))
