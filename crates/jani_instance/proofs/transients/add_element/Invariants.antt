use Rattle.std.proofs.Common.{◌≡◌, ◌++◌, List, ℕ, map, drop}
use Rattle.std.specs.List.{flat_map}
use Rattle.gathering.specs.Lists.{list_under}
use Rattle.process_core.specs.Instance.{numbered}
use Rattle.jani_tree.specs.Syntax.{location_of}
use Rattle.jani_instance.specs.Shapes.{giver_at}
use Rattle.jani_instance.specs.Transients.{gift_by}
use Rattle.jani_instance.proofs.transients.add_element.Given as goal

abbrev pub invariant-loop-n : goal.invariant-loop-n
invariant-loop-n l = (x : List ℕ) →
    map giver_at (list_under l.all x) ++ numbered (λ n k. flat_map (gift_by x l.i n) k.values) l.n (map location_of (drop l.n l.locations))
    ≡ map giver_at (list_under l.initial.all x) ++ numbered (λ n k. flat_map (gift_by x l.i n) k.values) 0 (map location_of l.locations)
