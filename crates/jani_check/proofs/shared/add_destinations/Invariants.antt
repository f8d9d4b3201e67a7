use Rattle.std.specs.Prelude.{◌≡◌, ◌++◌, map, drop}
use Rattle.std.specs.List.{filter, flat_map}
use Rattle.jani_tree.specs.Syntax.{destination_of}
use Rattle.jani_check.specs.Scopes.{thing_under}
use Rattle.jani_check.specs.Things.{is_lasting}
use Rattle.jani_check.proofs.shared.add_destinations.Given as goal

abbrev pub invariant-loop-d : goal.invariant-loop-d
invariant-loop-d l =
    map (λ s. s.now) l.list.items
    ++ flat_map (λ k. filter (λ y. is_lasting (thing_under l.global y)) (map (λ w. w.target.name) k.writes)) (map destination_of (drop l.d-index l.destinations))
    ≡ map (λ s. s.now) l.initial.list.items
    ++ flat_map (λ k. filter (λ y. is_lasting (thing_under l.global y)) (map (λ w. w.target.name) k.writes)) (map destination_of l.destinations)
