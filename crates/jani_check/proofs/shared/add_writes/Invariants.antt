use Rattle.std.specs.Prelude.{◌≡◌, ◌++◌, map, drop}
use Rattle.std.specs.List.{filter}
use Rattle.jani_tree.specs.Syntax.{write_of}
use Rattle.jani_check.specs.Scopes.{thing_under}
use Rattle.jani_check.specs.Things.{is_lasting}
use Rattle.jani_check.proofs.shared.add_writes.Given as goal

abbrev pub invariant-loop-w : goal.invariant-loop-w
invariant-loop-w l =
    map (λ s. s.now) l.list.items ++ filter (λ y. is_lasting (thing_under l.global y)) (map (λ w. w.target.name) (map write_of (drop l.w-index l.writes)))
    ≡ map (λ s. s.now) l.initial.list.items ++ filter (λ y. is_lasting (thing_under l.global y)) (map (λ w. w.target.name) (map write_of l.writes))
