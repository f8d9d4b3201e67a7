use Rattle.std.specs.Prelude.{◌≡◌, ℕ, List, ◌++◌, map, drop}
use Rattle.jani_check.specs.NameLists.{names_under, under_one}
use Rattle.jani_check.proofs.shared.add_under.Given as goal

abbrev pub invariant-loop-name : goal.invariant-loop-name
invariant-loop-name l = (x : List ℕ) →
    names_under l.lists x ++ under_one l.key (map (λ s. s.now) (drop l.name-index l.names)) x ≡ names_under l.initial.lists x ++ under_one l.key (map (λ s. s.now) l.names) x
