use Rattle.std.specs.Prelude.{◌≡◌, ℕ, List, ◌++◌, map, drop}
use Rattle.std.specs.List.{flat_map}
use Rattle.jani_tree.specs.Syntax.{edge_of}
use Rattle.jani_check.specs.NameLists.{names_under}
use Rattle.jani_check.specs.Scopes.{thing_under}
use Rattle.jani_check.specs.Things.{is_lasting}
use Rattle.jani_check.specs.TypeFaults.{edge_shared}
use Rattle.jani_check.proofs.shared.shared_names.Given as goal

abbrev pub invariant-loop-e : goal.invariant-loop-e
invariant-loop-e l = (x : List ℕ) →
    names_under l.lists x ++ flat_map (λ e. edge_shared (λ y. is_lasting (thing_under l.global y)) e x) (map edge_of (drop l.e-index l.e-items))
    ≡ flat_map (λ e. edge_shared (λ y. is_lasting (thing_under l.global y)) e x) (map edge_of l.e-items)
