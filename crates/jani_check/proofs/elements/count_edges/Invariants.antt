use Rattle.std.specs.Prelude.{◌≡◌, ◌≤◌, ◌+◌, ◌*◌, length, drop}
use Rattle.std.specs.List.{sum_by}
use Rattle.jani_tree.specs.Syntax.{file_of}
use Rattle.jani_check.specs.Faults.{element_edges}
use Rattle.jani_check.proofs.elements.count_edges.Given as goal

abbrev pub invariant-loop-e : goal.invariant-loop-e
invariant-loop-e l =
    (l.sum + sum_by (λ e. length (element_edges (file_of l.file) e.name)) (drop l.e-index l.e-items) ≡ sum_by (λ e. length (element_edges (file_of l.file) e.name)) l.e-items)
    × (l.sum ≤ l.e-index * 18446744073709551616)
