use Rattle.std.proofs.Common.{◌≡◌, ◌≤◌, ℕ, List, map, drop, length}
use Rattle.jani_edges.specs.Code.{new_in, found}
use Rattle.jani_edges.proofs.new_names.NewNameMap.of.Given as goal

abbrev pub invariant-loop-left : goal.invariant-loop-left
invariant-loop-left l = record {
  olds : l.left ≤ length l.olds;
  news : l.left ≤ length l.news;
  same : (x : List ℕ) → new_in l.all x ≡ found (map (λ y. y.now) (drop l.left l.olds)) (drop l.left l.news) x;
}

abbrev pub decreases-loop-left : goal.decreases-loop-left
decreases-loop-left l = l.left
