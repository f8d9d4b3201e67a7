use Rattle.std.specs.Prelude.{◌≡◌, ℕ, List, ◌||◌, map, drop}
use Rattle.std.specs.List.{list_any}
use Rattle.jani_tree.specs.Syntax.{edge_of}
use Rattle.jani_check.specs.Rewarding.{edge_rewards, rewarded_in}
use Rattle.jani_check.specs.Scopes.{scope_thing}
use Rattle.jani_check.proofs.writers.Rewarding.of_edges.Given as goal

abbrev pub invariant-loop-e : goal.invariant-loop-e
invariant-loop-e l = (x : List ℕ) →
    (rewarded_in l.rewarding x || list_any (edge_rewards (scope_thing l.scope) x) (map edge_of (drop l.e-index l.edges)))
    ≡ list_any (edge_rewards (scope_thing l.scope) x) (map edge_of l.edges)
