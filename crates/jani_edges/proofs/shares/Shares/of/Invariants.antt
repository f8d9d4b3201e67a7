use Rattle.std.proofs.Common.{◌≡◌, ◌++◌, ℕ, List, map, drop}
use Rattle.std.specs.List.{zip, flat_map}
use Rattle.prism_tree.specs.Syntax.{rewards_of}
use Rattle.name_table.specs.Asks.{NewNames}
use Rattle.jani_translation.specs.Automata.{for_action, reward_of}
use Rattle.jani_edges.specs.Code.{shared_writes}
use Rattle.jani_edges.proofs.shares.Shares.of.Given as goal

abbrev pub invariant-loop-i : goal.invariant-loop-i
invariant-loop-i l = (n : NewNames) (x : List ℕ) →
    shared_writes n l.all x ++ flat_map (λ p. reward_of n (for_action x) p.0 p.1) (zip (map rewards_of (drop l.i l.rewards)) (drop l.i l.entries))
    ≡ flat_map (λ p. reward_of n (for_action x) p.0 p.1) (zip (map rewards_of l.rewards) l.entries)
