use Rattle.std.proofs.Common.{◌≡◌, ◌++◌, map, drop}
use Rattle.std.specs.List.{zip, flat_map}
use Rattle.prism_tree.specs.Syntax as prism
use Rattle.jani_tree.specs.Syntax as jani
use Rattle.jani_translation.specs.Automata.{reward_of}
use Rattle.jani_edges.specs.Code.{names_in, wanted_by}
use Rattle.jani_edges.proofs.rewards.add_rewards.Given as goal

abbrev pub invariant-loop-i : goal.invariant-loop-i
invariant-loop-i l =
    map jani.write_of l.all
    ++ flat_map (λ p. reward_of (names_in l.names) (wanted_by l.wanted) p.0 p.1) (zip (map prism.rewards_of (drop l.i l.rewards)) (drop l.i l.names.rewards.now))
    ≡ map jani.write_of l.initial.all
    ++ flat_map (λ p. reward_of (names_in l.names) (wanted_by l.wanted) p.0 p.1) (zip (map prism.rewards_of l.rewards) l.names.rewards.now)
