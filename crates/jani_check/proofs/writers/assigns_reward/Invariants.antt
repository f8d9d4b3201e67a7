use Rattle.std.specs.Prelude.{◌≡◌, map, drop}
use Rattle.std.specs.List.{flat_map, list_any}
use Rattle.jani_tree.specs.Syntax.{destination_of}
use Rattle.jani_check.specs.Scopes.{scope_thing}
use Rattle.jani_check.specs.Things.{is_reward}
use Rattle.jani_check.proofs.writers.assigns_reward.Given as goal

abbrev pub invariant-loop-d : goal.invariant-loop-d
invariant-loop-d l =
    list_any (λ v. is_reward (scope_thing l.scope v.target.name)) (flat_map (λ k. k.writes) (map destination_of (drop l.d-index l.destinations)))
    ≡ list_any (λ v. is_reward (scope_thing l.scope v.target.name)) (flat_map (λ k. k.writes) (map destination_of l.destinations))
