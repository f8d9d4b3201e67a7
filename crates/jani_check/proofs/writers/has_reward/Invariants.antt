use Rattle.std.specs.Prelude.{◌≡◌, map, drop}
use Rattle.std.specs.List.{list_any}
use Rattle.jani_tree.specs.Syntax.{write_of}
use Rattle.jani_check.specs.Scopes.{scope_thing}
use Rattle.jani_check.specs.Things.{is_reward}
use Rattle.jani_check.proofs.writers.has_reward.Given as goal

abbrev pub invariant-loop-w : goal.invariant-loop-w
invariant-loop-w l =
    list_any (λ v. is_reward (scope_thing l.scope v.target.name)) (map write_of (drop l.w-index l.writes))
    ≡ list_any (λ v. is_reward (scope_thing l.scope v.target.name)) (map write_of l.writes)
