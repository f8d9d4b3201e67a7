use Rattle.std.specs.Prelude.{◌≡◌, map, drop}
use Rattle.std.specs.List.{list_any}
use Rattle.jani_tree.specs.Syntax.{destination_of, write_of}
use Rattle.jani_check.specs.Assigned.{unlike, value_under}
use Rattle.jani_check.specs.Scopes.{scope_thing}
use Rattle.jani_check.proofs.rewards.some_unlike.Given as goal

abbrev pub invariant-loop-d : goal.invariant-loop-d
invariant-loop-d l =
    list_any (unlike (scope_thing l.scope) (map (λ w. write_of w.now) l.rewards) (value_under l.values)) (map destination_of (drop l.d-index l.destinations))
    ≡ list_any (unlike (scope_thing l.scope) (map (λ w. write_of w.now) l.rewards) (value_under l.values)) (map destination_of l.destinations)
