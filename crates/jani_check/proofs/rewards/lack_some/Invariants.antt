use Rattle.std.specs.Prelude.{◌≡◌, map, drop}
use Rattle.std.specs.List.{list_any}
use Rattle.jani_tree.specs.Syntax.{write_of}
use Rattle.jani_check.specs.Assigned.{value_under}
use Rattle.jani_check.specs.ProfileFaults.{lacks, rewards_by}
use Rattle.jani_check.specs.Scopes.{scope_thing}
use Rattle.jani_check.proofs.rewards.lack_some.Given as goal

abbrev pub invariant-loop-w : goal.invariant-loop-w
invariant-loop-w l =
    list_any (lacks (value_under l.values)) (rewards_by (scope_thing l.scope) (map write_of (drop l.w-index l.writes)))
    ≡ list_any (lacks (value_under l.values)) (rewards_by (scope_thing l.scope) (map write_of l.writes))
