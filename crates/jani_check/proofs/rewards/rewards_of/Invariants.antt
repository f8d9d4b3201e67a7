use Rattle.std.specs.Prelude.{map, drop}
use Rattle.jani_tree.specs.Syntax.{write_of}
use Rattle.jani_check.specs.Assigned.{value_under}
use Rattle.jani_check.specs.Scopes.{scope_thing}
use Rattle.jani_check.proofs.KeptRewards.{Kept}
use Rattle.jani_check.proofs.rewards.rewards_of.Given as goal

abbrev pub invariant-loop-w : goal.invariant-loop-w
invariant-loop-w l =
    Kept (scope_thing l.scope) (map write_of l.writes) (map write_of (drop l.w-index l.writes)) (map (λ w. write_of w.now) l.rewards.items) (value_under l.seen)
