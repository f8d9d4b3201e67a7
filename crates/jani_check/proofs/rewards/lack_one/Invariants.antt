use Rattle.std.specs.Prelude.{◌≡◌, map, drop}
use Rattle.std.specs.List.{list_any}
use Rattle.jani_tree.specs.Syntax.{write_of}
use Rattle.jani_check.specs.Assigned.{value_under}
use Rattle.jani_check.specs.ProfileFaults.{lacks}
use Rattle.jani_check.proofs.rewards.lack_one.Given as goal

abbrev pub invariant-loop-w : goal.invariant-loop-w
invariant-loop-w l =
    list_any (lacks (value_under l.values)) (map (λ w. write_of w.now) (drop l.w-index l.rewards))
    ≡ list_any (lacks (value_under l.values)) (map (λ w. write_of w.now) l.rewards)
