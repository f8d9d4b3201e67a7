use Rattle.std.proofs.Common.{◌≡◌, ◌++◌, map, drop}
use Rattle.state_choices.specs.Views.{seen_of}
use Rattle.instance_start.specs.Kinds.{constants_named}
use Rattle.instance_start.proofs.faults.add_constants.Given as goal

abbrev pub invariant-loop-i : goal.invariant-loop-i
invariant-loop-i l =
    l.faults ++ constants_named (map (λ c. c.name.now) (drop l.i l.constants)) (map seen_of (drop l.i l.values))
    ≡ l.initial.faults ++ constants_named (map (λ c. c.name.now) l.constants) (map seen_of l.values)
