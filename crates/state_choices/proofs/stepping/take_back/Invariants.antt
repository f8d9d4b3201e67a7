use Rattle.std.proofs.Common.{◌≡◌, drop, length, map}
use Rattle.state_choices.specs.Apart.{taken_back}
use Rattle.state_choices.specs.Views.{write_of}
use Rattle.state_choices.proofs.stepping.take_back.Given as goal

abbrev pub invariant-loop-w : goal.invariant-loop-w
invariant-loop-w l =
    (length l.values.items ≡ length l.from)
    × (taken_back l.from l.values.items (map write_of (drop l.w-index l.writes)) ≡ taken_back l.from l.initial.values.items (map write_of l.writes))
