use Rattle.std.proofs.Common.{◌≡◌, drop, length, map}
use Rattle.process_core.specs.Choices.{written}
use Rattle.state_choices.specs.Apart.{columns_apart}
use Rattle.state_choices.specs.Views.{write_of}
use Rattle.state_choices.proofs.stepping.put.Given as goal

abbrev pub invariant-loop-w : goal.invariant-loop-w
invariant-loop-w l =
    (length l.values.items ≡ length l.to) × (l.left ≡ columns_apart l.values.items l.to)
    × (written l.values.items (map write_of (drop l.w-index l.writes)) ≡ written l.initial.values.items (map write_of l.writes))
