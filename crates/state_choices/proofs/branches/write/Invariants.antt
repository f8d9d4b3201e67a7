use Rattle.std.proofs.Common.{◌≡◌, map, drop}
use Rattle.process_core.specs.Choices.{written}
use Rattle.state_choices.specs.Views.{write_of}
use Rattle.state_choices.proofs.branches.write.Given as goal

abbrev pub invariant-loop-w : goal.invariant-loop-w
invariant-loop-w l = written l.values.items (map write_of (drop l.w-index l.writes)) ≡ written l.initial.values.items (map write_of l.writes)
