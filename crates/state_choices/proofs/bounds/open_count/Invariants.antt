use Rattle.std.proofs.Common.{◌≡◌, take}
use Rattle.std.specs.List.{count_by}
use Rattle.op_trees.specs.Tree.{capped}
use Rattle.state_choices.specs.Views.{command_of}
use Rattle.state_choices.specs.Counted.{may_hold}
use Rattle.state_choices.proofs.bounds.open_count.Given as goal

abbrev pub invariant-loop-r : goal.invariant-loop-r
invariant-loop-r l = l.count ≡ capped (count_by (λ r. may_hold (command_of r)) (take l.r-index l.list))
