use Rattle.std.proofs.Common.{◌≡◌, take, length, if◌then◌else◌}
use Rattle.std.specs.List.{sum_by}
use Rattle.op_trees.specs.Tree.{capped}
use Rattle.state_choices.specs.Views.{command_of}
use Rattle.state_choices.specs.Counted.{may_hold}
use Rattle.state_choices.proofs.bounds.update_count.Given as goal

abbrev pub invariant-loop-r : goal.invariant-loop-r
invariant-loop-r l = l.count ≡ capped (sum_by (λ r. if may_hold (command_of r) then length r.updates else 0) (take l.r-index l.list))
