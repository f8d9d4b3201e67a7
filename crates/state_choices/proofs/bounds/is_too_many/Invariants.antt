use Rattle.std.proofs.Common.{◌≡◌, take}
use Rattle.std.specs.List.{sum_by}
use Rattle.op_trees.specs.Tree.{capped}
use Rattle.state_choices.specs.Views.{group_of}
use Rattle.state_choices.specs.Counted.{choice_count, branch_total}
use Rattle.state_choices.proofs.bounds.is_too_many.Given as goal

abbrev pub invariant-loop-group : goal.invariant-loop-group
invariant-loop-group l = record {
  choices : l.choices ≡ capped (sum_by (λ g. choice_count (group_of g)) (take l.group-index l.groups));
  branches : l.branches ≡ capped (sum_by (λ g. branch_total (group_of g)) (take l.group-index l.groups));
}
