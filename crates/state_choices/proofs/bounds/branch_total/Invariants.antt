use Rattle.std.proofs.Common.{◌≡◌, ◌*◌, ◌<◌, ◌^◌, map, drop, length, if◌then◌else◌}
use Rattle.std.specs.List.{sum_by}
use Rattle.op_trees.specs.Tree.{capped}
use Rattle.process_core.specs.Product.{multiplied}
use Rattle.state_choices.specs.Views.{command_of}
use Rattle.state_choices.specs.Counted.{may_hold}
use Rattle.state_choices.proofs.bounds.branch_total.Given as goal

abbrev pub invariant-loop-list : goal.invariant-loop-list
invariant-loop-list l = record {
  so_far : capped (l.count * multiplied (map (λ m. sum_by (λ r. if may_hold (command_of r) then length r.updates else 0) m.now) (drop l.list-index l.list-items)))
      ≡ capped (multiplied (map (λ m. sum_by (λ r. if may_hold (command_of r) then length r.updates else 0) m.now) l.group.lists.items));
  fits : l.count < 2 ^ 64;
}
