use Rattle.std.specs.Prelude.{map}
use Rattle.std.specs.List.{flat_map}
use Rattle.std.proofs.Common.{refl}
use Rattle.prism_tree.specs.Syntax.{branch_of}
use Rattle.gathering.proofs.Loops.{flat_left, none_left}
use Rattle.prism_check.specs.Demands.{branch_demands}
use Rattle.prism_check.specs.Views.{demand_by}
use Rattle.prism_check.proofs.demands.add_branches.Goals as goal

pub loop-branch-preserved : goal.loop-branch-preserved
loop-branch-preserved c =
    flat_left (branch_demands c.args.acts) branch_of _ (map demand_by c.loop-branch.list.items) (map demand_by c.add_branch.new.list.items) c.args.branches.now
    c.loop-branch.branch-index c.branch-item.result c.loop-branch-test.true c.branch-item.is c.loop-branch.invariant c.in_ok-add_branch.ensures

pub returns : goal.returns
returns c = none_left (λ xs. flat_map (branch_demands c.args.acts) (map branch_of xs)) _ (map demand_by c.loop-branch.list.items) c.args.branches.now c.loop-branch.branch-index refl c.loop-branch-test.false c.loop-branch.invariant
