use Rattle.std.specs.Prelude.{◌≡◌, ◌++◌, map, drop}
use Rattle.std.specs.List.{flat_map}
use Rattle.prism_tree.specs.Syntax.{branch_of}
use Rattle.prism_check.specs.Demands.{branch_demands}
use Rattle.prism_check.specs.Views.{demand_by}
use Rattle.prism_check.proofs.demands.add_branches.Given as goal

abbrev pub invariant-loop-branch : goal.invariant-loop-branch
invariant-loop-branch l =
    map demand_by l.list.items ++ flat_map (branch_demands l.acts) (map branch_of (drop l.branch-index l.branches))
    ≡ map demand_by l.initial.list.items ++ flat_map (branch_demands l.acts) (map branch_of l.branches)
