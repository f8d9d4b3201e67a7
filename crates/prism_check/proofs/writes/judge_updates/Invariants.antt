use Rattle.std.specs.Prelude.{◌≡◌, map, drop}
use Rattle.std.specs.List.{flat_map}
use Rattle.prism_tree.specs.Syntax.{branch_of}
use Rattle.prism_check.specs.Typing.{read_in, repeated_in, soonest_at}
use Rattle.prism_check.proofs.writes.judge_updates.Given as goal

abbrev pub invariant-loop-branch : goal.invariant-loop-branch
invariant-loop-branch l =
    soonest_at l.place l.best (flat_map (repeated_in (read_in l.names)) (map branch_of (drop l.branch-index l.branches)))
    ≡ soonest_at l.place l.fn.before (flat_map (repeated_in (read_in l.names)) (map branch_of l.branches))
