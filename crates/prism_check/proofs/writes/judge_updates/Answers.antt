use Rattle.prism_tree.specs.Syntax.{branch_of}
use Rattle.prism_check.specs.Typing.{read_in, repeated_in}
use Rattle.prism_check.proofs.TypesPlaced.{at_next}
use Rattle.prism_check.proofs.writes.judge_updates.Goals as goal

pub loop-branch-preserved : goal.loop-branch-preserved
loop-branch-preserved c =
    at_next c.args.place branch_of (repeated_in (read_in c.args.names.now)) c.args.branches.now c.loop-branch.branch-index _ c.loop-branch.best _ _
    c.loop-branch-test.true c.branch-item.is c.in_ok-best.ensures c.loop-branch.invariant
