use Rattle.std.proofs.Common.{◌≡◌, map, take}
use Rattle.process_core.specs.Seen.{seen_branch}
use Rattle.row_check.specs.Walked.{bare_branch}
use Rattle.row_check.proofs.rows.bare_branches.Given as goal

abbrev pub invariant-loop-branch : goal.invariant-loop-branch
invariant-loop-branch l = map seen_branch l.all ≡ map (bare_branch l.state.values) (take l.branch-index l.branches)
