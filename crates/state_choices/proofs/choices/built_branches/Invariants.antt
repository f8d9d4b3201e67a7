use Rattle.std.proofs.Common.{◌≡◌, map, take}
use Rattle.process_core.specs.Seen.{seen_branch}
use Rattle.state_choices.specs.Open.{open_branch}
use Rattle.state_choices.specs.Views.{sum_of}
use Rattle.state_choices.proofs.choices.built_branches.Given as goal

abbrev pub invariant-loop-branch : goal.invariant-loop-branch
invariant-loop-branch l = map seen_branch l.all ≡ map (open_branch l.s.values (map sum_of l.rewards)) (take l.branch-index l.branches)
