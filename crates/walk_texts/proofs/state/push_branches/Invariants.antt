use Rattle.std.proofs.Common.{◌≡◌, ◌++◌, map, take}
use Rattle.std.specs.List.{flat_map}
use Rattle.process_core.specs.Seen.{seen_branch}
use Rattle.walk_texts.specs.Lines.{branch_line}
use Rattle.walk_texts.proofs.state.push_branches.Given as goal

abbrev pub invariant-loop-branch : goal.invariant-loop-branch
invariant-loop-branch l = l.out.items ≡ l.fn.out.items ++ flat_map branch_line (map seen_branch (take l.branch-index l.branches))
