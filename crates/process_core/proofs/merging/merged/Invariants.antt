use Rattle.std.proofs.Common.{map, take}
use Rattle.process_core.specs.Seen.{seen_branch}
use Rattle.process_core.specs.Merging.{IsIndex, IsSummed, keys_of}
use Rattle.process_core.proofs.merging.merged.Given as goal

abbrev pub invariant-loop-branch : goal.invariant-loop-branch
invariant-loop-branch l = record {
  summed : IsSummed (map seen_branch (take l.branch-index l.branch-items)) (map seen_branch l.sums.items);
  index : IsIndex l.places (keys_of (map seen_branch l.sums.items));
}
