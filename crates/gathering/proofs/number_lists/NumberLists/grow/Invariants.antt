use Rattle.std.proofs.Common.{◌≡◌, ℕ, ◌+◌, ◌-◌, length}
use Rattle.gathering.specs.Lists.{list_for}
use Rattle.gathering.proofs.number_lists.NumberLists.grow.Given as goal

abbrev pub invariant-grow : goal.invariant-grow
invariant-grow g l = (k : ℕ) → list_for l.self k ≡ list_for l.initial.self k

abbrev pub decreases-grow : goal.decreases-grow
decreases-grow g l = (l.number + 1) - length l.self.lists.items
