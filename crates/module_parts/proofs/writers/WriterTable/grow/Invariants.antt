use Rattle.std.proofs.Common.{◌≡◌, ℕ, ◌+◌, ◌-◌, length}
use Rattle.module_parts.specs.Writers.{writers_at}
use Rattle.module_parts.proofs.writers.WriterTable.grow.Given as goal

abbrev pub invariant-grow : goal.invariant-grow
invariant-grow l = (i : ℕ) → writers_at l.self i ≡ writers_at l.initial.self i

abbrev pub decreases-grow : goal.decreases-grow
decreases-grow l = (l.number + 1) - length l.self.writers.items
