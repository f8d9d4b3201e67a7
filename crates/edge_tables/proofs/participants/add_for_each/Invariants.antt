use Rattle.std.specs.Prelude.{◌≡◌, ◌++◌, ℕ, map, take}
use Rattle.process_core.specs.Instance.{only_if}
use Rattle.gathering.specs.Lists.{list_for}
use Rattle.edge_tables.specs.Tables.{takes_part}
use Rattle.edge_tables.proofs.participants.add_for_each.Given as goal

abbrev pub invariant-loop-element : goal.invariant-loop-element
invariant-loop-element g l = (k : ℕ) → map (λ r. r.now) (list_for l.all k) ≡ map (λ r. r.now) (list_for l.initial.all k) ++ only_if (takes_part k (take l.element l.parts)) l.known
