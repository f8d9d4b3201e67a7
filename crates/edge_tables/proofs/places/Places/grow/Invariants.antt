use Rattle.std.proofs.Common.{◌≡◌, ℕ, ◌+◌, ◌-◌, List, length}
use Rattle.edge_tables.specs.Places.{own_in}
use Rattle.edge_tables.proofs.places.Places.grow.Given as goal

abbrev pub invariant-grow : goal.invariant-grow
invariant-grow l = record {
  own : (k : ℕ) (x : List ℕ) → own_in l.self k x ≡ own_in l.initial.self k x;
  global : l.self.global ≡ l.initial.self.global;
}

abbrev pub decreases-grow : goal.decreases-grow
decreases-grow l = (l.element + 1) - length l.self.own.items
