use Rattle.std.proofs.Common.{◌≡◌, ℕ, List, ◌+◌, ◌-◌, ◌<◌, ◌≤◌, length, take}
use Rattle.bridge_io.specs.Outside.{IsOn}
use Rattle.bridge_io.specs.Feeding.{IsFed}
use Rattle.bridge_io.specs.Place.{IsEnd}
use Rattle.bridge_io.proofs.transfer.read_into.Given as goal

abbrev pub invariant-fill : goal.invariant-fill
invariant-fill g l = record {
  within : l.count ≤ l.limit + 1;
  fed : g.F.Feeder.fed l.feeder ≡ l.count;
  read : (bytes : List ℕ) × (length bytes ≡ l.count) × IsFed (g.H.Shelf.left l.initial.shelf) (g.H.Shelf.left l.shelf) l.name (g.F.Feeder.stands l.initial.feeder) (g.F.Feeder.stands l.feeder) bytes
      × IsEnd l.end.line l.end.column (take l.limit bytes);
  held : 0 < l.count → IsOn (g.H.Shelf.left l.shelf) l.name;
  count : g.H.Shelf.faults l.initial.shelf ≤ g.H.Shelf.faults l.shelf;
  steady : (other : List ℕ) → g.H.Shelf.steady l.initial.shelf other → g.H.Shelf.steady l.shelf other;
}

abbrev pub decreases-fill : goal.decreases-fill
decreases-fill g l = l.limit + 1 - l.count
