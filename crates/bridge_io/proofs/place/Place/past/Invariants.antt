use Rattle.std.proofs.Common.{ℕ, List, ◌++◌, ◌+◌, ◌≤◌, take}
use Rattle.bridge_io.specs.Place.{IsEnd}
use Rattle.bridge_io.proofs.place.Place.past.Given as goal

abbrev pub invariant-loop-byte : goal.invariant-loop-byte
invariant-loop-byte l = record {
  end : (bytes : List ℕ) → IsEnd l.fn.self.line l.fn.self.column bytes → IsEnd l.place.line l.place.column (bytes ++ take l.byte-index l.piece);
  small : l.place.line ≤ l.fn.self.line + l.byte-index;
  narrow : l.place.column ≤ l.fn.self.column + l.byte-index;
}
