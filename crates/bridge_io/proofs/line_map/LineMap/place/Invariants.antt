use Rattle.std.proofs.Common.{◌≤◌, ◌+◌, take}
use Rattle.std.specs.List.{flat_map}
use Rattle.bridge_io.specs.LineMap.{ends_marked}
use Rattle.bridge_io.proofs.Marks.{IsAlong}
use Rattle.bridge_io.proofs.line_map.LineMap.place.Given as goal

abbrev pub invariant-loop-mark : goal.invariant-loop-mark
invariant-loop-mark l = record {
  along : IsAlong l.at l.line l.since (flat_map ends_marked (take l.mark-index l.mark-items));
  within : l.at ≤ l.offset;
  few : l.line ≤ 1 + l.at;
  near : l.since ≤ l.at;
}
