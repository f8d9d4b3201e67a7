use Rattle.std.proofs.Common.{◌≡◌, ◌++◌, take}
use Rattle.bridge_io.specs.LineMap.{line_ends, map_ends, map_fed, map_refused}
use Rattle.bridge_io.proofs.line_map.LineMap.mark_all.Given as goal

abbrev pub invariant-loop-byte : goal.invariant-loop-byte
invariant-loop-byte l = record {
  ends : map_ends l.self ≡ map_ends l.fn.self ++ line_ends (take l.byte-index l.piece);
  fed : map_fed l.self ≡ map_fed l.fn.self;
  refused : map_refused l.self ≡ map_refused l.fn.self;
}
