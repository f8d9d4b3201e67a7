use Rattle.std.proofs.Common.{◌≡◌, ◌++◌, map, take, pos}
use Rattle.row_check.proofs.counting.push_bytes.Given as goal

abbrev pub invariant-loop-byte : goal.invariant-loop-byte
invariant-loop-byte l = l.key.items ≡ l.initial.key.items ++ map (λ b. pos b) (take l.byte-index l.bytes)
