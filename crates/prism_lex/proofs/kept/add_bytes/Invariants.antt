use Rattle.std.proofs.Common.{◌≡◌, ◌++◌, take}
use Rattle.prism_lex.proofs.kept.add_bytes.Given as goal

abbrev pub invariant-loop-byte : goal.invariant-loop-byte
invariant-loop-byte l = l.names ≡ l.initial.names ++ take l.byte-index l.bytes
