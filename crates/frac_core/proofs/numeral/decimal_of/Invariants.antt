use Rattle.std.specs.Prelude.{take}
use Rattle.frac_core.specs.Numeral.{IsRead}
use Rattle.frac_core.proofs.numeral.decimal_of.Given as goal

abbrev pub invariant-loop-byte : goal.invariant-loop-byte
invariant-loop-byte l = IsRead (take l.byte-index l.text) l.read
