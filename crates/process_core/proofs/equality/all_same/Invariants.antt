use Rattle.std.proofs.Common.{◌≡◌, drop}
use Rattle.std.specs.Cmp.Lexicographic.{pointwise}
use Rattle.process_core.proofs.equality.all_same.Given as goal

abbrev pub invariant-loop-i : goal.invariant-loop-i
invariant-loop-i g l = pointwise g.T.Same.test l.a l.b ≡ pointwise g.T.Same.test (drop l.i l.a) (drop l.i l.b)
