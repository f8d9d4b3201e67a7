use Rattle.std.proofs.Common.{arith}
use Rattle.bridge_io.proofs.Ends.{end_next, end_of_all}
use Rattle.bridge_io.proofs.place.Place.past.Goals as goal

pub loop-byte-preserved : goal.loop-byte-preserved
loop-byte-preserved c = record {
  end = λ bytes end. end_next _ _ bytes c.args.piece.now c.loop-byte.byte-index _ c.loop-byte-test.true (c.after-place.ensures.end _ (c.loop-byte.invariant.end bytes end));
  small = omega (arith, c.after-place.ensures.line, c.loop-byte.invariant.small);
  narrow = omega (arith, c.after-place.ensures.column, c.loop-byte.invariant.narrow);
}

pub returns-clause-end : goal.returns-clause-end
returns-clause-end c = λ bytes end. end_of_all _ _ bytes c.args.piece.now c.loop-byte.byte-index c.loop-byte-test.false (c.loop-byte.invariant.end bytes end)
