use Rattle.std.proofs.Common.{sym}
use Rattle.instance_start.proofs.Places.{lengths_differ_first}
use Rattle.instance_start.proofs.ranges.begin_all.Goals as goal

pub returns-then-columns-s : goal.returns-then-columns-s
returns-then-columns-s c = sym (lengths_differ_first c.args.columns.now c.args.s.now c.if-columns-s.true)
