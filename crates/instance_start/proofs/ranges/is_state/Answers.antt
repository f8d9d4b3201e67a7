use Rattle.std.proofs.Common.{sym}
use Rattle.instance_start.proofs.Places.{lengths_differ}
use Rattle.instance_start.proofs.ranges.is_state.Goals as goal

pub returns-then-columns-s : goal.returns-then-columns-s
returns-then-columns-s c = sym (lengths_differ c.args.columns.now c.args.s.now c.if-columns-s.true)
