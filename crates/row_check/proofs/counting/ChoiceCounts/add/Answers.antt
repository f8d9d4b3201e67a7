use Rattle.std.proofs.Common.{refl}
use Rattle.row_check.proofs.Counted.{added}
use Rattle.row_check.proofs.counting.ChoiceCounts.add.Goals as goal

pub returns : goal.returns
returns c = added c.args.self.now.counts c.insert.new.self c.args.key c.times-count.result _ c.times-count.ensures refl c.in_ok-insert.ensures.updates
