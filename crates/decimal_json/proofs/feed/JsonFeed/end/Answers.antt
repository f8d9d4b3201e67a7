use Rattle.decimal_json.proofs.Yields.{reads_normal}
use Rattle.decimal_json.proofs.Once.{reads_once}
use Rattle.decimal_json.proofs.feed.JsonFeed.end.Goals as goal

pub returns-clause-normal : goal.returns-clause-normal
returns-clause-normal c seen s = reads_normal seen _ (c.read_as.ensures seen s.0 s.1)

pub returns-clause-once : goal.returns-clause-once
returns-clause-once c seen s = reads_once seen _ (c.read_as.ensures seen s.0 s.1)
