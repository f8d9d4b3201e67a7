use Rattle.instance_start.proofs.Places.{domain_there}
use Rattle.instance_start.proofs.ranges.domain_at.Goals as goal

pub returns-then-place-columns : goal.returns-then-place-columns
returns-then-place-columns c = domain_there c.args.columns.now c.args.place c.index-columns-place.result c.if-place-columns.true
