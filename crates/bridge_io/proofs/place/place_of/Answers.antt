use Rattle.bridge_io.proofs.Ends.{end_before}
use Rattle.bridge_io.proofs.place.place_of.Goals as goal

pub returns-clause-line : goal.returns-clause-line
returns-clause-line c = (end_before _ _ c.args.bytes.now c.args.offset (c.past.ensures.end _ c.start.ensures.end)).0

pub returns-clause-column : goal.returns-clause-column
returns-clause-column c = (end_before _ _ c.args.bytes.now c.args.offset (c.past.ensures.end _ c.start.ensures.end)).1
