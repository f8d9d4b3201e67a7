use Rattle.model_command.proofs.Place.{capped}
use Rattle.model_command.proofs.outcome.place_within.Goals as goal

pub returns : goal.returns
returns c = capped c.place_of.result c.args.bytes.now c.args.at c.min.result c.min.ensures c.place_of.ensures.line c.place_of.ensures.column
