use Rattle.name_rules.proofs.Maps.{at}
use Rattle.jani_check.proofs.writers.Rewarding.new.Goals as goal

pub returns : goal.returns
returns c = at c.new.ensures
