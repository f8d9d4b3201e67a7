use Rattle.name_rules.proofs.Maps.{at}
use Rattle.name_rules.proofs.doubled.Lowest.new.Goals as goal

pub returns : goal.returns
returns c = λ x. at c.new.ensures x
