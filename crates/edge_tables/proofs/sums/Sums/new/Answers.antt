use Rattle.std.specs.Prelude.{unwrap_or}
use Rattle.std.proofs.Common.{ap}
use Rattle.name_rules.proofs.Maps.{at}
use Rattle.edge_tables.proofs.sums.Sums.new.Goals as goal

pub returns : goal.returns
returns c = λ x. ap (λ o. unwrap_or o 0) (at c.new.ensures x)
