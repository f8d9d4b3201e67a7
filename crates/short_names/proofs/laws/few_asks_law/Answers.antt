use Rattle.short_names.proofs.Counted.{few_asks}
use Rattle.short_names.proofs.laws.few_asks_law.Goals as goal

pub returns : goal.returns
returns c = few_asks
