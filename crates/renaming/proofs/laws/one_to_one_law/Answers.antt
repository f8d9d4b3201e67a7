use Rattle.renaming.proofs.Renaming.{one_to_one}
use Rattle.renaming.proofs.laws.one_to_one_law.Goals as goal

pub returns : goal.returns
returns c = one_to_one
