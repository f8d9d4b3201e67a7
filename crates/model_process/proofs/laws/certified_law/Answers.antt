use Rattle.model_process.proofs.Certified.{right_certifies}
use Rattle.model_process.proofs.laws.certified_law.Goals as goal

pub returns : goal.returns
returns c = right_certifies
