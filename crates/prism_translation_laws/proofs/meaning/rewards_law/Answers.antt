use Rattle.prism_translation_laws.proofs.Pays.{edges_pay_alike}
use Rattle.prism_translation_laws.proofs.meaning.rewards_law.Goals as goal

pub returns : goal.returns
returns c = edges_pay_alike
