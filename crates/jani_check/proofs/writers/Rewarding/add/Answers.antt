use Rattle.std.proofs.lemmas.Result.{on_ok_weaker}
use Rattle.name_rules.proofs.Maps.{at}
use Rattle.jani_check.proofs.writers.Rewarding.add.Goals as goal

pub returns : goal.returns
returns c = on_ok_weaker c.add.result (λ h. at h) c.add.ensures
