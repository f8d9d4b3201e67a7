use Rattle.std.proofs.lemmas.Result.{on_ok_weaker}
use Rattle.name_rules.proofs.Maps.{at}
use Rattle.edge_tables.proofs.places.put_number.Goals as goal

pub returns : goal.returns
returns c = on_ok_weaker c.put_first.result (λ h. λ x. at h x) c.put_first.ensures
