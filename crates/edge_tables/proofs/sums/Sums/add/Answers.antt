use Rattle.std.proofs.Common.{refl, rules}
use Rattle.std.proofs.lemmas.Result.{on_ok_weaker}
use Rattle.name_rules.specs.Names.{under}
use Rattle.name_rules.proofs.Maps.{at}
use Rattle.edge_tables.specs.Code.{sum_under}
use Rattle.edge_tables.proofs.Summing.{put_sum}
use Rattle.edge_tables.proofs.sums.Sums.add.Goals as goal

pub returns : goal.returns
returns c =
    on_ok_weaker c.put.result
    (λ h. λ x.
    put_sum c.args.name.now x (sum_under c.args.self.now) c.args.number c.saturating_add-sum.result (under c.args.self.now.by_name x) (under c.put.new.self x) (search rules) refl
    (at h x)) c.put.ensures
