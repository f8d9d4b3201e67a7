use Rattle.std.specs.Prelude.{bytes_eq, unwrap_or}
use Rattle.std.proofs.Common.{◌∙◌, ap}
use Rattle.std.proofs.lemmas.Result.{on_ok_weaker}
use Rattle.name_rules.specs.Names.{under}
use Rattle.name_rules.proofs.Maps.{at}
use Rattle.name_rules.proofs.Waited.{count_or}
use Rattle.name_rules.proofs.ranks.Ranks.put.Goals as goal

pub returns : goal.returns
returns c =
    on_ok_weaker c.put.result
    (λ puts q. ap (λ o. unwrap_or o 0) (at puts q) ∙ count_or (bytes_eq c.args.name.now q) c.args.rank (under c.args.self.now.numbers q))
    c.put.ensures
