use Rattle.std.specs.Prelude.{Some, bytes_eq, if◌then◌else◌}
use Rattle.std.proofs.Common.{◌∙◌, ap}
use Rattle.std.proofs.lemmas.Result.{on_ok_weaker}
use Rattle.name_rules.specs.Doubled.{lower, lowest_under}
use Rattle.name_rules.proofs.Maps.{at}
use Rattle.name_rules.proofs.doubled.Lowest.note.Goals as goal

pub returns : goal.returns
returns c =
    on_ok_weaker c.put.result
    (λ puts q. at puts q
    ∙ ap (λ n. if bytes_eq c.args.name.now q then Some n else lowest_under c.args.self.now q) (c.lowered.ensures ∙ ap (λ o. lower o c.args.at) c.get-known.ensures))
    c.put.ensures
