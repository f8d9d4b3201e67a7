use Rattle.std.specs.Prelude.{false, is_some}
use Rattle.std.proofs.Common.{◌≡◌, ◌∙◌, rules}
use Rattle.std.proofs.lemmas.Result.{on_ok_weaker}
use Rattle.name_rules.specs.Names.{under}
use Rattle.name_rules.proofs.Maps.{put_new}
use Rattle.name_rules.proofs.map.NameMap.put_first.Goals as goal

pub returns : goal.returns
returns g c =
    let none : is_some (under c.args.self.now c.args.name.now) ≡ false = search rules in
    on_ok_weaker c.put.result (λ h. h ∙ put_new (under c.args.self.now) c.args.name.now c.args.value none) c.put.ensures
