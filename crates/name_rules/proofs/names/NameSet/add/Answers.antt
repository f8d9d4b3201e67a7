use Rattle.std.proofs.lemmas.Result.{on_ok_weaker}
use Rattle.name_rules.specs.Names.{under}
use Rattle.name_rules.proofs.Maps.{added}
use Rattle.name_rules.proofs.names.NameSet.add.Goals as goal

pub returns : goal.returns
returns c = on_ok_weaker c.put.result (added (under c.args.self.now.names) (under c.put.new.self) c.args.name.now) c.put.ensures
