use Rattle.std.proofs.Math.Path.{fun_ext}
use Rattle.std.proofs.lemmas.Map.Text.{btree_map_updates_str}
use Rattle.name_rules.specs.Names.{under}
use Rattle.name_rules.proofs.map.NameMap.put.Goals as goal

pub returns-in-Ok : goal.returns-in-Ok
unfolding under
returns-in-Ok g c = fun_ext (λ q. btree_map_updates_str c.args.name.now c.args.self.now.entries c.insert.new.self _ c.in-Ok.ensures.updates q)
