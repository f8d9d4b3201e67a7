use Rattle.std.proofs.lemmas.Map.Text.{btree_map_updates_str}
use Rattle.prism_check.proofs.Acting.{one_more}
use Rattle.prism_check.proofs.actions.add_name.Goals as goal

pub returns-in-Ok : goal.returns-in-Ok
returns-in-Ok c =
    one_more c.args.actions.now c.insert.new.self c.args.name.now _ (btree_map_updates_str c.args.name.now c.args.actions.now c.insert.new.self _ c.in-Ok.ensures.updates) c.in-Ok.ensures.old
    c.in-Ok.ensures.len
