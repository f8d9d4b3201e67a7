use Rattle.std.specs.Prelude.{string_bytes}
use Rattle.std.proofs.lemmas.Map.Text.{btree_set_updates_text}
use Rattle.name_table.proofs.taken.insert.Goals as goal

pub returns-clause-ok : goal.returns-clause-ok
returns-clause-ok c = λ x. btree_set_updates_text (string_bytes c.args.name) c.args.names.now c.insert.new.self _ c.in_ok-insert.ensures.updates x
