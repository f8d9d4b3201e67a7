use Rattle.model_command.proofs.on_files.walk_on.Goals as goal

pub returns : goal.returns
returns c = c.show_or_walk.ensures c.args.bytes.now c.model_in.ensures
