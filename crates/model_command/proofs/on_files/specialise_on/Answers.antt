use Rattle.model_command.proofs.on_files.specialise_on.Goals as goal

pub specialise_model-requires-clause-read : goal.specialise_model-requires-clause-read
specialise_model-requires-clause-read c = (c.args.bytes.now, c.model_in-model.ensures)

pub returns : goal.returns
returns c = c.specialise_model.ensures c.args.bytes.now c.model_in-model.ensures
