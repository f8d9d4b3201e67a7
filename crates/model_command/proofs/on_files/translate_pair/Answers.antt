use Rattle.model_command.proofs.on_files.translate_pair.Goals as goal

pub translate_with_properties-requires : goal.translate_with_properties-requires
translate_with_properties-requires c = (c.args.model.now, c.prism_in.ensures)

pub returns : goal.returns
returns c = c.translate_with_properties.ensures c.args.model.now c.prism_in.ensures
