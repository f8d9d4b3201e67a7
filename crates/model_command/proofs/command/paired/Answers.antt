use Rattle.model_command.proofs.Tasked.{pair_told}
use Rattle.model_command.proofs.command.paired.Goals as goal

pub returns : goal.returns
returns c =
    pair_told c.args.file.now c.args.properties.now c.args.names.now c.args.files.now _ _ _ _ _ _ _ _ c.translate_pair-made.result _ _ c.requires.names c.requires.files
    c.index-files-0.is c.index-files-1.is c.as_slice-model.ensures c.as_slice-second.ensures c.translate_pair-made.ensures c.told_of_pair.ensures.name c.told_of_pair.ensures.outcome
