use Rattle.std.proofs.Common.{sym, subst}
use Rattle.command_words.specs.Words.{carrying_of}
use Rattle.model_carrying.specs.Ends.{CarriesOn}
use Rattle.model_command.proofs.ReadFiles.{two_files}
use Rattle.model_command.proofs.on_files.carry_on.Goals as goal

pub carry_between-requires-clause-read : goal.carry_between-requires-clause-read
carry_between-requires-clause-read c = (c.as_slice.result.now, c.model_in-model.ensures)

pub returns : goal.returns
returns c =
    subst (λ fs. CarriesOn (carrying_of c.args.carrying.now) fs c.carry_between.result)
    (sym (two_files c.args.files.now _ _ _ _ c.requires.files c.as_slice.ensures c.index-files-0.is c.as_slice-2.ensures c.index-files-1.is))
    (c.carry_between.ensures c.as_slice.result.now c.model_in-model.ensures)
