use Rattle.std.proofs.Common.{sym, subst}
use Rattle.command_words.specs.Words.{checking_of}
use Rattle.model_process.specs.Claims.{JudgesOn}
use Rattle.model_command.proofs.ReadFiles.{first_file, other_files}
use Rattle.model_command.proofs.on_files.judge_on.Goals as goal

pub judge_claim-requires-clause-others : goal.judge_claim-requires-clause-others
judge_claim-requires-clause-others c = other_files c.args.files.now _ c.requires.files

pub returns : goal.returns
returns c =
    subst (λ fs. JudgesOn (checking_of c.args.checking.now) fs c.judge_claim.result)
    (sym (first_file c.args.files.now _ _ _ c.requires.files c.as_slice.ensures c.index-files-0.is)) (c.judge_claim.ensures c.as_slice.result.now c.model_in-model.ensures)
