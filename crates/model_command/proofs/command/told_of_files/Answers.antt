use Rattle.std.proofs.Common.{rules, ◌≡◌, Err}
use Rattle.model_process.specs.declared.judging.ClaimRefused.TheVariants.{At}
use Rattle.model_command.proofs.FilesEnds.{refused_at_file}
use Rattle.model_command.proofs.command.told_of_files.Goals as goal

pub returns-in-Err-At : goal.returns-in-Err-At
returns-in-Err-At c =
    let made : c.args.made ≡ Err (At c.in-Err-At.i c.in-Err-At.fault) = search rules in
    refused_at_file c.args.files.now c.args.names.now c.args.made c.in-Err-At.i c.in-Err-At.fault _ c.as_slice.result.now c.index-files-i.result c.refusal.result
    made (c.requires.within c.in-Err-At.i c.in-Err-At.fault made) c.requires.files c.as_slice.ensures c.index-files-i.is c.refusal.ensures
