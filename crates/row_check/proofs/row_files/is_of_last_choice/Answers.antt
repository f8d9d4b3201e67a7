use Rattle.std.proofs.Common.{◌∙◌}
use Rattle.row_check.proofs.TargetsKept.{last_choice}
use Rattle.row_check.proofs.row_files.is_of_last_choice.Goals as goal

pub returns-in-Some : goal.returns-in-Some
returns-in-Some c = c.same_choice.ensures ∙ last_choice c.args.before.now c.in-Some.last.now c.args.row.now c.in-Some.ensures.value
