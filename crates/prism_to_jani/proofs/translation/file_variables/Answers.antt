use Rattle.prism_to_jani.proofs.Statements.{are_variables}
use Rattle.prism_to_jani.proofs.translation.file_variables.Goals as goal

pub returns : goal.returns
returns c = are_variables c.in_ok-vars.vars.items c.args.file.now c.in_ok-vars.ensures
