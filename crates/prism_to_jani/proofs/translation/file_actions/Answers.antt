use Rattle.prism_to_jani.proofs.Statements.{are_actions}
use Rattle.prism_to_jani.proofs.translation.file_actions.Goals as goal

pub returns : goal.returns
returns c = are_actions c.in_ok-acts.acts.items c.args.file.now c.in_ok-acts.ensures
