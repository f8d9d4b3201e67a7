use Rattle.prism_to_jani.proofs.Statements.{variables_are, actions_are, are_names}
use Rattle.prism_to_jani.proofs.translation.file_names.Goals as goal

pub names-requires-clause-vars : goal.names-requires-clause-vars
names-requires-clause-vars c =
    variables_are c.as_slice.result.now c.args.vars.now.items c.args.file.now c.as_slice.ensures.value c.requires.vars

pub names-requires-clause-acts : goal.names-requires-clause-acts
names-requires-clause-acts c =
    actions_are c.as_slice-2.result.now c.args.acts.now.items c.args.file.now c.as_slice-2.ensures.value c.requires.acts

pub returns : goal.returns
returns c = are_names c.in_ok-names.names c.args.entries.now c.args.file.now c.in_ok-names.ensures c.requires.entries
