use Rattle.prism_to_jani.proofs.Statements.{variables_are, actions_are, are_entries}
use Rattle.prism_to_jani.proofs.translation.file_table.Goals as goal

pub flat_names-requires-clause-vars : goal.flat_names-requires-clause-vars
flat_names-requires-clause-vars c =
    variables_are c.as_slice.result.now c.args.vars.now.items c.args.file.now c.as_slice.ensures.value c.requires.vars

pub flat_names-requires-clause-acts : goal.flat_names-requires-clause-acts
flat_names-requires-clause-acts c =
    actions_are c.as_slice-2.result.now c.args.acts.now.items c.args.file.now c.as_slice-2.ensures.value c.requires.acts

pub returns : goal.returns
returns c = are_entries c.in_ok-table.table.entries c.args.file.now c.in_ok-table.ensures.1
