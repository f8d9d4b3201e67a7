use Rattle.jani_tree.specs.Syntax as jani
use Rattle.prism_to_jani.proofs.Statements.{variables_are, actions_are, is_translation}
use Rattle.prism_to_jani.proofs.translation.file_by.Goals as goal

pub translated_by-requires-clause-vars : goal.translated_by-requires-clause-vars
translated_by-requires-clause-vars c =
    variables_are c.as_slice.result.now c.args.vars.now.items c.args.file.now c.as_slice.ensures.value c.requires.vars

pub translated_by-requires-clause-acts : goal.translated_by-requires-clause-acts
translated_by-requires-clause-acts c =
    actions_are c.as_slice-2.result.now c.args.acts.now.items c.args.file.now c.as_slice-2.ensures.value c.requires.acts

pub returns : goal.returns
returns c = is_translation (jani.file_of c.in_ok-all.all) c.args.names.now c.args.file.now c.in_ok-all.ensures c.requires.names
