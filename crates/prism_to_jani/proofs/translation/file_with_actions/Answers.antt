use Rattle.prism_to_jani.proofs.Statements.{same_entries}
use Rattle.prism_to_jani.proofs.translation.file_with_actions.Goals as goal

pub file_with-requires-clause-entries : goal.file_with-requires-clause-entries
file_with-requires-clause-entries c =
    same_entries c.as_slice.result.now c.in_ok-table.table.entries c.args.file.now c.as_slice.ensures c.in_ok-table.ensures
