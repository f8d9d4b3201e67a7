use Rattle.prism_to_jani.proofs.Statements.{same_entries}
use Rattle.prism_to_jani.proofs.carry.file_map.Goals as goal

pub map_with-requires-clause-entries : goal.map_with-requires-clause-entries
map_with-requires-clause-entries c =
    same_entries c.as_slice.result.now c.in_ok-table.table.entries c.args.file.now c.as_slice.ensures c.in_ok-table.ensures
