use Rattle.name_table.proofs.asking.found_names.Goals as goal

pub returns : goal.returns
returns c = c.in_ok-table.ensures
