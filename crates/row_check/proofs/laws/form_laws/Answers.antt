use Rattle.row_check.proofs.Formed.{row_files_ordered, path_file_whole, weights_not_negative, bounds_not_negative}
use Rattle.row_check.proofs.OneForm.{path_read_once, states_read_once, rows_read_once, bounds_read_once}
use Rattle.row_check.proofs.laws.form_laws.Goals as goal

pub returns : goal.returns
returns c =
    let t = c.text_laws.ensures in
    record {
      rows = row_files_ordered;
      path = path_file_whole;
      one_path = path_read_once t.value t.state t.name;
      one_states = states_read_once t.value t.state t.name;
      one_rows = rows_read_once t.value t.state t.name;
      one_bounds = bounds_read_once t.value t.state t.name;
      weights = weights_not_negative;
      bounds = bounds_not_negative;
    }
