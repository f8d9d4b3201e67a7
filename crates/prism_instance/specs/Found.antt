-- What the program's found variables stand for. (This project's own rule.)
use Rattle.std.specs.Option.{option_map}
use Rattle.process_core.specs.Ready.{Name}
use Rattle.process_core.specs.Instance.{Column}
use Rattle.state_choices.specs.Views.{seen_of}
use Rattle.instance_start.specs.Columns.{bounds_of, variable_of}
use Rattle.instance_start.specs.declared.data.Variable.{Variable}
use Rattle.prism_instance.specs.declared.variables.Found.{Found}
use Rattle.prism_instance.specs.declared.variables.Values.{Values}

abbrev pub column_with : Name → Values → Column
column_with n v = record { name = n; domain = bounds_of v.bounds; first = option_map seen_of v.first }

abbrev pub named_variable : Found → Variable
named_variable f = record { name = f.name; bounds = f.values.value.bounds; first = f.values.value.first }

abbrev pub found_column : Found → Column
found_column f = variable_of (named_variable f)
