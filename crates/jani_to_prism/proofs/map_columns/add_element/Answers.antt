use Rattle.std.proofs.Common.{map}
use Rattle.prism_modules.specs.Code.{element_of, lasting_of}
use Rattle.jani_to_prism.specs.MapParts.{location_columns, variable_columns}
use Rattle.jani_to_prism.proofs.LongActions.{behind}
use Rattle.jani_to_prism.proofs.map_columns.add_element.Goals as goal

pub returns : goal.returns
returns c =
    behind c.args.all.now c.add_location.new.all c.add_variables.new.all (location_columns (element_of c.args.el.now)) (variable_columns (map lasting_of c.args.home.now)) c.in_ok-add_location.ensures
    c.in_ok-add_variables.ensures
