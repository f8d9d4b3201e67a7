use Rattle.std.proofs.Common.{◌++◌, ◌∙◌, ap, ap₂, map, List}
use Rattle.carry_maps.specs.declared.map.Column.{Column}
use Rattle.prism_targets.specs.Elements.{Lasting}
use Rattle.prism_modules.specs.Code.{lasting_of}
use Rattle.jani_to_prism.specs.MapParts.{variable_columns}
use Rattle.jani_to_prism.proofs.map_columns.shared_columns.Goals as goal

pub returns : goal.returns
returns c =
    c.in_ok-add_variables.ensures
    ∙ ap₂ (λ (a : List Column) (l : List Lasting). a ++ variable_columns l) c.new-all.ensures (ap (map lasting_of) c.as_slice.ensures.value ∙ c.in_ok-shared.ensures)
