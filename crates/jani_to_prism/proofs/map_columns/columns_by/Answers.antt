use Rattle.std.proofs.Common.{◌++◌, ◌∙◌, ap, List}
use Rattle.std.specs.List.{flat_map}
use Rattle.carry_maps.specs.declared.map.Column.{Column}
use Rattle.prism_targets.specs.Elements.{elements}
use Rattle.prism_modules.specs.Code.{file_in}
use Rattle.jani_to_prism.specs.MapParts.{element_columns}
use Rattle.jani_to_prism.proofs.map_columns.columns_by.Goals as goal

pub returns : goal.returns
returns c =
    let f = file_in c.args.names.now in
    c.in_ok-add_modules.ensures ∙ ap (λ (a : List Column). a ++ flat_map (element_columns f) (elements f)) c.in_ok-all.ensures
