use Rattle.std.proofs.Common.{◌++◌, ◌∙◌, ap, map}
use Rattle.std.specs.List.{flat_map}
use Rattle.gathering.specs.Lists.{list_for}
use Rattle.process_core.specs.Product.{flat_map_agree}
use Rattle.prism_targets.specs.Elements.{Element, elements}
use Rattle.prism_modules.specs.Code.{file_in, lasting_of}
use Rattle.jani_to_prism.specs.MapParts.{columns_at, element_columns}
use Rattle.jani_to_prism.proofs.map_columns.add_modules.Goals as goal

pub returns : goal.returns
returns c =
    let f = file_in c.args.names.now in
    let here = λ (el : Element). columns_at (map lasting_of (list_for c.in_ok-homes.homes el.number)) el in
    c.in_ok-add_elements.ensures
    ∙ ap (λ l. c.args.all.now ++ l) (ap (flat_map here) c.requires.elements ∙ flat_map_agree here (element_columns f) (λ el. ap (λ xs. columns_at xs el) (c.in_ok-homes.ensures el.number)) (elements f))
