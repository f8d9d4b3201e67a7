use Rattle.std.proofs.lemmas.Result.{IfOk-weaker}
use Rattle.jani_tree.specs.Syntax.{File, file_of}
use Rattle.name_table.specs.PrismAsks.{NewNames}
use Rattle.prism_modules.specs.Code.{names_in, file_in}
use Rattle.jani_to_prism.specs.Maps.{IsMapToPrism}
use Rattle.jani_to_prism.specs.MapParts.{IsMapBy}
use Rattle.jani_to_prism.proofs.MapMade.{is_map_to_prism}
use Rattle.jani_to_prism.proofs.carry.map_of.Goals as goal

pub returns : goal.returns
returns c =
    let f : File = file_of c.args.file.now in
    let k : NewNames = names_in c.in_ok-names.names in
    let g : File = file_in c.in_ok-names.names in
    IfOk-weaker c.map_by.result (IsMapBy k g) (IsMapToPrism f) (λ m h. is_map_to_prism f g k m c.in_ok-names.ensures.file c.in_ok-names.ensures.names h) c.map_by.ensures
