use Rattle.jani_to_prism.proofs.MapKept.{are_same_by_map, is_map_of_translation}
use Rattle.jani_to_prism.proofs.OneLine.{header_is_line}
use Rattle.jani_to_prism.proofs.laws.carry_law.Goals as goal

pub returns : goal.returns
returns c =
    let models = c.meaning_law.ensures.process in
    let scenes = c.meaning_law.ensures.scenes in
    record {
      translation = is_map_of_translation models scenes;
      same = are_same_by_map c.map_laws.ensures.same models scenes;
      header = header_is_line scenes;
    }
