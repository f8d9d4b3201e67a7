use Rattle.std.proofs.Common.{◌++◌, ◌∙◌, ap, ap₂, map, sym, List}
use Rattle.std.specs.Prelude.{Option}
use Rattle.process_core.specs.Ready.{Name}
use Rattle.process_core.specs.Product.{map-map}
use Rattle.jani_meaning.specs.Elements.{Owned}
use Rattle.name_table.specs.JaniParts.{owned_of}
use Rattle.prism_targets.specs.Elements.{Element}
use Rattle.prism_targets.specs.Targets.{old_name}
use Rattle.prism_targets.specs.Serving.{target_in}
use Rattle.prism_modules.specs.Code.{file_in, names_in}
use Rattle.jani_to_prism.specs.LineParts.{value_lines, moving_lines, mark_lines}
use Rattle.jani_to_prism.proofs.LongActions.{behind, in_parts}
use Rattle.jani_to_prism.proofs.lines.add_lines.Goals as goal

pub returns : goal.returns
returns c =
    let f = file_in c.args.names.now in
    let n = names_in c.args.names.now in
    let first = c.in_ok-add_value_lines.ensures
    ∙ ap₂ (λ (vars : List Owned) (els : List Element). c.args.all.now ++ value_lines n f vars els) (ap (map owned_of) c.as_slice.ensures.value ∙ c.requires.parts.lasting_are) c.requires.elements in
    let second = c.in_ok-add_moving_lines.ensures
    ∙ ap (λ (os : List (Option Name)). c.add_value_lines.new.lines ++ moving_lines n f os) (sym (map-map old_name (target_in f) c.args.made.now) ∙ ap (map old_name) c.requires.targets) in
    let third = c.in_ok-add_mark_lines.ensures
    ∙ ap₂ (λ (ls rs : List Owned). c.add_moving_lines.new.lines ++ mark_lines n ls rs) (ap (map owned_of) c.as_slice-labels.ensures.value ∙ c.requires.parts.labels_are)
    (ap (map owned_of) c.as_slice-structures.ensures.value ∙ c.requires.parts.structures_are) in
    behind c.args.all.now c.add_value_lines.new.lines c.add_mark_lines.new.lines _ _ first (behind c.add_value_lines.new.lines c.add_moving_lines.new.lines c.add_mark_lines.new.lines _ _ second third)
    ∙ ap (λ l. c.args.all.now ++ l) (in_parts n f)
