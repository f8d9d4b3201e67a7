use Rattle.std.proofs.Common.{◌++◌, ◌∙◌, ap, map, List}
use Rattle.std.specs.Prelude.{Some, codes}
use Rattle.jani_tree.specs.declared.syntax.JaniConst.{JaniConst}
use Rattle.jani_tree.specs.Syntax.{Const, const_of}
use Rattle.prism_targets.specs.Lines.{name_lines}
use Rattle.prism_modules.specs.Code.{names_in}
use Rattle.jani_to_prism.proofs.LongActions.{behind}
use Rattle.jani_to_prism.proofs.lines.add_value_lines.Goals as goal

pub returns : goal.returns
returns c =
    let n = names_in c.args.names.now in
    let first = c.in_ok-add_constant_lines.ensures
    ∙ ap (λ (cs : List JaniConst). c.args.lines.now ++ name_lines (codes "constant") n.constants (map (λ (k : Const). Some k.name.name) (map const_of cs))) c.as_slice-constants.ensures in
    let second = behind c.add_constant_lines.new.lines c.add_owned_lines.new.lines c.add_location_lines.new.lines _ _ c.in_ok-add_owned_lines.ensures c.in_ok-add_location_lines.ensures in
    behind c.args.lines.now c.add_constant_lines.new.lines c.add_location_lines.new.lines _ _ first second
