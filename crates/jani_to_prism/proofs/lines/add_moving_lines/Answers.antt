use Rattle.std.proofs.Common.{◌≡◌, ◌++◌, ◌∙◌, refl, ap, map, List, [], ◌∷◌}
use Rattle.std.specs.Prelude.{Option, Some, codes}
use Rattle.process_core.specs.Ready.{Name}
use Rattle.jani_tree.specs.declared.syntax.JaniElement.{JaniElement}
use Rattle.jani_tree.specs.Syntax.{element_of}
use Rattle.prism_targets.specs.Lines.{name_lines}
use Rattle.prism_modules.specs.Code.{names_in}
use Rattle.jani_to_prism.proofs.LongActions.{behind}
use Rattle.jani_to_prism.proofs.lines.add_moving_lines.Goals as goal

old_names : (es : List JaniElement) → map (λ (e : JaniElement). Some e.name.name) es ≡ map (λ n. Some n.name) (map (λ e. e.name) (map element_of es))
old_names [] = refl
old_names (e ∷ es) = ap (λ r. Some e.name.name ∷ r) (old_names es)

pub returns : goal.returns
returns c =
    let n = names_in c.args.names.now in
    let first = c.in_ok-add_module_lines.ensures
    ∙ ap (λ (es : List JaniElement). c.args.lines.now ++ name_lines (codes "module") n.modules (map (λ (e : JaniElement). Some e.name.name) es)) c.as_slice-elements.ensures
    ∙ ap (λ (os : List (Option Name)). c.args.lines.now ++ name_lines (codes "module") n.modules os) (old_names c.args.names.now.file.now.elements) in
    behind c.args.lines.now c.add_module_lines.new.lines c.add_action_lines.new.lines _ _ first c.in_ok-add_action_lines.ensures
