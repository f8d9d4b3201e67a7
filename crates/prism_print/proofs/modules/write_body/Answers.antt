use Rattle.std.proofs.Common.{List, ℕ, map, ◌++◌, ap, ◌∙◌}
use Rattle.std.specs.Prelude.{codes}
use Rattle.prism_tree.specs.declared.syntax.PrismVar.{PrismVar}
use Rattle.prism_tree.specs.Syntax.{var_of, command_of}
use Rattle.prism_print.specs.Text.{var_text, command_text, before_commands, listed}
use Rattle.prism_print.proofs.Steps.{extend_done, and_done, text_done, list_done, body_joined}
use Rattle.prism_print.proofs.modules.write_body.Goals as goal

pub returns : goal.returns
returns c =
    let body = c.args.body.now in
    let vars : List ℕ = listed (codes "  ") (codes "  ") var_text (map var_of body.vars) in
    let commands : List ℕ = listed (before_commands (map var_of body.vars)) (codes "  ") command_text (map command_of body.commands) in
    text_done c.and-3.result _ _ c.args.out.now.items _
    (and_done c.and-2.result c.extend_from_slice.result c.and-3.result (((codes "module " ++ (body.name.name ++ codes "\n")) ++ vars) ++ commands) (codes "endmodule\n") c.args.out.now.items _ _ c.and-3.ensures
    (and_done c.and.result c.write_list-2.result c.and-2.result ((codes "module " ++ (body.name.name ++ codes "\n")) ++ vars) commands c.args.out.now.items _ _ c.and-2.ensures
    (and_done c.write_parts.result c.write_list.result c.and.result (codes "module " ++ (body.name.name ++ codes "\n")) vars c.args.out.now.items _ _ c.and.ensures
    c.write_parts.ensures (list_done c.write_list.result (codes "  ") (codes "  ") var_text var_of _ body.vars c.write_parts.new.out.items _ c.write_list.ensures c.as_slice-vars.ensures)) (text_done c.write_list-2.result _ _ c.write_list.new.out.items _
    (list_done c.write_list-2.result c.before_commands.result.now (codes "  ") command_text command_of _ body.commands c.write_list.new.out.items _ c.write_list-2.ensures c.as_slice.ensures)
    (ap (λ (u : List ℕ). listed u (codes "  ") command_text (map command_of body.commands)) (c.before_commands.ensures ∙ ap (λ (u : List PrismVar). before_commands (map var_of u)) c.as_slice-vars.ensures)))) (extend_done c.extend_from_slice.result (codes "endmodule\n") c.write_list-2.new.out.items _ c.extend_from_slice.ensures.items))
    (body_joined (codes "module ") body.name.name (codes "\n") vars commands (codes "endmodule\n"))
