use Rattle.std.proofs.Common.{List, ℕ, ◌++◌, map}
use Rattle.std.specs.Prelude.{codes, []}
use Rattle.op_trees.specs.Tree.{tree}
use Rattle.prism_tree.specs.Syntax.{branch_of}
use Rattle.prism_print.specs.Text.{action_text, branch_text, expression_text, listed}
use Rattle.prism_print.proofs.Steps.{extend_done, and_done, text_done, list_done, command_joined}
use Rattle.prism_print.proofs.commands.PrismCommandCanonical.write.Goals as goal

pub returns : goal.returns
returns c =
    let command = c.args.self.now in
    let guard : List ℕ = expression_text (tree command.guard) in
    let branches : List ℕ = listed [] (codes " + ") branch_text (map branch_of command.branches) in
    text_done c.and-4.result _ _ c.args.out.now.items _
    (and_done c.and-3.result c.extend_from_slice-2.result c.and-4.result (((codes "[" ++ action_text command.action) ++ (codes "] " ++ (guard ++ codes " -> "))) ++ branches) (codes ";\n") c.args.out.now.items _ _ c.and-4.ensures
    (and_done c.and-2.result c.write_list.result c.and-3.result ((codes "[" ++ action_text command.action) ++ (codes "] " ++ (guard ++ codes " -> "))) branches c.args.out.now.items _ _ c.and-3.ensures
    (and_done c.and.result c.write_parts.result c.and-2.result (codes "[" ++ action_text command.action) (codes "] " ++ (guard ++ codes " -> ")) c.args.out.now.items _ _ c.and-2.ensures
    (and_done c.extend_from_slice.result c.write_action.result c.and.result (codes "[") (action_text command.action) c.args.out.now.items _ _ c.and.ensures
    (extend_done c.extend_from_slice.result (codes "[") c.args.out.now.items _ c.extend_from_slice.ensures.items) c.write_action.ensures) c.write_parts.ensures) (list_done c.write_list.result [] (codes " + ") branch_text branch_of _ command.branches c.write_parts.new.out.items _ c.write_list.ensures c.as_slice.ensures)) (extend_done c.extend_from_slice-2.result (codes ";\n") c.write_list.new.out.items _ c.extend_from_slice-2.ensures.items))
    (command_joined (codes "[") (action_text command.action) (codes "] ") guard (codes " -> ") branches (codes ";\n"))
