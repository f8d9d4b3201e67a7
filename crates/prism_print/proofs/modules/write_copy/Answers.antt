use Rattle.std.proofs.Common.{List, ◌++◌, ap}
use Rattle.std.specs.Prelude.{codes, []}
use Rattle.prism_tree.specs.declared.syntax.NamePair.{NamePair}
use Rattle.prism_print.specs.Text.{pair_text, listed}
use Rattle.prism_print.proofs.Steps.{extend_done, and_done, text_done, copy_joined}
use Rattle.prism_print.proofs.modules.write_copy.Goals as goal

pub returns : goal.returns
returns c =
    let copy = c.args.copy.now in
    text_done c.and-2.result _ _ c.args.out.now.items _
    (and_done c.and.result c.extend_from_slice.result c.and-2.result _ _ _ _ _ c.and-2.ensures
    (and_done c.write_parts.result c.write_list.result c.and.result (codes "module " ++ (copy.name.name ++ (codes " = " ++ (copy.from.name ++ codes " [")))) _ _ _ _ c.and.ensures c.write_parts.ensures
    (text_done c.write_list.result _ _ c.write_parts.new.out.items _ c.write_list.ensures (ap (λ (u : List NamePair). listed [] (codes ", ") pair_text u) c.as_slice.ensures)))
    (extend_done c.extend_from_slice.result (codes "] endmodule\n") c.write_list.new.out.items _ c.extend_from_slice.ensures.items))
    (copy_joined (codes "module ") copy.name.name (codes " = ") copy.from.name (codes " [") (listed [] (codes ", ") pair_text copy.pairs) (codes "] endmodule\n"))
