use Rattle.std.specs.Prelude.{◌≡◌, ◌||◌, List, Bool, map, nat_lt, IfOk}
use Rattle.std.proofs.Common.{◌∙◌, ap, ap₂, sym, subst}
use Rattle.jani_tree.specs.declared.syntax.JaniVector.{JaniVector}
use Rattle.jani_tree.specs.Syntax.{vector_of, file_of}
use Rattle.edge_tables.specs.Tables.{EdgeTable, Split, split_from, split_in}
use Rattle.edge_tables.specs.Counts.{commands_from, nodes_from}
use Rattle.edge_tables.specs.Code.{split_view}
use Rattle.edge_tables.proofs.FileTables.{splits_alike}
use Rattle.edge_tables.proofs.Counting.{result_commands_are, result_nodes_are}
use Rattle.prism_targets.proofs.refused.has_large_modules.Goals as goal

pub returns : goal.returns
returns c =
    let file = file_of c.args.file.now in
    let splits : map split_view c.as_slice-2.result.now ≡ map (split_in file) file.vectors =
    ap (map split_view) c.as_slice-2.ensures.value
    ∙ c.in_ok-splits.ensures
    ∙ ap₂ (λ (l : List EdgeTable) (vs : List JaniVector). map (λ v. split_from v 0 l) (map vector_of vs)) c.requires c.as_slice.ensures
    ∙ splits_alike file file.vectors in
    subst (λ (y : Bool). IfOk c.has_too_many.result (λ b. b ≡ y))
    (ap₂ (λ (ss : List Split) (l : List EdgeTable). nat_lt 200000 (commands_from ss 0 l) || nat_lt 2000000 (nodes_from ss 0 l)) splits c.requires
    ∙ ap₂ (λ m n. nat_lt 200000 m || nat_lt 2000000 n) (sym (result_commands_are file)) (sym (result_nodes_are file)))
    c.has_too_many.ensures
