use Rattle.std.proofs.Common.{List, ℕ, ◌≡◌, ◌++◌, map, ◌∙◌}
use Rattle.std.specs.Prelude.{codes, []}
use Rattle.std.specs.Option.{option_map}
use Rattle.op_trees.specs.Tree.{tree}
use Rattle.std.proofs.lemmas.Result.{IfOk-at_ok}
use Rattle.prism_tree.specs.Syntax.{file_of, const_of, var_of, formula_of, module_of, label_of, rewards_of}
use Rattle.prism_print.specs.Text.{const_text, var_text, formula_text, module_text, label_text, rewards_text, init_text, listed}
use Rattle.prism_print.proofs.Back.{text_spells_as}
use Rattle.prism_print.proofs.Steps.{extend_done, and_done, list_done, file_done}
use Rattle.prism_print.proofs.file.print.Goals as goal

pub returns-clause-text : goal.returns-clause-text
returns-clause-text c =
    let file = c.args.file.now in
    let constants : List ℕ = listed (codes "\n") [] const_text (map const_of file.constants) in
    let globals : List ℕ = listed (codes "\nglobal ") (codes "global ") var_text (map var_of file.globals) in
    let formulas : List ℕ = listed (codes "\n") [] formula_text (map formula_of file.formulas) in
    let modules : List ℕ = listed (codes "\n") (codes "\n") module_text (map module_of file.modules) in
    let labels : List ℕ = listed (codes "\n") [] label_text (map label_of file.labels) in
    let rewards : List ℕ = listed (codes "\n") (codes "\n") rewards_text (map rewards_of file.rewards) in
    let init : List ℕ = init_text (option_map tree file.init) in
    c.from_vec.ensures
    ∙ file_done (codes "mdp\n") constants globals formulas modules labels rewards init c.new-out.result.items c.write_init.new.out.items c.new-out.ensures.items
    (IfOk-at_ok (λ (u : Unit {0}). c.write_init.new.out.items ≡ c.new-out.result.items ++ (((((((codes "mdp\n" ++ constants) ++ globals) ++ formulas) ++ modules) ++ labels) ++ rewards) ++ init)) c.in_ok-and.was
    (and_done c.and-6.result c.write_init.result c.and-7.result ((((((codes "mdp\n" ++ constants) ++ globals) ++ formulas) ++ modules) ++ labels) ++ rewards) init c.new-out.result.items _ _ c.and-7.ensures
    (and_done c.and-5.result c.write_list-6.result c.and-6.result (((((codes "mdp\n" ++ constants) ++ globals) ++ formulas) ++ modules) ++ labels) rewards c.new-out.result.items _ _ c.and-6.ensures
    (and_done c.and-4.result c.write_list-5.result c.and-5.result ((((codes "mdp\n" ++ constants) ++ globals) ++ formulas) ++ modules) labels c.new-out.result.items _ _ c.and-5.ensures
    (and_done c.and-3.result c.write_list-4.result c.and-4.result (((codes "mdp\n" ++ constants) ++ globals) ++ formulas) modules c.new-out.result.items _ _ c.and-4.ensures
    (and_done c.and-2.result c.write_list-3.result c.and-3.result ((codes "mdp\n" ++ constants) ++ globals) formulas c.new-out.result.items _ _ c.and-3.ensures
    (and_done c.and.result c.write_list-2.result c.and-2.result (codes "mdp\n" ++ constants) globals c.new-out.result.items _ _ c.and-2.ensures
    (and_done c.extend_from_slice.result c.write_list.result c.and.result (codes "mdp\n") constants c.new-out.result.items _ _ c.and.ensures
    (extend_done c.extend_from_slice.result (codes "mdp\n") c.new-out.result.items _ c.extend_from_slice.ensures.items) (list_done c.write_list.result (codes "\n") [] const_text const_of _ file.constants c.extend_from_slice.new.self.items _ c.write_list.ensures c.as_slice.ensures)) (list_done c.write_list-2.result (codes "\nglobal ") (codes "global ") var_text var_of _ file.globals c.write_list.new.out.items _ c.write_list-2.ensures c.as_slice-2.ensures)) (list_done c.write_list-3.result (codes "\n") [] formula_text formula_of _ file.formulas c.write_list-2.new.out.items _ c.write_list-3.ensures c.as_slice-3.ensures)) (list_done c.write_list-4.result (codes "\n") (codes "\n") module_text module_of _ file.modules c.write_list-3.new.out.items _ c.write_list-4.ensures c.as_slice-4.ensures)) (list_done c.write_list-5.result (codes "\n") [] label_text label_of _ file.labels c.write_list-4.new.out.items _ c.write_list-5.ensures c.as_slice-5.ensures)) (list_done c.write_list-6.result (codes "\n") (codes "\n") rewards_text rewards_of _ file.rewards c.write_list-5.new.out.items _ c.write_list-6.ensures c.as_slice-6.ensures)) c.write_init.ensures))

pub returns-clause-back : goal.returns-clause-back
returns-clause-back c p = text_spells_as _ (file_of c.args.file.now) (returns-clause-text c) p
