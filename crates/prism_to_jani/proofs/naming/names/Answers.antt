use Rattle.std.proofs.Common.{◌≡◌, ap, ap₂, sym, ◌∙◌, map, length, ◌++◌, List}
use Rattle.std.specs.Borrow.{Bor}
use Rattle.std.proofs.lemmas.List.{length-map}
use Rattle.process_core.specs.Ready.{Name}
use Rattle.prism_tree.specs.Syntax.{File, Const, Var, file_of, const_of, var_of, label_of, rewards_of, module_of}
use Rattle.name_table.specs.Asks.{variables, new_name}
use Rattle.jani_automata.specs.Code.{name_in}
use Rattle.prism_to_jani.proofs.Places.{dropped, first, names_are}
use Rattle.prism_to_jani.proofs.naming.names.Goals as goal

pub returns : goal.returns
returns c =
    let file : File = file_of c.args.file.now in
    let variables_many : length c.args.vars.now ≡ length (variables file) = sym (length-map c.args.vars.now (λ x. var_of x.now)) ∙ ap length c.requires.vars in
    names_are file c.args.entries.now c.drop_from-variables.result.now c.drop_from-labels.result.now c.drop_from-rewards.result.now c.drop_from-modules.result.now c.drop_from-actions.result.now
    c.first_of.result.now c.first_of-2.result.now c.first_of-3.result.now c.first_of-4.result.now c.first_of-5.result.now (name_in c.in_ok-value.value) (name_in c.in_ok-action.action)
    (dropped c.args.entries.now c.drop_from-variables.result.now c.len.result (length file.constants) c.drop_from-variables.ensures (c.len.ensures ∙ sym (length-map c.args.file.now.constants const_of)))
    (dropped c.drop_from-variables.result.now c.drop_from-labels.result.now (length c.args.vars.now) (length (variables file)) c.drop_from-labels.ensures variables_many)
    (dropped c.drop_from-labels.result.now c.drop_from-rewards.result.now c.len-2.result (length file.labels) c.drop_from-rewards.ensures (c.len-2.ensures ∙ sym (length-map c.args.file.now.labels label_of)))
    (dropped c.drop_from-rewards.result.now c.drop_from-modules.result.now c.len-3.result (length file.rewards) c.drop_from-modules.ensures (c.len-3.ensures ∙ sym (length-map c.args.file.now.rewards rewards_of)))
    (dropped c.drop_from-modules.result.now c.drop_from-actions.result.now c.len-4.result (length file.modules) c.drop_from-actions.ensures (c.len-4.ensures ∙ sym (length-map c.args.file.now.modules module_of)))
    (first c.args.entries.now c.first_of.result.now c.len-5.result (length file.constants) c.first_of.ensures (c.len-5.ensures ∙ sym (length-map c.args.file.now.constants const_of)))
    (first c.drop_from-variables.result.now c.first_of-2.result.now (length c.args.vars.now) (length (variables file)) c.first_of-2.ensures variables_many)
    (first c.drop_from-labels.result.now c.first_of-3.result.now c.len-6.result (length file.labels) c.first_of-3.ensures (c.len-6.ensures ∙ sym (length-map c.args.file.now.labels label_of)))
    (first c.drop_from-rewards.result.now c.first_of-4.result.now c.len-7.result (length file.rewards) c.first_of-4.ensures (c.len-7.ensures ∙ sym (length-map c.args.file.now.rewards rewards_of)))
    (first c.drop_from-modules.result.now c.first_of-5.result.now c.len-8.result (length file.modules) c.first_of-5.ensures (c.len-8.ensures ∙ sym (length-map c.args.file.now.modules module_of)))
    (λ x. c.in_ok-value.ensures x
    ∙ ap (λ (l : List Name). new_name l c.args.entries.now x)
    (ap (map (λ (y : Bor Name). y.now)) c.as_slice-2.ensures.value
    ∙ c.in_ok-values.ensures
    ∙ ap₂ (λ (a b : List Name). a ++ b) (ap (λ l. map (λ (k : Const). k.name.name) (map const_of l)) c.as_slice.ensures) (ap (λ (l : List Var). map (λ (y : Var). y.name.name) l) c.requires.vars)))
    (λ x. c.in_ok-action.ensures x ∙ ap (λ (l : List Name). new_name l c.drop_from-actions.result.now x) c.requires.acts)
