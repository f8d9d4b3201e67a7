use Rattle.std.specs.Prelude.{map}
use Rattle.std.specs.Option.{option_map}
use Rattle.std.proofs.Common.{◌∙◌, ap, sym}
use Rattle.basics.specs.Options.{is_some-map}
use Rattle.op_trees.specs.Tree.{tree}
use Rattle.prism_flat.specs.Scene.{has_condition}
use Rattle.prism_tree.specs.Syntax as prism
use Rattle.jani_tree.specs.Syntax as jani
use Rattle.name_table.specs.Asks.{NewNames, variables}
use Rattle.jani_automata.specs.Code.{names_in}
use Rattle.prism_to_jani.proofs.Filed.{constants_by, same_variables, of_parts, variables_by}
use Rattle.prism_to_jani.proofs.translation.translated_by.Goals as goal

pub returns : goal.returns
returns c =
    let n : NewNames = names_in c.args.names.now in
    let f : prism.File = prism.file_of c.args.file.now in
    of_parts n f (jani.file_of c.in_ok-all.all) c.in_ok-actions.actions (map jani.const_of c.in_ok-constants.constants)
    (map jani.var_of c.in_ok-variables.variables) (option_map tree c.in_ok-restrict.restrict) (map jani.automaton_of c.in_ok-automata.automata) (map jani.vector_of c.in_ok-vectors.vectors)
    c.in_ok-all.ensures
    c.in_ok-actions.ensures
    (c.in_ok-constants.ensures ∙ ap (λ l. constants_by n (map prism.const_of l)) c.as_slice.ensures)
    (c.in_ok-variables.ensures
    ∙ ap (λ b. variables_by n b (map (λ x. prism.var_of x.now) c.args.vars.now) (map prism.label_of c.as_slice-2.result.now) (map prism.rewards_of c.as_slice-3.result.now)) (c.is_some.ensures ∙ sym (is_some-map tree c.args.file.now.init))
    ∙ same_variables n (has_condition f) (map (λ x. prism.var_of x.now) c.args.vars.now) (variables f) (map prism.label_of c.as_slice-2.result.now) f.labels
    (map prism.rewards_of c.as_slice-3.result.now) f.rewards
    c.requires.vars (ap (map prism.label_of) c.as_slice-2.ensures) (ap (map prism.rewards_of) c.as_slice-3.ensures))
    c.in_ok-restrict.ensures
    c.in_ok-automata.ensures
    c.in_ok-vectors.ensures
