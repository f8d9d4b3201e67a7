use Rattle.std.proofs.Common.{arith, refl, ap, sym, ◌∙◌, map, length}
use Rattle.std.proofs.lemmas.List.{length-map}
use Rattle.prism_tree.specs.Syntax.{file_of, const_of, label_of, rewards_of}
use Rattle.prop_trees.specs.Syntax.{property_of}
use Rattle.prop_to_jani.proofs.Entries.{all_many, model_part, properties_part, rewards_part}
use Rattle.prop_to_jani.proofs.translation.parts_of.Goals as goal

pub overflow_sub-behind : goal.overflow_sub-behind
overflow_sub-behind c =
    let n = ap length c.requires.entries ∙ all_many (file_of c.args.file.now) (map property_of c.args.props.now) in
    let m = length-map c.args.props.now property_of in
    omega (arith, n, m)

pub returns-clause-model : goal.returns-clause-model
returns-clause-model c =
    model_part (file_of c.args.file.now) (map property_of c.args.props.now) c.args.all.now (length c.args.props.now) _ c.requires.entries (sym (length-map c.args.props.now property_of)) refl
    c.first_of-model.result.now c.first_of-model.ensures

pub returns-clause-rewards : goal.returns-clause-rewards
returns-clause-rewards c =
    rewards_part (file_of c.args.file.now) (map property_of c.args.props.now) c.args.all.now (length c.args.props.now) _ c.requires.entries (sym (length-map c.args.props.now property_of)) refl
    c.first_of-model.result.now c.drop_from-named.result.now c.first_of.result.now c.drop_from.result.now c.drop_from-rewards.result.now
    c.len.result c.args.vars c.len-2.result c.len-3.result c.first_of-model.ensures c.drop_from.ensures c.drop_from-named.ensures c.drop_from-rewards.ensures c.first_of.ensures
    (c.len.ensures ∙ sym (length-map c.args.file.now.constants const_of)) c.requires.vars (c.len-2.ensures ∙ sym (length-map c.args.file.now.labels label_of))
    (c.len-3.ensures ∙ sym (length-map c.args.file.now.rewards rewards_of))

pub returns-clause-properties : goal.returns-clause-properties
returns-clause-properties c =
    properties_part (file_of c.args.file.now) (map property_of c.args.props.now) c.args.all.now (length c.args.props.now) _ c.requires.entries (sym (length-map c.args.props.now property_of)) refl
    c.drop_from-2.result.now c.drop_from-2.ensures
