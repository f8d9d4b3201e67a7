use Rattle.std.specs.Prelude.{[], ◌∷◌, ◌++◌, map, IfOk}
use Rattle.std.specs.List.{flat_map}
use Rattle.std.proofs.Common.{◌≡◌, ◌∙◌, sym, ap, subst}
use Rattle.std.proofs.lemmas.List.Folds.{flat_map-map}
use Rattle.bridge_io.specs.declared.reason.Reason.TheVariants.{TwiceNamed}
use Rattle.basics.specs.Options.{if_some}
use Rattle.prism_tree.specs.Syntax.{file_of, label_of, module_of, rewards_of}
use Rattle.prism_flat.specs.Names.{module_name}
use Rattle.name_rules.specs.Least.{soonest}
use Rattle.name_rules.specs.Doubled.{doubled}
use Rattle.prism_check.specs.NameFaults.{doubled_pairs, given_labels, values}
use Rattle.name_rules.proofs.Append.{five_parts}
use Rattle.prism_check.proofs.Declared.{each_name}
use Rattle.prism_check.proofs.doubled.judge_twice.Goals as goal

pub returns : goal.returns
returns c =
    let f = c.args.file.now in
    subst (λ o. IfOk c.judge_pairs.result (λ best. best ≡ o))
    (ap (λ ms. soonest c.in_ok-among_rewards.among_rewards (flat_map doubled_pairs (map module_of ms))) c.as_slice-4.ensures
    ∙ five_parts
    (doubled TwiceNamed (values (file_of f))) (doubled TwiceNamed (map module_name (map module_of f.modules)))
    (doubled TwiceNamed (given_labels ++ map (λ l. l.name) (map label_of f.labels)))
    (doubled TwiceNamed (flat_map (λ r. if_some r.name) (map rewards_of f.rewards)))
    (flat_map doubled_pairs (map module_of f.modules)) c.args.before _ _ _ _
    (c.in_ok-among_values.ensures ∙ ap (λ ns. soonest c.args.before (doubled TwiceNamed ns)) c.requires)
    (c.in_ok-among_modules.ensures ∙ ap (λ ns. soonest c.in_ok-among_values.among_values (doubled TwiceNamed ns))
    (ap (flat_map (λ m. module_name (module_of m) ∷ [])) c.as_slice.ensures ∙ each_name module_name module_of f.modules))
    (c.in_ok-among_labels.ensures ∙ ap (λ ls. soonest c.in_ok-among_modules.among_modules (doubled TwiceNamed (given_labels ++ map (λ l. l.name) (map label_of ls)))) c.as_slice-2.ensures)
    (c.in_ok-among_rewards.ensures ∙ ap (λ ns. soonest c.in_ok-among_labels.among_labels (doubled TwiceNamed ns))
    (ap (flat_map (λ r. if_some r.name)) c.as_slice-3.ensures ∙ sym (flat_map-map (λ r. if_some r.name) rewards_of f.rewards))))
    c.judge_pairs.ensures
