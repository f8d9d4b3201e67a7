use Rattle.std.specs.Prelude.{[], ◌∷◌, ◌++◌, map, IfOk}
use Rattle.std.specs.List.{flat_map}
use Rattle.std.proofs.Common.{◌≡◌, ◌∙◌, ap, subst, rules}
use Rattle.bridge_io.specs.declared.reason.Reason.TheVariants.{TwiceNamed}
use Rattle.prism_tree.specs.Syntax.{label_of}
use Rattle.name_rules.specs.Least.{soonest}
use Rattle.name_rules.specs.Doubled.{doubled}
use Rattle.prism_check.specs.NameFaults.{given_labels}
use Rattle.name_rules.specs.Names.{named_by}
use Rattle.prism_check.proofs.Declared.{each_name}
use Rattle.prism_check.proofs.doubled.judge_labels.Goals as goal

pub returns : goal.returns
returns c =
    let given : map named_by c.push-2.new.self.items ≡ given_labels = search rules in
    subst (λ ns. IfOk c.judge_doubled.result (λ best. best ≡ soonest c.args.before (doubled TwiceNamed ns)))
    (ap (map named_by) c.deref.ensures.value ∙ c.in_ok-add_names_of.ensures
    ∙ ap (λ ns. ns ++ flat_map (λ l. l.name ∷ []) c.args.labels.now) given
    ∙ ap (λ ns. given_labels ++ ns) (each_name (λ l. l.name) label_of c.args.labels.now))
    c.judge_doubled.ensures
