use Rattle.std.specs.Prelude.{◌≡◌, [], ◌∷◌}
use Rattle.std.specs.List.{flat_map}
use Rattle.std.proofs.Common.{◌∙◌, ap}
use Rattle.std.proofs.lemmas.Result.{IfOk-weaker}
use Rattle.bridge_io.specs.declared.reason.Reason.TheVariants.{TwiceNamed}
use Rattle.name_rules.specs.Doubled.{doubled}
use Rattle.name_rules.specs.Least.{soonest}
use Rattle.jani_tree.specs.Syntax.{element_of}
use Rattle.jani_check.specs.NameFaults.{repeated_enabled}
use Rattle.jani_check.proofs.Parts.{each_itself}
use Rattle.jani_check.proofs.doubled.AcceptedOnceRuleJaniElement.judge.Goals as goal

pub returns : goal.returns
returns c =
    IfOk-weaker c.judge_names_of.result
    (λ best. best ≡ soonest c.args.best (doubled TwiceNamed (flat_map (λ n. n ∷ []) c.as_slice.result.now)))
    (λ best. best ≡ soonest c.args.best (repeated_enabled (element_of c.args.e.now)))
    (λ best h. h ∙ ap (λ ns. soonest c.args.best (doubled TwiceNamed ns)) (each_itself _ c.args.e.now.enable c.as_slice.ensures))
    c.judge_names_of.ensures
