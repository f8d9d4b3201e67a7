use Rattle.std.specs.Prelude.{◌≡◌, [], ◌∷◌}
use Rattle.std.specs.List.{flat_map}
use Rattle.std.proofs.Common.{◌∙◌, ap}
use Rattle.std.proofs.lemmas.Result.{IfOk-weaker}
use Rattle.name_rules.specs.Least.{soonest}
use Rattle.name_rules.specs.Names.{has_name}
use Rattle.jani_tree.specs.Syntax.{element_of}
use Rattle.jani_check.specs.NameFaults.{unknown_enabled, unless_known}
use Rattle.jani_check.proofs.Parts.{each_itself}
use Rattle.jani_check.proofs.unknown.AcceptedRuleJaniElement.judge.Goals as goal

pub returns : goal.returns
returns c =
    let known = has_name c.args.self.now.actions.now in
    IfOk-weaker c.judge_uses_of.result
    (λ best. best ≡ soonest c.args.best (flat_map (unless_known known) (flat_map (λ n. n ∷ []) c.as_slice.result.now)))
    (λ best. best ≡ soonest c.args.best (unknown_enabled known (element_of c.args.e.now)))
    (λ best h. h ∙ ap (λ ns. soonest c.args.best (flat_map (unless_known known) ns)) (each_itself _ c.args.e.now.enable c.as_slice.ensures))
    c.judge_uses_of.ensures
