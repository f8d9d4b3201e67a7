use Rattle.std.proofs.Common.{◌∙◌, sym, subst}
use Rattle.name_rules.proofs.Soonest.{soonest_none, soonest_some}
use Rattle.jani_tree.specs.declared.syntax.JaniFile.{JaniFile}
use Rattle.jani_tree.specs.Syntax.{file_of}
use Rattle.prism_targets.specs.Refused.{refused}
use Rattle.jani_to_prism.specs.Translation.{IsTranslation}
use Rattle.jani_to_prism.proofs.translation.judged.Goals as goal

pub returns-in-Some-clause-least : goal.returns-in-Some-clause-least
returns-in-Some-clause-least c = soonest_some (refused (file_of c.args.checked.now)) c.in-Some.fault (sym c.in_ok-fault.ensures ∙ c.in-Some.is)

pub returns-in_ok-text-in-None-clause-accepted : goal.returns-in_ok-text-in-None-clause-accepted
returns-in_ok-text-in-None-clause-accepted c = soonest_none (refused (file_of c.args.checked.now)) (sym c.in_ok-fault.ensures ∙ c.in-None.is)

pub returns-in_ok-text-in-None-clause-translation : goal.returns-in_ok-text-in-None-clause-translation
returns-in_ok-text-in-None-clause-translation c = subst (λ (f : JaniFile). IsTranslation c.in_ok-text-in-None.text (file_of f)) c.file.ensures.same c.in_ok-text-in-None.ensures
