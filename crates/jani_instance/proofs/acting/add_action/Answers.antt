use Rattle.std.proofs.Common.{◌∙◌, ap, sym, refl}
use Rattle.std.specs.Option.{is_some}
use Rattle.jani_instance.proofs.Numbering.{kept_action, more_action}
use Rattle.jani_instance.proofs.acting.add_action.Goals as goal

pub returns-then-is_some-clause-numbered : goal.returns-then-is_some-clause-numbered
returns-then-is_some-clause-numbered c = λ l h.
    kept_action c.args.all.now c.args.name.now l h (ap is_some (sym c.get.ensures) ∙ sym c.is_some.ensures ∙ c.if-is_some.true)

pub returns-clause-numbered : goal.returns-clause-numbered
returns-clause-numbered c = λ l h.
    more_action c.args.all.now _ c.args.name.now l h (ap is_some (sym c.get.ensures) ∙ sym c.is_some.ensures ∙ c.if-is_some.false) refl c.in_ok-put.ensures
