use Rattle.std.specs.Prelude.{◌≡◌, [], map}
use Rattle.std.proofs.Common.{◌∙◌, ap, subst}
use Rattle.name_rules.specs.Circles.{AreTurns, circles, declared_by}
use Rattle.jani_instance.proofs.constants.constant_order.Goals as goal

pub returns : goal.returns
returns c =
    subst (λ ds. circles ds ≡ [] → AreTurns ds c.in_ok-circles.circles.turns.items) (ap (map declared_by) c.deref.ensures.value ∙ c.in_ok-all.ensures)
    c.in_ok-circles.ensures.turns
