use Rattle.std.specs.Prelude.{map}
use Rattle.std.proofs.Common.{◌∙◌, ap}
use Rattle.name_rules.specs.Circles.{circles, declared_by}
use Rattle.name_rules.specs.Least.{soonest}
use Rattle.jani_tree.specs.Syntax.{const_of}
use Rattle.jani_check.proofs.SameCircles.{same_circles}
use Rattle.jani_check.proofs.circles.judge_constants.Goals as goal

pub returns : goal.returns
returns c =
    c.in_ok-circles.ensures.best
    ∙ ap (λ ds. soonest c.args.before (circles ds)) (ap (map declared_by) c.deref.ensures.value ∙ c.in_ok-all.ensures)
    ∙ ap (soonest c.args.before) (same_circles (map const_of c.args.constants.now))
