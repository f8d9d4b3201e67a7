use Rattle.std.proofs.Common.{◌∙◌, sym, ap}
use Rattle.frac_core.specs.Fraction.{times}
use Rattle.frac_core.specs.Laws.{unit_times}
use Rattle.frac_core.specs.Results.{narrow}
use Rattle.state_choices.proofs.numbers.times.Goals as goal

pub returns-then-same : goal.returns-then-same
returns-then-same c = c.held.ensures ∙ ap narrow (sym (ap (λ a. times a c.args.b) (c.same.ensures.0 c.if-same.true ∙ c.one.ensures) ∙ unit_times c.args.b))
