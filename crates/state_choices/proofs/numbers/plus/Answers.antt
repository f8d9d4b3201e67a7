use Rattle.std.proofs.Common.{◌∙◌, sym, ap}
use Rattle.frac_core.specs.Fraction.{plus}
use Rattle.frac_core.specs.Laws.{nought_plus}
use Rattle.frac_core.specs.Results.{narrow}
use Rattle.state_choices.proofs.numbers.plus.Goals as goal

pub returns-then-same : goal.returns-then-same
returns-then-same c = c.held.ensures ∙ ap narrow (sym (ap (λ a. plus a c.args.b) (c.same.ensures.0 c.if-same.true ∙ c.zero.ensures) ∙ nought_plus c.args.b))
