use Rattle.std.specs.Prelude.{codes}
use Rattle.std.proofs.Common.{◌∙◌, ap}
use Rattle.name_rules.specs.Names.{Name, add}
use Rattle.std.specs.Prelude.{Bool}
use Rattle.prop_check.proofs.labels.Labels.given.Goals as goal

pub returns : goal.returns
returns c =
    c.in_ok-add-2.ensures
    ∙ ap (λ (h : Name → Bool). add h (codes "init")) (c.in_ok-add.ensures ∙ ap (λ (h : Name → Bool). add h (codes "deadlock")) c.none-labels.ensures)
