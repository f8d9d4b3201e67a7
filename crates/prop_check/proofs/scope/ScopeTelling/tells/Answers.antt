use Rattle.std.proofs.Common.{◌∙◌, ap}
use Rattle.name_rules.proofs.Maps.{at}
use Rattle.prism_check.specs.Checked.{Checked}
use Rattle.prism_check.specs.NameFaults.{is_among, values}
use Rattle.prop_trees.specs.PrismFaults.{is_known}
use Rattle.prop_check.proofs.Knowing.{known_label, known_value}
use Rattle.prop_check.proofs.scope.ScopeTelling.tells.Goals as goal

pub returns-in-Some : goal.returns-in-Some
returns-in-Some c =
    let x = c.args.name.now in
    known_label c.self.inside.names.value.file x c.in-Some.label.now c.has.result c.in-Some.ensures.with c.in-Some.ensures.some
    (c.has.ensures ∙ at c.self.invariant.labels c.in-Some.label.now)
    ∙ ap (λ (k : Checked). is_known k.file x) c.self.view_is

pub returns-in-None : goal.returns-in-None
returns-in-None c =
    let x = c.args.name.now in
    known_value c.self.inside.names.value.file x c.has-in-None.result c.in-None.ensures.without
    (c.has-in-None.ensures ∙ ap (λ (k : Checked). is_among (values k.file) x) c.deref.ensures)
    ∙ ap (λ (k : Checked). is_known k.file x) c.self.view_is
