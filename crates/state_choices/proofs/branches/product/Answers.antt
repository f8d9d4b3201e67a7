use Rattle.std.proofs.Common.{◌∙◌, sym, ap, map}
use Rattle.std.specs.Borrow.{Bor}
use Rattle.std.proofs.lemmas.List.{at_drop_all}
use Rattle.basics.specs.Lists.{drop_item}
use Rattle.frac_core.specs.Fraction.{times}
use Rattle.frac_core.specs.Results.{narrow}
use Rattle.process_core.specs.Choices.{weight_of}
use Rattle.process_core.specs.Answers.{only_wide}
use Rattle.state_choices.specs.declared.data.Update.{Update}
use Rattle.state_choices.specs.Views.{update_of}
use Rattle.state_choices.proofs.Partial.{products_run, so_far_none, so_far_more, so_far_wide, so_far_all}
use Rattle.state_choices.proofs.branches.product.Goals as goal

pub loop-u-init : goal.loop-u-init
loop-u-init c = so_far_none products_run (map (λ (u : Bor Update). weight_of (update_of u.now)) c.args.updates.now) c.one-weight.result c.one-weight.ensures

pub loop-u-preserved : goal.loop-u-preserved
loop-u-preserved c =
    so_far_more products_run (map (λ (u : Bor Update). weight_of (update_of u.now)) c.args.updates.now) _ _ _ c.loop-u.weight c.in-Ok.more
    (ap (map (λ (u : Bor Update). weight_of (update_of u.now))) (drop_item c.args.updates.now c.loop-u.u-index c.u-item.result c.loop-u-test.true c.u-item.is))
    (ap (λ w. narrow (times c.loop-u.weight w)) (sym c.weight_of.ensures) ∙ sym c.times.ensures ∙ c.in-Ok.is) c.loop-u.invariant

pub returns-in-Err : goal.returns-in-Err
returns-in-Err c =
    ap only_wide
    (so_far_wide products_run (map (λ (u : Bor Update). weight_of (update_of u.now)) c.args.updates.now) _ _ _ c.loop-u.weight c.in-Err.field-0
    (ap (map (λ (u : Bor Update). weight_of (update_of u.now))) (drop_item c.args.updates.now c.loop-u.u-index c.u-item.result c.loop-u-test.true c.u-item.is))
    (ap (λ w. narrow (times c.loop-u.weight w)) (sym c.weight_of.ensures) ∙ sym c.times.ensures ∙ c.in-Err.is) c.loop-u.invariant)

pub returns : goal.returns
returns c =
    let e = so_far_all products_run (map (λ (u : Bor Update). weight_of (update_of u.now)) c.args.updates.now) _ c.loop-u.weight (at_drop_all (map (λ (u : Bor Update). weight_of (update_of u.now))) c.args.updates.now c.loop-u.u-index c.loop-u-test.false) c.loop-u.invariant in
    (ap only_wide e.0, e.1)
