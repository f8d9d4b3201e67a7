use Rattle.std.proofs.Common.{◌∙◌}
use Rattle.prism_flat.proofs.Contents.{if_ok}
use Rattle.prop_check.proofs.Labelled.{filed_deadlock, filed_initial, filed_other}
use Rattle.prop_check.proofs.marks.filed_label.Goals as goal

pub returns-then-is_initial : goal.returns-then-is_initial
returns-then-is_initial c =
    if_ok _ _ (λ text h. h ∙ filed_initial c.args.name.now c.args.label.now c.is_initial.result c.is_initial.ensures c.if-is_initial.true)
    c.copy_of.result c.copy_of.ensures

pub returns-then-is_deadlock : goal.returns-then-is_deadlock
returns-then-is_deadlock c =
    if_ok _ _
    (λ text h. h ∙ filed_deadlock c.args.name.now c.args.label.now c.is_initial.result c.is_deadlock.result c.is_initial.ensures c.if-is_initial.false c.is_deadlock.ensures c.if-is_deadlock.true)
    c.copy_of-then-is_deadlock.result c.copy_of-then-is_deadlock.ensures

pub returns : goal.returns
returns c =
    if_ok _ _
    (λ text h. h ∙ filed_other c.args.name.now c.args.label.now c.is_initial.result c.is_deadlock.result c.is_initial.ensures c.if-is_initial.false c.is_deadlock.ensures c.if-is_deadlock.false)
    c.marked.result c.marked.ensures
