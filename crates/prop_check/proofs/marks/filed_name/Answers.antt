use Rattle.std.proofs.Common.{◌∙◌}
use Rattle.prism_flat.proofs.Contents.{if_ok}
use Rattle.prop_check.proofs.Labelled.{with_quotes, without_quotes}
use Rattle.prop_check.proofs.marks.filed_name.Goals as goal

pub returns-in-Some : goal.returns-in-Some
returns-in-Some c =
    if_ok _ _ (λ text h. h ∙ with_quotes c.args.name.now c.in-Some.label.now c.in-Some.ensures.with c.in-Some.ensures.some) c.filed_label.result c.filed_label.ensures

pub returns-in-None : goal.returns-in-None
returns-in-None c =
    if_ok _ _ (λ text h. h ∙ without_quotes c.args.name.now c.in-None.ensures.without) c.marked.result c.marked.ensures
