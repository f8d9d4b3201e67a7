use Rattle.std.specs.Prelude.{◌≡◌, IfOk}
use Rattle.std.proofs.Common.{◌∙◌, ap, subst}
use Rattle.op_trees.specs.Tree.{Name, replaced, tree}
use Rattle.prism_tree.specs.Syntax.{Expression}
use Rattle.prism_rewriter.specs.Tables.{body_in, name_in}
use Rattle.prop_to_jani.proofs.Marking.{renamed_same}
use Rattle.prop_to_jani.proofs.bodies.own_body.Goals as goal

pub returns : goal.returns
returns c =
    let t = c.args.bodies.now in
    let at = c.args.at in
    subst (λ (e : Expression). IfOk c.expression-body.result (λ r. tree r ≡ e))
    (renamed_same (name_in c.none-same.result) c.none-same.ensures.same (replaced (Name at c.in_ok-copy_of.field-0) (body_in t c.in_ok-copy_of.field-0))
    ∙ ap (λ x. replaced (Name at x) (body_in t x)) c.in_ok-copy_of.ensures)
    c.expression-body.ensures
