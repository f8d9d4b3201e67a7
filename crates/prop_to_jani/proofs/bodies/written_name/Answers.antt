use Rattle.std.specs.Prelude.{◌≡◌, IfOk, option_copied}
use Rattle.std.proofs.Common.{◌∙◌, ap, subst, sym}
use Rattle.op_trees.specs.Tree.{Name, tree}
use Rattle.prism_tree.specs.Syntax.{Expression}
use Rattle.prop_to_jani.proofs.Marking.{model_body, no_body}
use Rattle.prop_to_jani.proofs.bodies.written_name.Goals as goal

pub returns-in-Some : goal.returns-in-Some
returns-in-Some c =
    subst (λ (e : Expression). IfOk c.model_body.result (λ r. tree r ≡ e))
    (model_body c.args.bodies.now c.args.at c.args.x.now c.in-Some.name.now (sym c.model_name.ensures ∙ ap option_copied c.in-Some.is))
    c.model_body.ensures

pub returns-in_ok-copy_of-in-None : goal.returns-in_ok-copy_of-in-None
returns-in_ok-copy_of-in-None c =
    ap (Name c.args.at) c.in_ok-copy_of-in-None.ensures
    ∙ no_body c.args.bodies.now c.args.at c.args.x.now (sym c.model_name.ensures ∙ ap option_copied c.in-None.is)
