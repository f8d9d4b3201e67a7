use Rattle.std.proofs.Common.{◌∙◌, sym, ap}
use Rattle.basics.specs.Options.{is_some-map}
use Rattle.bridge_io.specs.declared.reason.Reason.TheVariants.{TwoInits}
use Rattle.op_trees.specs.Tree.{tree}
use Rattle.prism_tree.specs.Syntax.{var_of}
use Rattle.name_rules.specs.Least.{fault_if, soonest}
use Rattle.name_rules.proofs.Append.{soonest_next}
use Rattle.prism_check.specs.NameFaults.{own_start}
use Rattle.prism_check.proofs.starts.judge_vars.Goals as goal

pub loop-var-preserved : goal.loop-var-preserved
loop-var-preserved c =
    soonest_next var_of own_start c.args.vars.now c.loop-var.var-index _ _ _ _
    c.loop-var-test.true c.var-item.is
    (c.sooner_if-best.ensures
    ∙ ap (λ b. soonest c.loop-var.best (fault_if b c.var-item.result.name.at TwoInits)) (c.is_some.ensures ∙ sym (is_some-map tree c.var-item.result.start)))
    c.loop-var.invariant
