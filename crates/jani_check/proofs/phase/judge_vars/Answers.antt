use Rattle.jani_tree.specs.Syntax.{var_of}
use Rattle.name_rules.proofs.Append.{soonest_next}
use Rattle.jani_check.proofs.phase.judge_vars.Goals as goal

pub loop-var-preserved : goal.loop-var-preserved
loop-var-preserved g c =
    soonest_next var_of g.P.Phase.of_var c.args.vars.now c.loop-var.var-index _ _ _ _
    c.loop-var-test.true c.var-item.is c.judge_var-best.ensures c.loop-var.invariant
