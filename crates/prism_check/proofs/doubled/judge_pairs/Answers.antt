use Rattle.prism_tree.specs.Syntax.{module_of}
use Rattle.prism_check.specs.NameFaults.{doubled_pairs}
use Rattle.name_rules.proofs.Append.{soonest_next}
use Rattle.prism_check.proofs.doubled.judge_pairs.Goals as goal

pub loop-entry-preserved : goal.loop-entry-preserved
loop-entry-preserved c =
    soonest_next module_of doubled_pairs c.args.modules.now c.loop-entry.entry-index _ _ _ _
    c.loop-entry-test.true c.entry-item.is c.in_ok-best.ensures c.loop-entry.invariant
