use Rattle.prism_tree.specs.Syntax.{file_of, module_of}
use Rattle.prism_check.specs.NameFaults.{unknown_in}
use Rattle.name_rules.proofs.Append.{soonest_next}
use Rattle.prism_check.proofs.scope.judge_modules.Goals as goal

pub loop-entry-preserved : goal.loop-entry-preserved
loop-entry-preserved c =
    soonest_next module_of (unknown_in (file_of c.args.file.now)) c.args.all.now c.loop-entry.entry-index _ _ _ _
    c.loop-entry-test.true c.entry-item.is c.in_ok-best.ensures c.loop-entry.invariant
