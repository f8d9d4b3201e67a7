use Rattle.prism_tree.specs.Syntax.{file_of}
use Rattle.prism_check.proofs.TypesJudged.{module_next}
use Rattle.prism_check.proofs.types.judge_modules.Goals as goal

pub loop-number-preserved : goal.loop-number-preserved
loop-number-preserved c =
    module_next (file_of c.args.file.now) c.args.all.now c.loop-number.number _ c.loop-number.best _ _
    c.loop-number-test.true c.index-all-number.is c.in_ok-best.ensures c.loop-number.invariant
