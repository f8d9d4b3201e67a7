use Rattle.std.proofs.Common.{subst}
use Rattle.prism_tree.specs.Syntax.{file_of}
use Rattle.prism_check.specs.Judged.{AreJudged}
use Rattle.prism_check.proofs.AllFaults.{least_name}
use Rattle.prism_check.proofs.judge.judge_prism.Goals as goal

pub returns-in-Faulty : goal.returns-in-Faulty
returns-in-Faulty c =
    let f = file_of c.args.file.now in
    least_name f c.in-Faulty.fault (subst (AreJudged f) c.in-Faulty.is c.in_ok-fault.ensures)
