use Rattle.row_check.proofs.TargetsKept.{last_follows}
use Rattle.row_check.proofs.row_files.may_follow.Goals as goal

pub returns-in-Some : goal.returns-in-Some
returns-in-Some c =
    let e = last_follows c.args.before.now c.in-Some.last.now c.args.row.now c.in-Some.ensures.value in
    (λ h. e.1 (c.follows.ensures.0 h), λ h. c.follows.ensures.1 (e.0 h))
