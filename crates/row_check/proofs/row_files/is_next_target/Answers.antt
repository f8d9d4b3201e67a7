use Rattle.std.proofs.Common.{◌∙◌, ap, cond, true}
use Rattle.std.specs.Ordering.{nat_cmp}
use Rattle.std.specs.BTreeMap.{is_at}
use Rattle.row_check.proofs.TargetsKept.{keeps_more}
use Rattle.row_check.proofs.row_files.is_next_target.Goals as goal

pub returns-in-Ok-clause-keeps : goal.returns-in-Ok-clause-keeps
returns-in-Ok-clause-keeps c = λ t.
    keeps_more c.args.targets.now c.insert.new.self c.args.before.now c.args.row.now c.requires.keeps c.requires.follows
    (λ q. c.in-Ok.ensures.updates.0 q ∙ ap (cond (is_at (nat_cmp c.args.row.now.target) q) true) (c.forget_others.ensures q))
