use Rattle.std.proofs.Common.{subst, ◌∙◌}
use Rattle.walk_texts.specs.Jobs.{ReadsStateOf, not_initial}
use Rattle.walk_texts.proofs.Starting.{told}
use Rattle.walk_texts.proofs.start.named_start.Goals as goal

pub returns-in-Ok-false : goal.returns-in-Ok-false
returns-in-Ok-false g c =
    let p = g.S.Steps.process c.args.s.now in
    let s = c.in-Some.state.values in
    let e = told (p.has_wide_initial s) (p.is_initial s) c.in-Ok-false.field-0 c.in-Ok-false.ensures in
    not_initial s (subst (ReadsStateOf p c.args.word.now) c.in-Some.is c.in_ok-state.ensures) e.0 (e.1 ∙ c.in-Ok-false.field-0-test)
