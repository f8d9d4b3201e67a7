use Rattle.std.proofs.Common.{arith, ◌∙◌, IsSome, refl, ap, sym, subst, codes}
use Rattle.std.proofs.lemmas.Grind.{common_steps}
use Rattle.bridge_io.specs.Tally.{IsCalm, no_counts, with_call, with_failing, with_fault}
use Rattle.bridge.proofs.tests.steady.after_its_failing_call.Goals as goal

once : IsCalm (with_fault (with_call (with_failing no_counts 1)))
once = λ k d below. grind (arith, common_steps)

pub returns : goal.returns
returns c =
    let left = ap (λ left. left (codes "f")) c.in-Err.ensures.same ∙ c.fail_call.ensures.left (codes "f") ∙ c.in_ok-put.ensures.ok in
    let told = c.in_ok-fail_call.ensures.ok ∙ ap (λ n. with_failing n 1) (c.put.ensures.counts ∙ c.new-shelf.ensures.counts) in
    let counts = c.in-Err.ensures.fault ∙ ap (λ n. with_fault (with_call n)) told in
    (subst IsSome (sym left) refl, subst IsCalm (sym counts) once)
