use Rattle.std.proofs.Common.{◌≡◌, ◌∙◌, ◌+◌, drop, Bool, true, false, Result, Ok, Err, refl, ap, if◌then◌else◌}
use Rattle.row_check.specs.Rows.{start_verdict}
use Rattle.row_check.proofs.Walked.{from_place}
use Rattle.row_check.proofs.rows.judge_start.Goals as goal

-- a state that isn't initial is passed
passed : {X E : Type 0} (w i f : Bool) (e : E) (r : Result Bool E) (wide here rest : X) → r ≡ (if w then Err e else Ok i) → r ≡ Ok f → f ≡ false → (if w then wide else (if i then here else rest)) ≡ rest
passed true i f e r wide here rest p q h = absurd cc
passed false true f e r wide here rest p q h = absurd cc
passed false false f e r wide here rest p q h = refl

pub loop-i-preserved : goal.loop-i-preserved
loop-i-preserved g c =
    let p = g.S.Steps.process c.args.s.now in
    let i = c.loop-i.i in
    c.loop-i.invariant
    ∙ ap (start_verdict p i) (from_place c.args.states.now i c.index-states-i.result c.loop-i-test.true c.index-states-i.is)
    ∙ passed _ _ c.in-Ok-false.field-0 _ c.initial.result _ _ (start_verdict p (i + 1) (drop (i + 1) c.args.states.now)) c.initial.ensures c.in-Ok-false.is c.in-Ok-false.field-0-test
