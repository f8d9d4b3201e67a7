use Rattle.std.specs.Prelude.{◌+◌, true, false}
use Rattle.std.proofs.Common.{sym, subst, arith}
use Rattle.std.proofs.lemmas.List.{length-map}
use Rattle.name_rules.specs.Circles.{declared_by}
use Rattle.name_rules.specs.Rounds.{IsTry, IsTurnTo}
use Rattle.name_rules.proofs.Turns.{more_turn, turn_done}
use Rattle.name_rules.proofs.placing.place_some.Goals.{then-branch, else-branch}
use Rattle.name_rules.proofs.placing.place_some.Goals as goal

pub loop-i-preserved : goal.loop-i-preserved
loop-i-preserved c =
    let all = c.args.all.now in
    let n = c.loop-i.i in
    let old = c.args.placing.now in
    let cur = c.loop-i.placing in
    let new = c.try_place.new.placing in (
      c.in_ok-try_place.ensures.placed,
      elim c.if-branch.branch [
        | then-branch w ↦
            subst (IsTurnTo all (n + 1) old new) (sym w.some-is)
            (more_turn all n old cur new c.loop-i.some true c.loop-i.invariant.1 (subst (IsTry all n cur new) w.if-branch.true c.in_ok-try_place.ensures.turn))
        | else-branch w ↦
            subst (IsTurnTo all (n + 1) old new) (sym w.some-is)
            (more_turn all n old cur new c.loop-i.some false c.loop-i.invariant.1 (subst (IsTry all n cur new) w.if-branch.false c.in_ok-try_place.ensures.turn))
      ],
    )

pub returns-clause-turn : goal.returns-clause-turn
returns-clause-turn c =
    let size = length-map c.args.all.now declared_by in
    turn_done c.args.all.now c.loop-i.i c.args.placing.now c.loop-i.placing c.loop-i.some (omega (arith, size, c.loop-i-test.false)) c.loop-i.invariant.1
