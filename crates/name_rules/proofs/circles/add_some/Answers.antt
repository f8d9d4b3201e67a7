use Rattle.std.specs.Prelude.{◌+◌, true, false}
use Rattle.std.proofs.Common.{sym, subst, arith}
use Rattle.std.proofs.lemmas.List.{length-map}
use Rattle.name_rules.specs.Names.{has_name}
use Rattle.name_rules.specs.Circles.{declared_by}
use Rattle.name_rules.specs.Rounds.{IsLeadingTry, IsLeadingTurnTo}
use Rattle.name_rules.proofs.Turns.{leading_more_turn, leading_turn_done}
use Rattle.name_rules.proofs.circles.add_some.Goals.{then-branch, else-branch}
use Rattle.name_rules.proofs.circles.add_some.Goals as goal

pub loop-i-preserved : goal.loop-i-preserved
loop-i-preserved c =
    let all = c.args.all.now in
    let n = c.loop-i.i in
    let old = has_name c.args.leading.now in
    let cur = has_name c.loop-i.leading in
    let new = has_name c.try_add.new.leading in (
      λ y h. c.in_ok-try_add.ensures.leading y (c.loop-i.invariant.0 y h),
      elim c.if-branch.branch [
        | then-branch w ↦
            subst (IsLeadingTurnTo all (n + 1) old new) (sym w.some-is)
            (leading_more_turn all n old cur new c.loop-i.some true c.loop-i.invariant.1 (subst (IsLeadingTry all n cur new) w.if-branch.true c.in_ok-try_add.ensures.turn))
        | else-branch w ↦
            subst (IsLeadingTurnTo all (n + 1) old new) (sym w.some-is)
            (leading_more_turn all n old cur new c.loop-i.some false c.loop-i.invariant.1 (subst (IsLeadingTry all n cur new) w.if-branch.false c.in_ok-try_add.ensures.turn))
      ],
    )

pub returns-clause-turn : goal.returns-clause-turn
returns-clause-turn c =
    let size = length-map c.args.all.now declared_by in
    leading_turn_done c.args.all.now c.loop-i.i (has_name c.args.leading.now) (has_name c.loop-i.leading) c.loop-i.some (omega (arith, size, c.loop-i-test.false)) c.loop-i.invariant.1
