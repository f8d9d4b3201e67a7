use Rattle.std.proofs.Common.{◌∙◌, sym, ap, cond, get_or, ◌++◌, ◌∷◌, [], ◌-◌, Vec, ℕ, Global}
use Rattle.std.proofs.lemmas.Bool.{le-ltb, lt-ltb}
use Rattle.prism_check.proofs.Lists.{turns_left}
use Rattle.prism_check.proofs.names.formula_turns.Goals as goal
use Rattle.prism_check.proofs.names.formula_turns.Goals.{then-turn-constants+in_ok-push, else-turn-constants}

pub loop-turn-preserved : goal.loop-turn-preserved
loop-turn-preserved c =
    let old = c.loop-turn.list.items in
    let x = get_or c.args.turns.now c.loop-turn.turn-index 0 in
    turns_left c.args.constants _ old _ c.args.turns.now c.loop-turn.turn-index c.loop-turn-test.true c.loop-turn.invariant
    (elim c.if-turn-constants.branch [
      | then-turn-constants+in_ok-push w ↦ ap (λ (v : Vec ℕ Global). v.items) w.list-is ∙ w.in_ok-push.ensures.items ∙ ap (λ b. cond b old (old ++ (x - c.args.constants) ∷ [])) (sym (le-ltb x c.args.constants w.if-turn-constants.true))
      | else-turn-constants w ↦ ap (λ (v : Vec ℕ Global). v.items) w.list-is ∙ ap (λ b. cond b old (old ++ (x - c.args.constants) ∷ [])) (sym (lt-ltb x c.args.constants w.if-turn-constants.false))
    ])
