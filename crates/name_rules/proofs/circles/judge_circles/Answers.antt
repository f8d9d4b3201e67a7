use Rattle.std.specs.Prelude.{map}
use Rattle.name_rules.specs.Circles.{declared_by}
use Rattle.name_rules.specs.Rounds.{count_in}
use Rattle.name_rules.proofs.Ordered.{all_turned}
use Rattle.name_rules.proofs.circles.judge_circles.Goals as goal

pub returns-clause-turns : goal.returns-clause-turns
returns-clause-turns c = λ none.
    let p = c.in_ok-placing.placing in
    all_turned (map declared_by c.args.all.now) (count_in p.waiting) p.placed.items p.turns.items c.in_ok-placing.ensures.placed c.in_ok-placing.ensures.stuck none
