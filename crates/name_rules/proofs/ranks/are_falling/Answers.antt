use Rattle.std.proofs.Common.{◌∙◌, sym}
use Rattle.name_rules.specs.Rounds.{rank_in}
use Rattle.name_rules.proofs.Ranked.{falling_more}
use Rattle.name_rules.proofs.ranks.are_falling.Goals as goal

pub loop-declaration-preserved : goal.loop-declaration-preserved
loop-declaration-preserved c =
    falling_more c.args.all.now (rank_in c.args.ranks.now) c.loop-declaration.declaration-index c.declaration-item.result c.rank-bound.result
    c.loop-declaration-test.true c.declaration-item.is c.rank-bound.ensures (sym c.some_use.ensures ∙ c.if-some_use.false) c.loop-declaration.invariant
