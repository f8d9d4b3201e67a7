use Rattle.std.specs.Prelude.{get_or}
use Rattle.std.proofs.Common.{◌∙◌, ap}
use Rattle.name_rules.specs.Doubled.{by_lowest}
use Rattle.name_rules.proofs.Clashes.{no_entry, few_more, few_all}
use Rattle.name_rules.proofs.doubled.judge_few.Goals as goal

pub loop-i-preserved : goal.loop-i-preserved
loop-i-preserved c =
    let e = get_or c.args.names.now c.loop-i.i no_entry in
    few_more c.args.reason c.loop-i.best _ _ c.args.names.now c.loop-i.i c.loop-i-test.true
    (c.judge_one-best.ensures ∙ ap (λ o. by_lowest c.args.reason c.loop-i.best o e.at) c.lowest_among.ensures) c.loop-i.invariant

pub returns : goal.returns
returns c = few_all c.args.reason c.loop-i.best _ c.args.names.now c.loop-i.i c.loop-i-test.false c.loop-i.invariant
