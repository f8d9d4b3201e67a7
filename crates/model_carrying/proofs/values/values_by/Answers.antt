use Rattle.std.proofs.Common.{arith}
use Rattle.name_rules.specs.Names.{under}
use Rattle.model_carrying.proofs.GivenThere.{one_more, here_ends, there_ends}
use Rattle.model_carrying.proofs.values.values_by.Goals as goal

pub loop-i-preserved : goal.loop-i-preserved
loop-i-preserved c = record {
  values = one_more c.args.here.now c.args.there.now c.loop-i.i (under c.args.given.now) _ _ c.loop-i.invariant.values c.index-here-i.result c.index-there-i.result _ (omega arith) (omega arith) c.index-here-i.is c.index-there-i.is c.in_ok-push_value.ensures;
  within = omega arith;
}

pub returns : goal.returns
returns c = here_ends c.args.here.now c.args.there.now c.loop-i.i (under c.args.given.now) _ _ c.loop-i.invariant.values (omega arith)

pub returns-then-i-there : goal.returns-then-i-there
returns-then-i-there c = there_ends c.args.here.now c.args.there.now c.loop-i.i (under c.args.given.now) _ _ c.loop-i.invariant.values (omega arith)
