use Rattle.name_rules.specs.Names.{named_by}
use Rattle.name_rules.specs.Unknown.{unless_known}
use Rattle.name_rules.proofs.Append.{soonest_at}
use Rattle.name_rules.proofs.Clashes.{no_entry}
use Rattle.name_rules.proofs.unknown.judge_uses.Goals as goal

pub loop-n-preserved : goal.loop-n-preserved
loop-n-preserved g c =
    soonest_at named_by (unless_known (g.K.Telling.tells c.args.known.now)) c.args.names.now c.loop-n.n-index no_entry _ _ _
    c.loop-n-test.true c.judge_name-best.ensures c.loop-n.invariant
