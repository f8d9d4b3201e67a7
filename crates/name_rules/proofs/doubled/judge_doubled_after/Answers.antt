use Rattle.std.specs.Prelude.{map}
use Rattle.name_rules.specs.Names.{named_by}
use Rattle.name_rules.specs.Doubled.{lowest_under}
use Rattle.name_rules.proofs.Clashes.{none_yet, one_more, no_more}
use Rattle.name_rules.proofs.doubled.judge_doubled_after.Goals as goal

pub loop-n-init : goal.loop-n-init
loop-n-init c = λ ns known.
    none_yet c.args.reason ns (lowest_under c.new-lowest.result) c.args.before (map named_by c.args.names.now) c.new-lowest.ensures

pub loop-n-preserved : goal.loop-n-preserved
loop-n-preserved c = λ ns known.
    one_more c.args.reason ns (lowest_under c.loop-n.lowest) (lowest_under c.note.new.self) (lowest_under c.args.earlier.now) c.loop-n.best _ _ _ c.args.names.now
    c.loop-n.n-index c.loop-n-test.true known c.judge-among.ensures c.judge-best.ensures c.in_ok-note.ensures (c.loop-n.invariant ns known)

pub returns : goal.returns
returns c = λ ns known.
    no_more c.args.reason ns (lowest_under c.loop-n.lowest) c.loop-n.best _ c.args.names.now c.loop-n.n-index c.loop-n-test.false (c.loop-n.invariant ns known)
