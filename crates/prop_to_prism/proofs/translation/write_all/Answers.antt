use Rattle.std.proofs.Common.{arith}
use Rattle.prop_to_prism.specs.Code.{name_in, names_of}
use Rattle.prop_to_prism.proofs.Loops.{written_more}
use Rattle.prop_to_prism.proofs.translation.write_all.Goals as goal

pub loop-i-preserved : goal.loop-i-preserved
loop-i-preserved c =
    written_more (name_in c.args.names.now) (names_of c.args.rewards.now) c.args.props.now c.args.entries.now c.loop-i.i c.index-props-i.result _ c.args.out.now.items c.loop-i.out.items _
    (omega arith) c.index-props-i.is c.entry_at.ensures c.loop-i.invariant c.in_ok-write_at.ensures
