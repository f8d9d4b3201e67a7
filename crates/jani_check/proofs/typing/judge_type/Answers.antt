use Rattle.std.specs.Prelude.{not}
use Rattle.std.proofs.Common.{ap}
use Rattle.op_trees.specs.Tree.{tree}
use Rattle.jani_check.proofs.Misfits.{of_type, of_misfit}
use Rattle.jani_check.proofs.typing.judge_type.Goals as goal

pub returns-in-Ok : goal.returns-in-Ok
returns-in-Ok g c =
    of_type (g.N.Names.types c.args.names.now) c.args.wanted (tree c.args.e.now) c.in-Ok.ty (not c.is_wanted.result) c.offset_of.result c.args.best c.sooner_if.result
    c.in-Ok.ensures (ap not c.is_wanted.ensures) c.offset_of.ensures c.sooner_if.ensures

pub returns-in-Err : goal.returns-in-Err
returns-in-Err g c =
    of_misfit (g.N.Names.types c.args.names.now) c.args.wanted (tree c.args.e.now) c.in-Err.at c.args.best c.sooner.result c.in-Err.ensures c.sooner.ensures
