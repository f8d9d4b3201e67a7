use Rattle.op_trees.specs.Tree.{tree}
use Rattle.op_trees.specs.TypeLaws.{typed_is}
use Rattle.op_trees.proofs.typing.type_of.Goals as goal

pub returns : goal.returns
returns g c =
    let m = g.O.Operator.meaning in
    let types = g.N.Names.types c.args.names.now in
    let e = tree c.args.e.now in
    rw c.type_or_misfit.ensures (typed_is m types e)
