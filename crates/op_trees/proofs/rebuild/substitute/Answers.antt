use Rattle.std.proofs.Common.{sym, subst}
use Rattle.op_trees.specs.Tree.{Tree, tree}
use Rattle.op_trees.specs.Seen.{SeesBodies}
use Rattle.op_trees.specs.SeenLaws.{seen-substituted_same}
use Rattle.op_trees.proofs.Made.{if_ok}
use Rattle.op_trees.proofs.rebuild.substitute.Goals as goal

pub returns : goal.returns
returns g c =
    let m = g.O.Operator.meaning in
    let bodies = g.B.Bodies.bodies c.args.bodies.now in
    let e = tree c.args.e.now in
    record {
      tree = c.with_bodies.ensures;
      answers =
          if_ok _ _
          (λ r is. subst (λ (t : Tree _). SeesBodies m bodies e t) (sym is) (seen-substituted_same m bodies e))
          c.with_bodies.result c.with_bodies.ensures;
    }
