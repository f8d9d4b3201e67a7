use Rattle.std.proofs.Common.{sym, subst}
use Rattle.op_trees.specs.Tree.{Tree, tree}
use Rattle.op_trees.specs.Rebuilt.{KeepsAnswers, seen-walked}
use Rattle.op_trees.proofs.Made.{if_ok}
use Rattle.op_trees.proofs.rebuild.map_ops.Goals as goal

pub returns : goal.returns
returns g c =
    let m = g.O.Operator.meaning in
    let k = g.Q.Operator.meaning in
    let new = g.M.OpMap.rebuilt c.args.map.now in
    let e = tree c.args.e.now in
    record {
      tree = c.rebuilt.ensures;
      answers =
          if_ok _ _
          (λ r is. subst (λ (t : Tree _). KeepsAnswers m k (λ x. x) new e t) (sym is) (λ old seen. seen-walked m k (λ x. x) new old seen e))
          c.rebuilt.result c.rebuilt.ensures;
    }
