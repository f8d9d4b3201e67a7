use Rattle.std.proofs.Common.{ap, sym, subst}
use Rattle.op_trees.specs.Tree.{Tree, tree}
use Rattle.op_trees.specs.Rebuilt.{KeepsAnswers, seen-walked}
use Rattle.op_trees.proofs.Made.{if_ok}
use Rattle.op_trees.proofs.walk.fold_ops.Goals as goal

pub returns : goal.returns
returns g c =
    let m = g.O.Operator.meaning in
    let k = g.Q.Operator.meaning in
    let step = g.M.Fold.step c.args.map.now in
    let e = tree c.args.e.now in
    record {
      folded = c.folded.ensures;
      answers =
          if_ok _ _
          (λ r is. subst (λ (t : Tree _). KeepsAnswers m k (λ p. p.0) step e t) (sym (ap (λ p. p.0) is)) (λ old seen. seen-walked m k (λ p. p.0) step old seen e))
          c.folded.result c.folded.ensures;
    }
