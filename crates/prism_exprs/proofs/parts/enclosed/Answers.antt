use Rattle.std.proofs.Common.{refl}
use Rattle.op_trees.specs.Tree.{tree}
use Rattle.prism_exprs.specs.Levels.{more}
use Rattle.prism_exprs.proofs.Laws.{leaves}
use Rattle.prism_exprs.proofs.Loops.{begin, parses_via}
use Rattle.prism_exprs.proofs.Arguments.{end_stops, end_leads}
use Rattle.prism_exprs.proofs.parts.enclosed.Goals as goal

pub returns-in_err-_close : goal.returns-in_err-_close
returns-in_err-_close c = leaves _ _ _ _ _ _ c.from_residual.ensures (end_stops _ _ (tree c.args.e) _ (begin _ _ _) c.in_err-_close.ensures)

pub returns : goal.returns
returns c =
    let x = tree c.args.e in
    parses_via _ _ _ (more 0) _ _ c.closed.result (end_leads _ _ _ x x _ (begin _ _ _) c.in_ok-_close.ensures refl) c.closed.ensures
