use Rattle.std.proofs.Common.{◌∙◌, ap}
use Rattle.op_trees.specs.Tree.{tree}
use Rattle.op_trees.proofs.Unnoted.{unnoted}
use Rattle.op_trees.proofs.rebuild.rebuilt.Goals as goal

pub returns : goal.returns
returns g c = ap (λ p. p.0) c.in_ok-new.ensures.folded ∙ unnoted (g.M.OpMap.rebuilt c.args.map.now) (tree c.args.e.now)
