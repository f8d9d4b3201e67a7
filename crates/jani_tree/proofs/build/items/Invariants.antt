use Rattle.jani_tree.proofs.Lists.{Left}
use Rattle.jani_tree.proofs.build.items.Given as goal

abbrev pub invariant-items : goal.invariant-items
invariant-items g l = Left (λ v x. g.T.Build.is v (g.T.Build.seen x)) g.T.Build.form l.values l.x-index l.trees
