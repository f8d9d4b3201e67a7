use Rattle.jani_tree.specs.Syntax.{write_of}
use Rattle.jani_tree.specs.Jani.{IsWrite}
use Rattle.jani_tree.proofs.Lists.{Left}
use Rattle.jani_tree.proofs.objects.writes.Given as goal

abbrev pub invariant-items : goal.invariant-items
invariant-items l = Left (λ v x. IsWrite v (write_of x)) l.item l.values l.x-index l.trees
