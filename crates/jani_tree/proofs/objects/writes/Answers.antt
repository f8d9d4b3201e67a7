use Rattle.jani_tree.specs.Syntax.{write_of}
use Rattle.jani_tree.specs.Jani.{IsWrite}
use Rattle.jani_tree.proofs.objects.writes.Goals as goal
use Rattle.jani_tree.proofs.Lists.{left_begins, left_clean, left_next, items_end, items_clean, items_seen}

pub items-init : goal.items-init
items-init c = left_begins (λ v x. IsWrite v (write_of x)) c.args.item _ _ c.in_ok-trees.ensures (items_clean _ _ _ c.requires.form c.items_of-values.ensures.clean)

pub write-requires-clause-clean : goal.write-requires-clause-clean
write-requires-clause-clean c = left_clean (λ v x. IsWrite v (write_of x)) c.args.item _ c.items.x-index _ _ c.items-test.true c.x-item.is c.items.invariant

pub items-preserved : goal.items-preserved
items-preserved c = left_next (λ v x. IsWrite v (write_of x)) c.args.item _ c.items.x-index _ _ _ _ c.items-test.true c.x-item.is c.in_ok-tree.ensures c.in_ok-push.ensures.ok c.items.invariant

pub returns : goal.returns
returns c = items_seen IsWrite write_of _ _ (items_end (λ v x. IsWrite v (write_of x)) c.args.item _ _ c.items.x-index _ c.items_of-values.ensures.array c.items_of-values.ensures.items c.items-test.false c.items.invariant)
