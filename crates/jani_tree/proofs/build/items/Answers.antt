use Rattle.jani_tree.proofs.build.items.Goals as goal
use Rattle.jani_tree.proofs.Lists.{left_begins, left_clean, left_next, items_end, items_clean, items_seen}

pub items-init : goal.items-init
items-init g c = left_begins (λ v x. g.T.Build.is v (g.T.Build.seen x)) g.T.Build.form _ _ c.in_ok-trees.ensures (items_clean _ _ _ c.requires.form c.items_of-values.ensures.clean)

pub build-requires : goal.build-requires
build-requires g c = left_clean (λ v x. g.T.Build.is v (g.T.Build.seen x)) g.T.Build.form _ c.items.x-index _ _ c.items-test.true c.x-item.is c.items.invariant

pub items-preserved : goal.items-preserved
items-preserved g c = left_next (λ v x. g.T.Build.is v (g.T.Build.seen x)) g.T.Build.form _ c.items.x-index _ _ _ _ c.items-test.true c.x-item.is c.in_ok-tree.ensures c.in_ok-push.ensures.ok c.items.invariant

pub returns : goal.returns
returns g c = items_seen g.T.Build.is g.T.Build.seen _ _ (items_end (λ v x. g.T.Build.is v (g.T.Build.seen x)) g.T.Build.form _ _ c.items.x-index _ c.items_of-values.ensures.array c.items_of-values.ensures.items c.items-test.false c.items.invariant)
