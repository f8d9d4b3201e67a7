use Rattle.jani_tree.specs.Jani.{IsKeyed}
use Rattle.jani_tree.proofs.build.names_of.Goals as goal
use Rattle.jani_tree.proofs.Lists.{left_begins, left_clean, left_next, items_end, items_clean}

pub items-init : goal.items-init
items-init c = left_begins (IsKeyed c.args.key) c.args.item _ _ c.in_ok-names.ensures (items_clean _ _ _ c.requires.form c.items_of-values.ensures.clean)

pub name_of-requires-clause-clean : goal.name_of-requires-clause-clean
name_of-requires-clause-clean c = left_clean (IsKeyed c.args.key) c.args.item _ c.items.x-index _ _ c.items-test.true c.x-item.is c.items.invariant

pub items-preserved : goal.items-preserved
items-preserved c = left_next (IsKeyed c.args.key) c.args.item _ c.items.x-index _ _ _ _ c.items-test.true c.x-item.is c.in_ok-name.ensures c.in_ok-push.ensures.ok c.items.invariant

pub returns : goal.returns
returns c = items_end (IsKeyed c.args.key) c.args.item _ _ c.items.x-index _ c.items_of-values.ensures.array c.items_of-values.ensures.items c.items-test.false c.items.invariant
