use Rattle.jani_tree.proofs.Copies.{made_next, made_end}
use Rattle.jani_tree.proofs.automata.copy_list.Goals as goal

pub items-preserved : goal.items-preserved
items-preserved g c =
    made_next g.T.Copied.seen g.T.Copied.seen c.args.items.now c.items.copies c.push.new.self c.items.x-index c.x-item.result c.in_ok-copy.copy c.items-test.true c.x-item.is
    c.in_ok-copy.ensures c.in_ok-push.ensures.ok c.items.invariant

pub returns : goal.returns
returns g c = made_end g.T.Copied.seen g.T.Copied.seen c.args.items.now c.items.copies c.items.x-index c.items-test.false c.items.invariant
