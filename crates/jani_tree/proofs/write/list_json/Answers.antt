use Rattle.jani_table.specs.Node.{node}
use Rattle.jani_tree.proofs.Copies.{made_next, list_done}
use Rattle.jani_tree.proofs.write.list_json.Goals as goal

pub returns : goal.returns
returns g c = list_done g.T.Written.shown g.T.Written.seen c.args.at _ _ _ c.items.x-index c.as_slice-x-items.ensures c.items-test.false c.items.invariant

pub items-preserved : goal.items-preserved
items-preserved g c =
    made_next node (λ x. g.T.Written.shown (g.T.Written.seen x)) c.as_slice-x-items.result.now c.items.items c.push.new.self c.items.x-index c.x-item.result c.in_ok-item.item
    c.items-test.true c.x-item.is c.in_ok-item.ensures c.in_ok-push.ensures.ok c.items.invariant
