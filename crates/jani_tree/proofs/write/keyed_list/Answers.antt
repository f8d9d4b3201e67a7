use Rattle.jani_tree.specs.Canonical.{keyed_node}
use Rattle.jani_tree.proofs.Copies.{keyed_done}
use Rattle.jani_tree.proofs.write.keyed_list.Goals as goal

pub returns : goal.returns
returns c = keyed_done (keyed_node c.args.key) c.args.at _ _ _ c.items.n-index c.as_slice-n-items.ensures c.items-test.false c.items.invariant
