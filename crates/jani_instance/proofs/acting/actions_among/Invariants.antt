use Rattle.std.proofs.Common.{◌≤◌, map, take}
use Rattle.jani_tree.specs.Syntax.{edge_of}
use Rattle.jani_instance.specs.Actions.{AreNumbered, actions_among}
use Rattle.jani_instance.proofs.acting.actions_among.Given as goal

abbrev pub invariant-loop-edge : goal.invariant-loop-edge
invariant-loop-edge l = AreNumbered (actions_among (map edge_of (take l.edge-index l.these))) l.all × (l.all.count ≤ l.edge-index)
