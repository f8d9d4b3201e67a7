use Rattle.std.proofs.Common.{◌≡◌, map, take}
use Rattle.state_choices.specs.Views as choices
use Rattle.jani_instance.specs.Views.{IsIn, columns_of, edge_seen, look_at, setting_of}
use Rattle.jani_instance.proofs.edges.commands.Given as goal

abbrev pub invariant-loop-edge : goal.invariant-loop-edge
invariant-loop-edge l = IsIn (setting_of l.here) l.evaluation × (map choices.command_of l.all ≡ map (edge_seen (columns_of (setting_of l.here)) (look_at (setting_of l.here)) l.i) (take l.edge-index l.edges))
