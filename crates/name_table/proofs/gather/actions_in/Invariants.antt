use Rattle.std.proofs.Common.{◌≡◌, map, take}
use Rattle.std.specs.List.{flat_map}
use Rattle.basics.specs.Options.{if_some}
use Rattle.prism_tree.specs.Syntax.{command_of}
use Rattle.name_table.specs.Asks.{action_of}
use Rattle.name_table.proofs.gather.actions_in.Given as goal

abbrev pub invariant-loop-command : goal.invariant-loop-command
invariant-loop-command l = map (λ x. x.now) l.all.items ≡ flat_map (λ c. if_some (action_of (command_of c))) (take l.command-index l.commands)
