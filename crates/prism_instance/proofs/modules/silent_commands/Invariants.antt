use Rattle.std.proofs.Common.{◌≡◌, map, take, None}
use Rattle.std.specs.List.{filter}
use Rattle.prism_tree.specs.Syntax.{command_of}
use Rattle.prism_instance.specs.Shapes.{acts}
use Rattle.prism_instance.specs.Views.{commands_of}
use Rattle.prism_instance.proofs.modules.silent_commands.Given as goal

abbrev pub invariant-loop-command : goal.invariant-loop-command
invariant-loop-command l = commands_of l.these.items ≡ filter (acts None) (map command_of (take l.command-index l.commands))
