use Rattle.std.proofs.Common.{◌≡◌, map, take}
use Rattle.std.specs.List.{flat_map}
use Rattle.prism_tree.specs.Syntax.{command_of}
use Rattle.prism_instance.specs.Sites.{acted_by, acted_of, number_among, texts_of}
use Rattle.prism_instance.proofs.modules.acting_commands.Given as goal

abbrev pub invariant-loop-command : goal.invariant-loop-command
invariant-loop-command l = map acted_of l.all.items ≡ flat_map (acted_by (number_among (texts_of l.actions))) (map command_of (take l.command-index l.commands))
