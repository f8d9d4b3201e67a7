use Rattle.std.proofs.Common.{◌≡◌, ◌++◌, map, take}
use Rattle.prism_tree.specs.Syntax as prism
use Rattle.jani_tree.specs.Syntax as jani
use Rattle.module_parts.specs.Code.{element_of}
use Rattle.prism_modules.specs.Commands.{target_commands}
use Rattle.prism_modules.proofs.served.add_target_commands.Given as goal

abbrev pub invariant-loop-t : goal.invariant-loop-t
invariant-loop-t l =
    map prism.command_of l.all ≡ map prism.command_of l.initial.all ++ target_commands l.names (element_of l.el) (jani.edge_of l.e) (take l.t-index l.targets)
