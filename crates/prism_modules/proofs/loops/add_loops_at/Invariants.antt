use Rattle.std.proofs.Common.{◌≡◌, ◌++◌, map, take}
use Rattle.std.specs.List.{flat_map}
use Rattle.gathering.specs.Lists.{list_under}
use Rattle.prism_tree.specs.Syntax as prism
use Rattle.jani_tree.specs.Syntax.{location_of}
use Rattle.jani_loops.specs.Looped.{lent_edge, loop_with}
use Rattle.module_parts.specs.Code.{element_of}
use Rattle.prism_modules.specs.Commands.{target_commands}
use Rattle.prism_modules.proofs.loops.add_loops_at.Given as goal

abbrev pub invariant-loop-l : goal.invariant-loop-l
invariant-loop-l l =
    map prism.command_of l.all
    ≡ map prism.command_of l.initial.all
    ++ flat_map (λ p. target_commands l.names (element_of l.el) (loop_with l.action p.name (map lent_edge (list_under l.edges p.name.name))) l.targets) (map location_of (take l.l-index l.l-items))
