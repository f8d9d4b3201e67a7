use Rattle.std.proofs.Common.{◌≡◌, ◌++◌, map, take}
use Rattle.prism_tree.specs.Syntax as prism
use Rattle.name_table.specs.PrismAsks.{name_at}
use Rattle.prism_modules.specs.Commands.{never}
use Rattle.prism_modules.proofs.served.add_blocking.Given as goal

abbrev pub invariant-loop-t : goal.invariant-loop-t
invariant-loop-t l =
    map prism.command_of l.all ≡ map prism.command_of l.initial.all ++ map (λ i. never (name_at l.names.entries.actions.now i)) (take l.t-index l.blocked)
