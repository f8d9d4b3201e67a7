use Rattle.std.specs.Prelude.{◌≡◌, map, drop}
use Rattle.std.specs.List.{flat_map}
use Rattle.prism_tree.specs.Syntax.{command_of}
use Rattle.prism_check.specs.Typing.{read_in, repeated_by, soonest_at}
use Rattle.prism_check.proofs.writes.judge_repeated.Given as goal

abbrev pub invariant-loop-command : goal.invariant-loop-command
invariant-loop-command l =
    soonest_at l.place l.best (flat_map (repeated_by (read_in l.names)) (map command_of (drop l.command-index l.commands)))
    ≡ soonest_at l.place l.fn.before (flat_map (repeated_by (read_in l.names)) (map command_of l.commands))
