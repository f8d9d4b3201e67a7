use Rattle.std.specs.Prelude.{map}
use Rattle.std.specs.List.{flat_map}
use Rattle.std.proofs.Common.{◌∙◌, ap}
use Rattle.prism_tree.specs.Syntax.{branch_of, command_of}
use Rattle.prism_check.specs.Typing.{read_in, repeated_by, repeated_in, soonest_at}
use Rattle.prism_check.proofs.TypesPlaced.{at_next}
use Rattle.prism_check.proofs.writes.judge_repeated.Goals as goal

pub loop-command-preserved : goal.loop-command-preserved
loop-command-preserved c =
    at_next c.args.place command_of (repeated_by (read_in c.args.names.now)) c.args.commands.now c.loop-command.command-index _ c.loop-command.best _ _
    c.loop-command-test.true c.command-item.is
    (c.in_ok-best.ensures ∙ ap (λ bs. soonest_at c.args.place c.loop-command.best (flat_map (repeated_in (read_in c.args.names.now)) (map branch_of bs))) c.as_slice.ensures)
    c.loop-command.invariant
