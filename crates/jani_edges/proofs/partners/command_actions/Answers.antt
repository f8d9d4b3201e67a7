use Rattle.std.specs.Prelude.{Some, false}
use Rattle.process_core.specs.Ready.{same_label}
use Rattle.name_rules.proofs.Maps.{at}
use Rattle.gathering.proofs.Loops.{any_more}
use Rattle.prism_tree.specs.Syntax.{Command, command_of}
use Rattle.name_table.specs.Asks.{action_of}
use Rattle.jani_edges.proofs.partners.command_actions.Goals as goal

pub loop-c-preserved : goal.loop-c-preserved
loop-c-preserved c = λ x.
    any_more (λ (r : Command). same_label (Some x) (action_of r)) command_of c.args.commands.now c.loop-c.c-index c.c-item.result false _ _ c.loop-c-test.true c.c-item.is
    (c.loop-c.invariant x) (c.in_ok-note_action.ensures x)

pub loop-c-init : goal.loop-c-init
loop-c-init c = at c.new-seen.ensures
