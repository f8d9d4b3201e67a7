use Rattle.std.proofs.Common.{refl, None}
use Rattle.std.specs.Borrow.{Bor}
use Rattle.gathering.proofs.Loops.{kept_step}
use Rattle.prism_tree.specs.declared.syntax.PrismCommand.{PrismCommand}
use Rattle.prism_tree.specs.Syntax.{command_of}
use Rattle.prism_instance.specs.Shapes.{acts}
use Rattle.prism_instance.proofs.modules.silent_commands.Goals as goal

pub loop-command-preserved : goal.loop-command-preserved
loop-command-preserved c =
    kept_step (λ (r : Bor PrismCommand). command_of r.now) (acts None) command_of c.args.commands.now c.loop-command.command-index c.command-item.result _ c.is_silent-wanted.result
    c.loop-command.these.items c.keep_if.new.all.items c.loop-command-test.true c.command-item.is c.loop-command.invariant refl c.is_silent-wanted.ensures c.in_ok-keep_if.ensures
