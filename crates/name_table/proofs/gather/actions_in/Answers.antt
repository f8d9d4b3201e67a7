use Rattle.std.proofs.Common.{◌∙◌, sym}
use Rattle.std.specs.List.{flat_map}
use Rattle.std.proofs.lemmas.List.Folds.{flat_map-map}
use Rattle.basics.specs.Lists.{at_take_all}
use Rattle.basics.specs.Options.{if_some}
use Rattle.prism_tree.specs.declared.syntax.PrismCommand.{PrismCommand}
use Rattle.prism_tree.specs.Syntax.{Command, command_of}
use Rattle.name_table.specs.Asks.{action_of}
use Rattle.name_table.proofs.gather.actions_in.Goals as goal

pub returns : goal.returns
returns c =
    c.loop-command.invariant
    ∙ at_take_all (flat_map (λ (r : PrismCommand). if_some (action_of (command_of r)))) c.args.commands.now c.loop-command.command-index c.loop-command-test.false
    ∙ sym (flat_map-map (λ (r : Command). if_some (action_of r)) command_of c.args.commands.now)
