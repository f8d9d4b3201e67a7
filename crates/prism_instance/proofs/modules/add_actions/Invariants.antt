use Rattle.std.proofs.Common.{◌≡◌, ◌++◌, map, take}
use Rattle.std.specs.List.{flat_map}
use Rattle.basics.specs.Options.{if_some}
use Rattle.prism_check.specs.Moment.{action_of}
use Rattle.prism_names.specs.Names.{unchanged}
use Rattle.prism_tree.specs.Syntax.{command_of}
use Rattle.prism_instance.specs.Sites.{texts_of}
use Rattle.prism_instance.proofs.modules.add_actions.Given as goal

abbrev pub invariant-loop-command : goal.invariant-loop-command
invariant-loop-command l = texts_of l.all.items ≡ texts_of l.initial.all.items ++ flat_map (λ c. if_some (action_of unchanged c)) (map command_of (take l.command-index l.commands))
