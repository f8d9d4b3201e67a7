use Rattle.std.proofs.Common.{◌≡◌, ◌++◌, map, subst}
use Rattle.std.specs.Prelude.{OnOk}
use Rattle.prism_tree.specs.Syntax as prism
use Rattle.jani_tree.specs.Syntax.{Edge}
use Rattle.module_parts.specs.Code.{element_of}
use Rattle.prism_modules.specs.Commands.{target_commands}
use Rattle.prism_modules.proofs.loops.add_loop.Goals as goal

pub returns : goal.returns
returns c =
    subst (λ (e : Edge). OnOk c.add_target_commands.result
    (map prism.command_of c.add_target_commands.new.all ≡ map prism.command_of c.args.all.now ++ target_commands c.args.names.now (element_of c.args.el.now) e c.args.targets.now))
    c.in_ok-made.ensures c.add_target_commands.ensures
