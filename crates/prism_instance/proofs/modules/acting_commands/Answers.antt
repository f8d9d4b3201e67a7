use Rattle.std.proofs.Common.{◌≡◌, ◌∙◌, ◌++◌, List, ℕ, [], ap, length, map}
use Rattle.std.specs.Prelude.{unwrap_or}
use Rattle.std.proofs.Math.Path.{fun_ext}
use Rattle.gathering.proofs.Loops.{flat_seen}
use Rattle.name_rules.specs.Names.{under}
use Rattle.prism_tree.specs.Syntax.{command_of}
use Rattle.prism_instance.specs.Sites.{acted_by, acted_of, number_among, texts_of}
use Rattle.prism_instance.proofs.modules.acting_commands.Goals as goal

pub loop-command-preserved : goal.loop-command-preserved
loop-command-preserved c =
    let one = command_of c.command-item.result in
    let number = number_among (texts_of c.args.actions.now) in
    let by : (λ (x : List ℕ). unwrap_or (under c.in_ok-numbers.numbers x) (length c.args.actions.now)) ≡ number = fun_ext (λ x. c.in_ok-numbers.ensures x) in
    flat_seen (acted_by number) command_of c.args.commands.now c.loop-command.command-index c.command-item.result [] (map acted_of c.loop-command.all.items) (map acted_of c.add_acting.new.all.items)
    c.loop-command-test.true c.command-item.is c.loop-command.invariant
    (c.in_ok-add_acting.ensures ∙ ap (λ f. map acted_of c.loop-command.all.items ++ acted_by f one) by)
