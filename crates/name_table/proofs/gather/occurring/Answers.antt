use Rattle.std.proofs.Common.{◌∙◌, sym}
use Rattle.std.specs.List.{flat_map}
use Rattle.std.proofs.lemmas.List.Folds.{flat_map-map}
use Rattle.basics.specs.Lists.{at_take_all}
use Rattle.basics.specs.Options.{if_some}
use Rattle.prism_tree.specs.declared.syntax.PrismModule.{PrismModule}
use Rattle.prism_tree.specs.Syntax.{Body, Command}
use Rattle.name_table.specs.Asks.{action_of}
use Rattle.name_table.specs.Gathered.{body_in}
use Rattle.name_table.proofs.gather.occurring.Goals as goal

pub returns : goal.returns
returns c =
    c.loop-m.invariant
    ∙ at_take_all (flat_map (λ (m : PrismModule). flat_map (λ (r : Command). if_some (action_of r)) (body_in m).commands)) c.args.modules.now c.loop-m.m-index c.loop-m-test.false
    ∙ sym (flat_map-map (λ (m : Body). flat_map (λ (r : Command). if_some (action_of r)) m.commands) body_in c.args.modules.now)
