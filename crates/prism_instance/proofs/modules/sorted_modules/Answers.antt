use Rattle.std.proofs.Common.{◌∙◌, ap, map, sym}
use Rattle.basics.specs.Lists.{at_take_all}
use Rattle.gathering.proofs.Loops.{mapped_more}
use Rattle.process_core.specs.Product.{map-map}
use Rattle.prism_tree.specs.Syntax.{Module, module_of}
use Rattle.prism_instance.specs.Shapes.{own_commands}
use Rattle.prism_instance.specs.Sites.{sorted, sorted_of}
use Rattle.prism_instance.proofs.modules.sorted_modules.Goals as goal

pub loop-one-preserved : goal.loop-one-preserved
loop-one-preserved c =
    mapped_more sorted_of (λ (m : Module). sorted (own_commands m)) module_of c.args.modules.now c.loop-one.all.items c.push.new.self.items c.loop-one.one-index c.one-item.result c.in_ok-module.module
    c.loop-one-test.true c.one-item.is c.loop-one.invariant (c.in_ok-module.ensures ∙ ap sorted c.own_commands.ensures) c.in_ok-push.ensures.items

pub returns : goal.returns
returns c =
    c.loop-one.invariant
    ∙ at_take_all (λ l. map (λ (m : Module). sorted (own_commands m)) (map module_of l)) c.args.modules.now c.loop-one.one-index c.loop-one-test.false
    ∙ sym (map-map sorted own_commands (map module_of c.args.modules.now))
