use Rattle.std.specs.Prelude.{map}
use Rattle.std.proofs.Common.{refl, ◌∙◌, ap}
use Rattle.std.proofs.lemmas.List.{map-append}
use Rattle.name_rules.specs.Circles.{declared_by}
use Rattle.jani_tree.specs.Syntax.{const_of}
use Rattle.jani_check.specs.Circles.{const_declared}
use Rattle.gathering.proofs.Loops.{map_left, none_left}
use Rattle.jani_check.proofs.circles.declarations.Goals as goal

pub loop-c-preserved : goal.loop-c-preserved
loop-c-preserved c =
    map_left const_declared const_of _ (map declared_by c.loop-c.all.items) (map declared_by c.push.new.self.items) c.args.constants.now c.loop-c.c-index c.c-item.result _
    c.loop-c-test.true c.c-item.is c.loop-c.invariant (ap (map declared_by) c.in_ok-push.ensures.items ∙ map-append declared_by c.loop-c.all.items _) c.in_ok-declaration.ensures

pub returns : goal.returns
returns c = none_left (λ l. map const_declared (map const_of l)) _ (map declared_by c.loop-c.all.items) c.args.constants.now c.loop-c.c-index refl c.loop-c-test.false c.loop-c.invariant
