use Rattle.std.proofs.Common.{None, refl}
use Rattle.jani_tree.specs.declared.syntax.JaniElement.{JaniElement}
use Rattle.name_table.specs.declared.class.NameClass.TheVariants.{Location}
use Rattle.name_table.specs.PrismAsks.{location_ask}
use Rattle.name_table.proofs.Gathering.{told_more}
use Rattle.name_table.proofs.prism_asking.ask_locations.Goals as goal

pub loop-e-preserved : goal.loop-e-preserved
loop-e-preserved c =
    told_more location_ask (λ (e : JaniElement). e.name) c.args.elements.now c.loop-e._e-index _ _ c.loop-e.table _ Location None c.loop-e-test.true c._e-item.is c.loop-e.invariant c.in_ok-keep_or_make.ensures.ok refl
