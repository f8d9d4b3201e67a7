use Rattle.std.proofs.Common.{◌∙◌, ap, refl}
use Rattle.std.specs.Prelude.{Option}
use Rattle.name_table.specs.declared.class.NameClass.TheVariants.{Property as OfProperty}
use Rattle.name_table.specs.Entries.{with_next}
use Rattle.name_table.proofs.Gathering.{told_more}
use Rattle.prop_trees.specs.Trees.{Name, JaniProperty}
use Rattle.prop_trees.specs.Syntax.{jani_property_of}
use Rattle.prop_to_prism.proofs.translation.ask_all.Goals as goal

pub loop-property-preserved : goal.loop-property-preserved
loop-property-preserved c =
    told_more (λ (p : JaniProperty). (OfProperty, p.name)) jani_property_of c.args.props.now c.loop-property.property-index c.property-item.result c.args.table.now c.loop-property.table _ OfProperty _
    c.loop-property-test.true c.property-item.is c.loop-property.invariant
    (c.in_ok-keep_or_make.ensures.ok ∙ ap (λ (o : Option Name). with_next c.loop-property.table OfProperty o) c.name_of.ensures) refl
