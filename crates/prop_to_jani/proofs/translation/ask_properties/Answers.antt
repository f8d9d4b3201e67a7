use Rattle.std.proofs.Common.{◌∙◌, ap, refl}
use Rattle.std.specs.Prelude.{Option}
use Rattle.name_table.specs.declared.class.NameClass.TheVariants.{Property as OfProperty}
use Rattle.name_table.specs.Entries.{with_next}
use Rattle.name_table.proofs.Gathering.{told_more}
use Rattle.prop_trees.specs.Trees.{Name, PrismProperty}
use Rattle.prop_trees.specs.Syntax.{property_of}
use Rattle.prop_to_jani.proofs.translation.ask_properties.Goals as goal

pub loop-p-preserved : goal.loop-p-preserved
loop-p-preserved c =
    told_more (λ (p : PrismProperty). (OfProperty, p.name)) property_of c.args.props.now c.loop-p.p-index c.p-item.result c.args.table.now c.loop-p.table _ OfProperty _ c.loop-p-test.true
    c.p-item.is c.loop-p.invariant
    (c.in_ok-keep_or_make.ensures.ok ∙ ap (λ (o : Option Name). with_next c.loop-p.table OfProperty o) c.name_of.ensures) refl
