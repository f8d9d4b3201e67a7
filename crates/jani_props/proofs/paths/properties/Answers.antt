use Rattle.jani_props.specs.declared.table.PropForm.TheVariants as F
use Rattle.jani_props.specs.Syntax.{written_of}
use Rattle.jani_props.specs.Spelled.{IsWritten}
use Rattle.jani_tree.proofs.Lists.{items_seen}
use Rattle.jani_props.proofs.Lists.{left_begins, left_clean, left_next, items_end}
use Rattle.jani_props.proofs.paths.properties.Goals as goal

pub items-init : goal.items-init
items-init c = left_begins (λ v x. IsWritten v (written_of x)) F.Property _ _ c.in_ok-list.ensures.items c.items-values.ensures.clean

pub property-requires : goal.property-requires
property-requires c = left_clean (λ v x. IsWritten v (written_of x)) F.Property _ c.items.x-index _ _ c.items-test.true c.x-item.is c.items.invariant

pub items-preserved : goal.items-preserved
items-preserved c = left_next (λ v x. IsWritten v (written_of x)) F.Property _ c.items.x-index _ _ _ _ c.items-test.true c.x-item.is c.in_ok-written.ensures c.in_ok-push.ensures.items c.items.invariant

pub returns : goal.returns
returns c = items_seen IsWritten written_of _ _ (items_end (λ v x. IsWritten v (written_of x)) F.Property _ _ c.items.x-index _ c.items-values.ensures.array c.items-values.ensures.items c.items-test.false c.items.invariant)
