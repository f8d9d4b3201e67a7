use Rattle.std.proofs.Common.{refl}
use Rattle.jani_table.specs.declared.table.Form.TheVariants as F
use Rattle.jani_table.specs.Node.{nodes}
use Rattle.jani_tree.specs.Jani.{IsPart}
use Rattle.jani_tree.proofs.build.parts_of.Goals as goal
use Rattle.jani_tree.proofs.build.parts_of.Goals.{in-Null, in_default+in_ok-part-in_default}
use Rattle.jani_tree.proofs.Lists.{left_begins, left_clean, left_next, items_end, items_clean}
use Rattle.jani_tree.proofs.Operation.{part_null, part_same}

pub items-init : goal.items-init
items-init c = left_begins IsPart F.NameOrNull _ _ c.in_ok-parts.ensures (items_clean F.Synchronise F.NameOrNull (nodes c.items_of-values.result.now) refl c.items_of-values.ensures.clean)

pub part_in-requires : goal.part_in-requires
part_in-requires c = left_clean IsPart F.NameOrNull _ c.items.x-index _ _ c.items-test.true c.x-item.is c.items.invariant

pub items-preserved : goal.items-preserved
items-preserved c = elim c.match-x.branch [
  | in-Null w ↦ left_next IsPart F.NameOrNull _ c.items.x-index _ _ _ _ c.items-test.true c.x-item.is (part_null _ _ _ w.in-Null.is w.part-is) c.in_ok-push.ensures.ok c.items.invariant
  | in_default+in_ok-part-in_default w ↦ left_next IsPart F.NameOrNull _ c.items.x-index _ _ _ _ c.items-test.true c.x-item.is (part_same _ _ _ w.part-is w.in_ok-part-in_default.ensures) c.in_ok-push.ensures.ok c.items.invariant
]

pub returns : goal.returns
returns c = items_end IsPart F.NameOrNull _ _ c.items.x-index _ c.items_of-values.ensures.array c.items_of-values.ensures.items c.items-test.false c.items.invariant
