use Rattle.prism_tree.specs.Syntax.{Item, item_of}
use Rattle.basics.specs.Booleans.{or_none}
use Rattle.name_rules.specs.Names.{has_name}
use Rattle.jani_translation.specs.Automata.{for_action}
use Rattle.jani_edges.proofs.partners.note_items.Goals as goal
use Rattle.gathering.proofs.Loops.{any_more}

pub loop-i-init : goal.loop-i-init
loop-i-init c = λ x. or_none (has_name c.args.seen.now x)

pub loop-i-preserved : goal.loop-i-preserved
loop-i-preserved c = λ x.
    any_more (λ (i : Item). for_action x i.on) item_of c.args.items.now c.loop-i.i-index c.i-item.result (has_name c.args.seen.now x) _ _ c.loop-i-test.true c.i-item.is
    (c.loop-i.invariant x) (c.in_ok-note_item.ensures x)
