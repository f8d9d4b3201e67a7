use Rattle.std.specs.Prelude.{false, List, map, ◌||◌}
use Rattle.std.specs.List.{list_any}
use Rattle.std.proofs.Common.{◌∙◌, ap}
use Rattle.name_rules.proofs.Maps.{at}
use Rattle.gathering.proofs.Loops.{any_more}
use Rattle.prism_tree.specs.declared.syntax.PrismItem.{PrismItem}
use Rattle.prism_tree.specs.Syntax.{Item, Rewards, item_of, rewards_of}
use Rattle.name_rules.specs.Names.{has_name}
use Rattle.jani_translation.specs.Automata.{for_action}
use Rattle.jani_edges.proofs.partners.item_actions.Goals as goal

pub loop-r-preserved : goal.loop-r-preserved
loop-r-preserved c = λ x.
    any_more (λ (r : Rewards). list_any (λ (i : Item). for_action x i.on) r.items) rewards_of c.args.rewards.now c.loop-r.r-index c.r-item.result false _ _ c.loop-r-test.true c.r-item.is
    (c.loop-r.invariant x)
    (c.in_ok-note_items.ensures x
    ∙ ap (λ (l : List PrismItem). has_name c.loop-r.seen x || list_any (λ (i : Item). for_action x i.on) (map item_of l)) c.as_slice.ensures)

pub loop-r-init : goal.loop-r-init
loop-r-init c = at c.new-seen.ensures
