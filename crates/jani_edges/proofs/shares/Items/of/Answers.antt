use Rattle.std.specs.Prelude.{List, ◌++◌}
use Rattle.std.proofs.Common.{◌∙◌, ap, sym}
use Rattle.process_core.specs.Instance.{only_if}
use Rattle.prism_tree.specs.Syntax.{Item, item_of}
use Rattle.jani_translation.specs.Automata.{for_action}
use Rattle.jani_edges.proofs.Kept.{kept_more}
use Rattle.jani_edges.proofs.shares.Items.of.Goals as goal

pub loop-i-preserved : goal.loop-i-preserved
loop-i-preserved c = λ x.
    c.in_ok-add.ensures x
    ∙ ap (λ (l : List Item). l ++ only_if (for_action x c.i-item.result.on) (item_of c.i-item.result)) (c.loop-i.invariant x)
    ∙ sym (kept_more (λ (i : Item). for_action x i.on) item_of c.args.items.now c.loop-i.i-index c.i-item.result c.loop-i-test.true c.i-item.is)
