use Rattle.std.specs.Prelude.{◌++◌, map}
use Rattle.std.proofs.Common.{◌∙◌, ap}
use Rattle.basics.specs.Lists.{at_take_all}
use Rattle.process_core.specs.Instance.{only_if}
use Rattle.gathering.specs.Lists.{list_for}
use Rattle.edge_tables.specs.Tables.{takes_part}
use Rattle.edge_tables.proofs.TakingPart.{part_more}
use Rattle.edge_tables.proofs.participants.add_for_each.Goals as goal

pub loop-element-preserved : goal.loop-element-preserved
loop-element-preserved g c = λ k.
    part_more c.as_slice-parts.result.now c.loop-element.element c.index-parts-element.result k c.args.known.now _ _ _ c.loop-element-test.true c.index-parts-element.is
    (c.loop-element.invariant k) (c.in_ok-add_for.ensures k)

pub returns : goal.returns
returns g c = λ k.
    c.loop-element.invariant k
    ∙ ap (λ l. map (λ r. r.now) (list_for c.args.all.now k) ++ l)
    (at_take_all (λ ps. only_if (takes_part k ps) c.args.known.now) c.as_slice-parts.result.now c.loop-element.element c.loop-element-test.false
    ∙ ap (λ ps. only_if (takes_part k ps) c.args.known.now) c.as_slice-parts.ensures)
