use Rattle.std.proofs.Common.{◌∙◌, ap, refl}
use Rattle.std.specs.Prelude.{Option}
use Rattle.process_core.specs.Ready.{Name}
use Rattle.name_table.specs.Entries.{with_next}
use Rattle.name_table.proofs.Gathering.{told_more}
use Rattle.name_table.proofs.ask.ask_each.Goals as goal

pub loop-thing-preserved : goal.loop-thing-preserved
loop-thing-preserved g c =
    told_more (λ (o : Option Name). (c.args.class, o)) g.T.HasName.called c.args.things.now c.loop-thing.thing-index _ _ c.loop-thing.table _ c.args.class _ c.loop-thing-test.true
    c.thing-item.is c.loop-thing.invariant (c.in_ok-keep_or_make.ensures.ok ∙ ap (λ (o : Option Name). with_next c.loop-thing.table c.args.class o) c.name.ensures) refl
