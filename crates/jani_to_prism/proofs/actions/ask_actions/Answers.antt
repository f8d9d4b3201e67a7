use Rattle.std.proofs.Common.{◌∙◌, ap, refl}
use Rattle.std.specs.Prelude.{Option}
use Rattle.process_core.specs.Ready.{Name}
use Rattle.name_table.specs.declared.class.NameClass.TheVariants.{Action}
use Rattle.name_table.specs.Entries.{with_next}
use Rattle.name_table.proofs.Gathering.{told_more}
use Rattle.jani_to_prism.specs.Asks.{vector_in, vector_ask}
use Rattle.jani_to_prism.proofs.actions.ask_actions.Goals as goal

pub loop-t-preserved : goal.loop-t-preserved
loop-t-preserved c =
    told_more vector_ask vector_in c.args.targets.now c.loop-t.t-index _ _ c.loop-t.table _ Action _ c.loop-t-test.true c.t-item.is c.loop-t.invariant
    (c.in_ok-keep_or_make.ensures.ok ∙ ap (λ (o : Option Name). with_next c.loop-t.table Action o) c.old_name.ensures) refl
