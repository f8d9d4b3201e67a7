use Rattle.std.proofs.Common.{◌∙◌, ap, List}
use Rattle.std.specs.Prelude.{slice_get, unwrap_or}
use Rattle.module_parts.specs.declared.writers.Writers.{Writers}
use Rattle.module_parts.specs.declared.writers.Writers.TheVariants.{Nobody}
use Rattle.module_parts.proofs.WritersOf.{room_behind}
use Rattle.module_parts.proofs.writers.WriterTable.grow.Goals as goal

pub grow-preserved : goal.grow-preserved
grow-preserved c = λ i.
    ap (λ (ws : List Writers). unwrap_or (slice_get ws i) Nobody) c.in_ok-push.ensures.items
    ∙ room_behind c.grow.self.writers.items i
    ∙ c.grow.invariant i
