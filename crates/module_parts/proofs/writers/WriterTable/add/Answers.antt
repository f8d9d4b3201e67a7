use Rattle.std.proofs.Common.{◌∙◌, ap}
use Rattle.std.specs.Prelude.{nat_eq}
use Rattle.module_parts.specs.Writers.{with_if}
use Rattle.module_parts.proofs.WritersOf.{written_at}
use Rattle.module_parts.proofs.writers.WriterTable.add.Goals as goal

pub returns : goal.returns
returns c = λ i.
    written_at c.grow.new.self.writers.items c.args.number i c.args.element c.index.result.now c.with.result c.in_ok-grow.ensures.room c.index.ensures c.with.ensures
    ∙ ap (with_if (nat_eq i c.args.number) c.args.element) (c.in_ok-grow.ensures.same i)
