use Rattle.std.proofs.Common.{◌++◌, ◌∙◌, ap}
use Rattle.std.specs.Prelude.{nat_eq}
use Rattle.process_core.specs.Instance.{only_if}
use Rattle.gathering.proofs.Lists.{added_at}
use Rattle.gathering.proofs.number_lists.NumberLists.add.Goals as goal

pub returns : goal.returns
returns g c = λ k.
    added_at c.grow.new.self.lists.items c.args.number k c.index_mut.result.now c.push.new.self c.args.value c.in_ok-grow.ensures.room c.index_mut.ensures.value c.in_ok-push.ensures.ok
    ∙ ap (λ l. l ++ only_if (nat_eq k c.args.number) c.args.value) (c.in_ok-grow.ensures.same k)
