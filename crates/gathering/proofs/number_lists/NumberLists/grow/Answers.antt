use Rattle.std.proofs.Common.{◌∙◌, ap, []}
use Rattle.std.specs.Prelude.{slice_get, unwrap_or}
use Rattle.gathering.proofs.Lists.{room_behind}
use Rattle.gathering.proofs.number_lists.NumberLists.grow.Goals as goal

pub grow-preserved : goal.grow-preserved
grow-preserved g c = λ k.
    ap (λ ls. unwrap_or (slice_get ls k) []) c.in_ok-push.ensures.items
    ∙ room_behind c.grow.self.lists.items c.new.result k c.new.ensures
    ∙ c.grow.invariant k
