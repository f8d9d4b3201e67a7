use Rattle.std.specs.Prelude.{◌++◌, ◌∷◌, [], bytes_eq}
use Rattle.std.proofs.Common.{refl, ◌∙◌, ap}
use Rattle.std.proofs.lemmas.Map.Text.{btree_map_updates_str}
use Rattle.std.specs.BTreeMap.{get_by}
use Rattle.std.specs.Cmp.Lexicographic.{slice_cmp}
use Rattle.std.specs.Ordering.{nat_cmp}
use Rattle.gathering.proofs.Lists.{put_back}
use Rattle.gathering.specs.Lists.{list_under}
use Rattle.gathering.proofs.name_lists.NameLists.add.Goals as goal

pub returns-in-Ok : goal.returns-in-Ok
returns-in-Ok g c = λ x.
    put_back c.args.name.now x c.args.value (list_under c.args.self.now) (list_under c.take-list.new.self) _
    (get_by (λ k. slice_cmp nat_cmp x k.now) c.take-list.new.self.lists) (get_by (λ k. slice_cmp nat_cmp x k.now) c.insert.new.self)
    (c.in_ok-push.ensures.ok ∙ ap (λ l. l ++ c.args.value ∷ []) c.take-list.ensures.list)
    (c.take-list.ensures.rest x) refl
    (btree_map_updates_str c.args.name.now c.take-list.new.self.lists c.insert.new.self _ c.in-Ok.ensures.updates x)
