use Rattle.std.specs.Prelude.{bytes_eq}
use Rattle.std.proofs.lemmas.Map.Text.{btree_map_updates_str}
use Rattle.std.specs.BTreeMap.{get_by}
use Rattle.std.specs.Cmp.Lexicographic.{slice_cmp}
use Rattle.std.specs.Ordering.{nat_cmp}
use Rattle.gathering.proofs.Lists.{taken_out}
use Rattle.gathering.proofs.name_lists.NameLists.take.Goals as goal

pub returns-in-Some-clause-rest : goal.returns-in-Some-clause-rest
returns-in-Some-clause-rest g c = λ x.
    taken_out (bytes_eq c.args.name.now x) (get_by (λ k. slice_cmp nat_cmp x k.now) c.args.self.now.lists) (get_by (λ k. slice_cmp nat_cmp x k.now) c.remove.new.self)
    (btree_map_updates_str c.args.name.now c.args.self.now.lists c.remove.new.self _ c.remove.ensures.updates x)
