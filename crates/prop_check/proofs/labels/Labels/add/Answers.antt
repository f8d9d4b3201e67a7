use Rattle.std.specs.Prelude.{bytes_eq}
use Rattle.std.proofs.Math.Path.{fun_ext}
use Rattle.std.proofs.lemmas.Map.Text.{btree_map_updates_str}
use Rattle.std.specs.BTreeMap.{get_by}
use Rattle.std.specs.Cmp.Lexicographic.{slice_cmp}
use Rattle.std.specs.Ordering.{nat_cmp}
use Rattle.name_rules.proofs.Maps.{added}
use Rattle.prop_check.proofs.labels.Labels.add.Goals as goal

pub returns-in-Ok : goal.returns-in-Ok
returns-in-Ok c =
    added (λ x. get_by (λ k. slice_cmp nat_cmp x k.now) c.args.self.now.names) (λ x. get_by (λ k. slice_cmp nat_cmp x k.now) c.insert.new.self) c.args.name.now
    (fun_ext (λ q. btree_map_updates_str c.args.name.now c.args.self.now.names c.insert.new.self _ c.in-Ok.ensures.updates q))
