use Rattle.std.specs.Prelude.{◌++◌, map, OnOk}
use Rattle.std.specs.List.{flat_map}
use Rattle.std.proofs.Common.{◌≡◌, ◌∙◌, sym, ap, subst}
use Rattle.std.proofs.lemmas.List.Folds.{flat_map-map}
use Rattle.prism_tree.specs.Syntax.{item_of}
use Rattle.prism_check.specs.Views.{demand_by}
use Rattle.prism_check.specs.Demands.{item_demands}
use Rattle.prism_check.proofs.demands.PrismRewardsDemanding.add_demands.Goals as goal

pub returns : goal.returns
returns c =
    subst (λ ds. OnOk c.add_all.result (map demand_by c.add_all.new.list.items ≡ map demand_by c.args.list.now.items ++ ds))
    (ap (flat_map (λ i. item_demands (item_of i))) c.as_slice.ensures ∙ sym (flat_map-map item_demands item_of c.args.self.now.items)) c.add_all.ensures
