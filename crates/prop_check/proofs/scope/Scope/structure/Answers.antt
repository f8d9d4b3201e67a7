use Rattle.std.proofs.Common.{◌∙◌, ap}
use Rattle.prism_check.specs.Checked.{Checked}
use Rattle.prop_trees.specs.PrismFaults.{number_by}
use Rattle.prop_check.proofs.Knowing.{number_is}
use Rattle.prop_check.proofs.scope.Scope.structure.Goals as goal

pub returns : goal.returns
returns c =
    let name = c.args.structure.now.name in
    c.place.ensures ∙ c.self.invariant.structures name ∙ number_is c.self.inside.names.value.file name ∙ ap (λ (k : Checked). number_by k.file name) c.self.view_is
