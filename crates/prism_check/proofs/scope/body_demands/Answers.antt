use Rattle.std.specs.Prelude.{◌++◌, map}
use Rattle.std.specs.List.{flat_map}
use Rattle.std.proofs.Common.{◌∙◌, sym, ap}
use Rattle.std.proofs.lemmas.List.Folds.{flat_map-map}
use Rattle.prism_tree.specs.Syntax.{formula_of}
use Rattle.prism_check.specs.Demands.{formula_demands}
use Rattle.prism_check.specs.Views.{demand_by}
use Rattle.prism_check.proofs.scope.body_demands.Goals as goal

pub returns : goal.returns
returns c =
    c.in_ok-add_all.ensures
    ∙ ap (λ ds. map demand_by ds ++ flat_map (λ f. formula_demands (formula_of f)) c.args.formulas.now) c.new-list.ensures.items
    ∙ sym (flat_map-map formula_demands formula_of c.args.formulas.now)
