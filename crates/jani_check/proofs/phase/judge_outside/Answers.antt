use Rattle.std.specs.Prelude.{map}
use Rattle.std.specs.List.{flat_map}
use Rattle.std.proofs.Common.{◌∙◌, ap}
use Rattle.name_rules.specs.Least.{soonest}
use Rattle.jani_tree.specs.Syntax.{file_of}
use Rattle.jani_check.specs.Demands.{outer_demands}
use Rattle.jani_check.specs.Scopes.{thing_under}
use Rattle.std.specs.Option.{option_or as or_else}
use Rattle.jani_check.specs.Views.{demand_by}
use Rattle.jani_check.proofs.Taking.{alone}
use Rattle.jani_check.proofs.phase.judge_outside.Goals as goal

pub returns : goal.returns
returns g c =
    let global = thing_under c.args.global.now in
    let own = thing_under c.in_ok-own.own in
    c.judge_demands.ensures
    ∙ ap (λ ds. soonest c.args.before (flat_map (g.P.Phase.of_demand (λ x. or_else (global x) (own x))) ds)) (ap (map demand_by) c.deref.ensures.value ∙ c.in_ok-demands.ensures)
    ∙ ap (λ k. soonest c.args.before (flat_map (g.P.Phase.of_demand k) (outer_demands (file_of c.args.file.now)))) (alone global own c.in_ok-own.ensures)
