use Rattle.std.specs.Prelude.{◌++◌, map, IfOk}
use Rattle.std.specs.List.{flat_map}
use Rattle.std.proofs.Common.{◌≡◌, ◌∙◌, ap, subst}
use Rattle.prism_tree.specs.Syntax.{command_of, var_of}
use Rattle.prism_check.specs.Demands.{command_demands, var_demands}
use Rattle.prism_check.specs.Typing.{faults_in, read_in, repeated_by, soonest_at}
use Rattle.prism_check.specs.Views.{demand_by}
use Rattle.prism_check.proofs.TypesPlaced.{at_then}
use Rattle.prism_check.proofs.types.judge_contents.Goals as goal

pub returns : goal.returns
returns c =
    let place = c.args.spot.place in
    let before = c.args.before in
    let judged = faults_in c.args.names.now c.args.spot.number in
    let demands = flat_map var_demands (map var_of c.args.vars.now) ++ flat_map command_demands (map command_of c.args.commands.now) in
    subst (λ o. IfOk c.judge_repeated.result (λ best. best ≡ o))
    (at_then place before c.judge_demands-first.result (flat_map judged demands) (flat_map (repeated_by (read_in c.args.names.now)) (map command_of c.args.commands.now))
    (c.judge_demands-first.ensures
    ∙ ap (λ ds. soonest_at place before (flat_map judged ds)) (ap (map demand_by) c.deref.ensures.value ∙ c.in_ok-demands.ensures)))
    c.judge_repeated.ensures
