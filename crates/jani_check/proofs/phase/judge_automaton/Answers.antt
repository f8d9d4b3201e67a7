use Rattle.std.specs.Prelude.{◌≡◌, map}
use Rattle.std.specs.List.{flat_map}
use Rattle.std.specs.Option.{option_map, option_or as or_else}
use Rattle.std.proofs.Common.{◌∙◌, ap}
use Rattle.std.proofs.Math.Path.{fun_ext}
use Rattle.std.proofs.lemmas.Result.{IfOk-weaker}
use Rattle.name_rules.specs.Least.{soonest}
use Rattle.jani_tree.specs.Syntax.{automaton_of, var_of}
use Rattle.jani_check.specs.Demands.{automaton_demands}
use Rattle.jani_check.specs.Phases.{automaton_by}
use Rattle.jani_check.specs.Scopes.{thing_under}
use Rattle.jani_check.specs.Things.{beside, var_called, var_thing}
use Rattle.jani_check.specs.Views.{demand_by}
use Rattle.name_rules.proofs.Append.{three_parts}
use Rattle.jani_check.proofs.phase.judge_automaton.Goals as goal

pub returns : goal.returns
returns g c =
    let a = automaton_of c.args.a.now in
    let b0 = c.args.before in
    let b1 = c.judge_vars-in_vars.result in
    let b2 = c.judge_demands-in_demands.result in
    let of_var = g.P.Phase.of_var in
    let of_demand = g.P.Phase.of_demand in
    let of_rest = g.P.Phase.of_rest c.args.phase.now in
    let global = thing_under c.args.global.now in
    let own = thing_under c.in_ok-own.own in
    let things : (λ x. or_else (global x) (own x)) ≡ beside global a.variables =
    fun_ext (λ x. ap (or_else (global x)) (c.in_ok-own.ensures x ∙ ap (λ vs. option_map var_thing (var_called (map var_of vs) x)) c.as_slice-2.ensures)) in
    IfOk-weaker c.judge_rest.result (λ best. best ≡ soonest b2 (of_rest (λ x. or_else (global x) (own x)) a)) (λ best. best ≡ soonest b0 (automaton_by of_var of_demand of_rest global a))
    (λ best h.
    h
    ∙ ap (λ k. soonest b2 (of_rest k a)) things
    ∙ three_parts (flat_map of_var a.variables) (flat_map (of_demand (beside global a.variables)) (automaton_demands a)) (of_rest (beside global a.variables) a) b0 b1 b2
    (c.judge_vars-in_vars.ensures ∙ ap (λ vs. soonest b0 (flat_map of_var (map var_of vs))) c.as_slice.ensures)
    (c.judge_demands-in_demands.ensures
    ∙ ap (λ ds. soonest b1 (flat_map (of_demand (λ x. or_else (global x) (own x))) ds)) (ap (map demand_by) c.deref.ensures.value ∙ c.in_ok-demands.ensures)
    ∙ ap (λ k. soonest b1 (flat_map (of_demand k) (automaton_demands a))) things))
    c.judge_rest.ensures
