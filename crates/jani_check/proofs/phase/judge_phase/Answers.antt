use Rattle.std.specs.Prelude.{◌≡◌, map}
use Rattle.std.specs.List.{flat_map}
use Rattle.std.proofs.Common.{◌∙◌, ap, ap₂}
use Rattle.std.proofs.Math.Path.{fun_ext}
use Rattle.std.proofs.lemmas.Result.{IfOk-weaker}
use Rattle.name_rules.specs.Least.{soonest}
use Rattle.jani_tree.specs.Syntax.{automaton_of, file_of, var_of}
use Rattle.jani_check.specs.Demands.{outer_demands}
use Rattle.jani_check.specs.Phases.{automaton_by, file_by}
use Rattle.jani_check.specs.Scopes.{thing_under}
use Rattle.jani_check.specs.Things.{global_thing}
use Rattle.name_rules.proofs.Append.{three_parts}
use Rattle.jani_check.proofs.phase.judge_phase.Goals as goal

pub returns : goal.returns
returns g c =
    let f = file_of c.args.file.now in
    let b0 = c.args.before in
    let b1 = c.judge_vars-in_vars.result in
    let b2 = c.in_ok-outside.outside in
    let of_var = g.P.Phase.of_var in
    let of_demand = g.P.Phase.of_demand in
    let of_rest = g.P.Phase.of_rest c.args.phase.now in
    let global : thing_under c.args.global.now ≡ global_thing f = fun_ext c.requires in
    IfOk-weaker c.judge_automata.result
    (λ best. best ≡ soonest b2 (flat_map (automaton_by of_var of_demand of_rest (thing_under c.args.global.now)) (map automaton_of c.as_slice-2.result.now)))
    (λ best. best ≡ soonest b0 (file_by of_var of_demand of_rest f))
    (λ best h.
    h
    ∙ ap₂ (λ k l. soonest b2 (flat_map (automaton_by of_var of_demand of_rest k) (map automaton_of l))) global c.as_slice-2.ensures
    ∙ three_parts (flat_map of_var f.variables) (flat_map (of_demand (global_thing f)) (outer_demands f)) (flat_map (automaton_by of_var of_demand of_rest (global_thing f)) f.automata) b0 b1 b2
    (c.judge_vars-in_vars.ensures ∙ ap (λ vs. soonest b0 (flat_map of_var (map var_of vs))) c.as_slice.ensures)
    (c.in_ok-outside.ensures ∙ ap (λ k. soonest b1 (flat_map (of_demand k) (outer_demands f))) global))
    c.judge_automata.ensures
