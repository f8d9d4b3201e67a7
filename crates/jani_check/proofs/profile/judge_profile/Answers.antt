use Rattle.std.specs.Prelude.{◌≡◌, ◌++◌, false, map}
use Rattle.std.specs.List.{flat_map}
use Rattle.std.proofs.Common.{◌∙◌, ap, ap₂}
use Rattle.std.proofs.Math.Path.{fun_ext}
use Rattle.std.proofs.lemmas.Result.{IfOk-weaker}
use Rattle.name_rules.specs.Least.{soonest}
use Rattle.jani_tree.specs.Syntax.{automaton_of, file_of, vector_of}
use Rattle.jani_check.specs.Demands.{outer_demands}
use Rattle.jani_check.specs.Phases.{file_by}
use Rattle.jani_check.specs.ProfileFaults.{automaton_profile, branch_rewards, demand_profile, given_after, profile_faults, start_faults, two_writers}
use Rattle.jani_check.specs.Rewarding.{rewarded_in, writers_by}
use Rattle.jani_check.specs.Scopes.{thing_under}
use Rattle.jani_check.specs.Things.{global_thing}
use Rattle.jani_check.proofs.Append.{nested}
use Rattle.name_rules.proofs.Append.{three_parts}
use Rattle.jani_check.proofs.Taking.{writers_are}
use Rattle.jani_check.proofs.profile.judge_profile.Goals as goal

pub returns : goal.returns
returns c =
    let f = file_of c.args.file.now in
    let b0 = c.args.before in
    let b1 = c.in_ok-profiled.profiled in
    let b2 = c.in_ok-given.given in
    let vars = flat_map start_faults f.variables in
    let outside = flat_map (demand_profile (global_thing f)) (outer_demands f) in
    let inside = flat_map (automaton_profile (global_thing f)) f.automata in
    let profiled = file_by start_faults demand_profile (λ things a. flat_map (branch_rewards things) a.edges) f in
    let given = given_after (global_thing f) (λ x. false) f.automata in
    let writers = flat_map (two_writers f) f.vectors in
    let global : thing_under c.in_ok-global.global ≡ global_thing f = fun_ext c.in_ok-global.ensures in
    IfOk-weaker c.judge_each.result
    (λ best. best ≡ soonest b2 (flat_map (writers_by (map rewarded_in c.deref.result.now)) (map vector_of c.as_slice-2.result.now)))
    (λ best. best ≡ soonest b0 (profile_faults f))
    (λ best h.
    h
    ∙ ap₂ (λ k vs. soonest b2 (flat_map (writers_by k) (map vector_of vs))) (ap (map rewarded_in) c.deref.ensures.value ∙ c.in_ok-elements.ensures) c.as_slice-2.ensures
    ∙ ap (λ k. soonest b2 (flat_map k f.vectors)) (writers_are f)
    ∙ three_parts profiled given writers b0 b1 b2 c.in_ok-profiled.ensures
    (c.in_ok-given.ensures ∙ ap₂ (λ k l. soonest b1 (given_after k (λ x. false) (map automaton_of l))) global c.as_slice.ensures)
    ∙ ap (soonest b0) (nested vars outside inside (given ++ writers)))
    c.judge_each.ensures
