use Rattle.std.specs.Prelude.{◌≡◌, map}
use Rattle.std.specs.List.{flat_map}
use Rattle.std.proofs.Common.{◌∙◌, ap, ap₂}
use Rattle.std.proofs.lemmas.Result.{IfOk-weaker}
use Rattle.name_rules.specs.Least.{soonest}
use Rattle.jani_tree.specs.Syntax.{file_of, vector_of}
use Rattle.jani_check.specs.Demands.{outer_demands}
use Rattle.jani_check.specs.NameLists.{names_under}
use Rattle.jani_check.specs.Participants.{clash_by}
use Rattle.jani_check.specs.Phases.{file_by}
use Rattle.jani_check.specs.Things.{global_thing}
use Rattle.jani_check.specs.TypeFaults.{automaton_faults, clashing_writes, demand_faults, repeated_writes, type_faults, var_faults}
use Rattle.jani_check.proofs.Append.{nested}
use Rattle.name_rules.proofs.Append.{soonest_then}
use Rattle.jani_check.proofs.Taking.{clashes_are}
use Rattle.jani_check.proofs.types.judge_types.Goals as goal

pub returns : goal.returns
returns c =
    let f = file_of c.args.file.now in
    let b1 = c.in_ok-typed.typed in
    let vars = flat_map var_faults f.variables in
    let outside = flat_map (demand_faults (global_thing f)) (outer_demands f) in
    let inside = flat_map (automaton_faults (global_thing f)) f.automata in
    IfOk-weaker c.judge_clashes.result
    (λ best. best ≡ soonest b1 (flat_map (clash_by (map names_under c.deref.result.now)) (map vector_of c.as_slice.result.now)))
    (λ best. best ≡ soonest c.args.before (type_faults f))
    (λ best h.
    h
    ∙ ap₂ (λ k vs. soonest b1 (flat_map (clash_by k) (map vector_of vs))) (ap (map names_under) c.deref.ensures.value ∙ c.in_ok-elements.ensures) c.as_slice.ensures
    ∙ ap (λ k. soonest b1 (flat_map k f.vectors)) (clashes_are f)
    ∙ soonest_then c.args.before b1 (file_by var_faults demand_faults (λ things a. repeated_writes a) f) (flat_map (clashing_writes f) f.vectors) c.in_ok-typed.ensures
    ∙ ap (soonest c.args.before) (nested vars outside inside (flat_map (clashing_writes f) f.vectors)))
    c.judge_clashes.ensures
