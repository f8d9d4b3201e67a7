use Rattle.std.specs.Prelude.{◌≡◌, [], ◌∷◌, List, map}
use Rattle.std.specs.List.{flat_map}
use Rattle.std.proofs.Common.{◌∙◌, ap}
use Rattle.std.proofs.lemmas.Result.{IfOk-weaker}
use Rattle.bridge_io.specs.declared.reason.Named.{Named}
use Rattle.bridge_io.specs.declared.reason.Reason.TheVariants.{TwiceNamed}
use Rattle.name_rules.specs.Least.{soonest}
use Rattle.jani_tree.specs.Syntax.{automaton_of, location_of, var_of}
use Rattle.jani_check.specs.NameFaults.{doubled_in, location_names, var_names}
use Rattle.name_rules.specs.Doubled.{doubled, doubled_after, IsLowest}
use Rattle.name_rules.specs.Names.{named_by}
use Rattle.name_rules.proofs.Append.{three_parts}
use Rattle.jani_check.proofs.Parts.{each_itself, each_name}
use Rattle.jani_check.proofs.doubled.judge_automaton.Goals as goal

pub returns : goal.returns
returns c =
    let a = automaton_of c.args.a.now in
    let b0 = c.args.before in
    let b1 = c.in_ok-among_vars.among_vars in
    let b2 = c.in_ok-among_locations.among_locations in
    IfOk-weaker c.judge_names_of-2.result
    (λ best. best ≡ soonest b2 (doubled TwiceNamed (flat_map (λ n. n ∷ []) c.as_slice-initial.result.now)))
    (λ best. (ns : List Named) → IsLowest c.args.global.now ns → best ≡ soonest b0 (doubled_in ns a))
    (λ best h ns known.
    h
    ∙ ap (λ ls. soonest b2 (doubled TwiceNamed ls)) (each_itself _ a.initial c.as_slice-initial.ensures)
    ∙ three_parts (doubled_after TwiceNamed ns (var_names a.variables)) (doubled TwiceNamed (location_names a)) (doubled TwiceNamed a.initial) b0 b1 b2
    (c.in_ok-among_vars.ensures ns known
    ∙ ap (λ xs. soonest b0 (doubled_after TwiceNamed ns xs))
    (ap (map named_by) c.deref.ensures.value ∙ c.in_ok-vars.ensures ∙ each_name (λ x. x.name) var_of _ c.args.a.now.variables c.as_slice.ensures))
    (c.in_ok-among_locations.ensures
    ∙ ap (λ ls. soonest b1 (doubled TwiceNamed ls)) (each_name (λ l. l.name) location_of _ c.args.a.now.locations c.as_slice-locations.ensures)))
    c.judge_names_of-2.ensures
