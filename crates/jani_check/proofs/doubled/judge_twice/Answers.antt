use Rattle.std.specs.Prelude.{◌≡◌, map}
use Rattle.std.specs.List.{flat_map}
use Rattle.std.proofs.Common.{◌∙◌, ap}
use Rattle.std.proofs.lemmas.Result.{IfOk-weaker}
use Rattle.bridge_io.specs.declared.reason.Reason.TheVariants.{TwiceNamed}
use Rattle.name_rules.specs.Least.{soonest}
use Rattle.jani_tree.specs.Syntax.{automaton_of, element_of, file_of}
use Rattle.jani_check.specs.NameFaults.{automaton_names, doubled_in, doubled_names, global_names, repeated_enabled}
use Rattle.name_rules.specs.Doubled.{doubled, lowest_of}
use Rattle.name_rules.proofs.Append.{five_parts}
use Rattle.jani_check.proofs.Parts.{each_itself, each_name}
use Rattle.jani_check.proofs.doubled.judge_twice.Goals as goal

pub returns : goal.returns
returns c =
    let f = file_of c.args.file.now in
    let b0 = c.args.before in
    let b1 = c.in_ok-among_global.among_global in
    let b2 = c.in_ok-among_actions.among_actions in
    let b3 = c.in_ok-among_automata.among_automata in
    let b4 = c.in_ok-inside.inside in
    IfOk-weaker c.judge_each.result
    (λ best. best ≡ soonest b4 (flat_map repeated_enabled (map element_of c.as_slice.result.now)))
    (λ best. best ≡ soonest b0 (doubled_names f))
    (λ best h.
    h
    ∙ ap (λ es. soonest b4 (flat_map repeated_enabled (map element_of es))) c.as_slice.ensures
    ∙ five_parts (doubled TwiceNamed (global_names f)) (doubled TwiceNamed f.actions) (doubled TwiceNamed (automaton_names f))
    (flat_map (doubled_in (global_names f)) f.automata) (flat_map repeated_enabled f.elements) b0 b1 b2 b3 b4
    (c.in_ok-among_global.ensures ∙ ap (λ ns. soonest b0 (doubled TwiceNamed ns)) c.requires)
    (c.in_ok-among_actions.ensures ∙ ap (λ ns. soonest b1 (doubled TwiceNamed ns)) (each_itself _ f.actions c.as_slice-actions.ensures))
    (c.in_ok-among_automata.ensures
    ∙ ap (λ ns. soonest b2 (doubled TwiceNamed ns)) (each_name (λ a. a.name) automaton_of _ c.args.file.now.automata c.as_slice-automata.ensures))
    (c.in_ok-inside.ensures (global_names f) (λ x. c.in_ok-lowest.ensures x ∙ ap (lowest_of x) c.requires)
    ∙ ap (λ l. soonest b3 (flat_map (doubled_in (global_names f)) (map automaton_of l))) c.as_slice-automata.ensures))
    c.judge_each.ensures
