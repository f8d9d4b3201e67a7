use Rattle.std.specs.Prelude.{◌≡◌, ◌++◌, [], map}
use Rattle.std.specs.List.{flat_map}
use Rattle.std.proofs.Common.{◌∙◌, ap, ap₂, append_assoc}
use Rattle.std.proofs.lemmas.Result.{IfOk-weaker}
use Rattle.name_rules.specs.Least.{soonest}
use Rattle.basics.specs.Lists.{flat_map_of}
use Rattle.jani_tree.specs.Syntax.{element_names, element_of, file_of, vector_of}
use Rattle.jani_check.specs.Demands.{outer_demands}
use Rattle.jani_check.specs.NameFaults.{automaton_names, global_names, unknown_by, unknown_enabled, unknown_in, unknown_names, unknown_within, unless_known, vector_actions}
use Rattle.name_rules.specs.Names.{is_among}
use Rattle.jani_check.specs.Phases.{file_by}
use Rattle.jani_check.specs.Scopes.{is_known}
use Rattle.name_rules.specs.Names.{has_name}
use Rattle.name_rules.proofs.Append.{four_parts}
use Rattle.jani_check.proofs.Known.{file_known}
use Rattle.jani_check.proofs.unknown.judge_by_actions.Goals as goal

pub returns : goal.returns
returns c =
    let file = c.args.file.now in
    let f = file_of file in
    let b0 = c.args.before in
    let b1 = c.in_ok-inside.inside in
    let b2 = c.in_ok-elements.elements in
    let inside = file_by (λ x. []) (λ things. unknown_by (is_known things)) (λ things. unknown_within (is_among f.actions)) f in
    let outside = flat_map (unknown_by (is_among (global_names f))) (outer_demands f) in
    let within = flat_map (unknown_in (is_among (global_names f)) (is_among f.actions)) f.automata in
    let elements = flat_map (unless_known (is_among (automaton_names f))) (element_names f) in
    let b3 = c.in_ok-vectors.vectors in
    let vectors = flat_map (unless_known (is_among f.actions)) (flat_map vector_actions f.vectors) in
    let enabled = flat_map (unknown_enabled (is_among f.actions)) f.elements in
    IfOk-weaker c.judge_each.result
    (λ best. best ≡ soonest b3 (flat_map (unknown_enabled (has_name c.args.actions.now)) (map element_of c.as_slice-2.result.now)))
    (λ best. best ≡ soonest b0 (unknown_names f))
    (λ best h.
    h
    ∙ ap₂ (λ k es. soonest b3 (flat_map (unknown_enabled k) (map element_of es))) c.requires c.as_slice-2.ensures
    ∙ four_parts inside elements vectors enabled b0 b1 b2 b3
    (c.in_ok-inside.ensures ∙ ap (λ k. soonest b0 (file_by (λ x. []) (λ things. unknown_by (is_known things)) (λ things. unknown_within k) f)) c.requires)
    c.in_ok-elements.ensures
    (c.in_ok-vectors.ensures
    ∙ ap₂ (λ k ns. soonest b2 (flat_map (unless_known k) ns)) c.requires (flat_map_of vector_actions vector_of _ file.vectors c.as_slice.ensures))
    ∙ ap (λ l. soonest b0 (l ++ (elements ++ (vectors ++ enabled)))) (file_known f (is_among f.actions))
    ∙ ap (soonest b0) (append_assoc outside within (elements ++ (vectors ++ enabled))))
    c.judge_each.ensures
