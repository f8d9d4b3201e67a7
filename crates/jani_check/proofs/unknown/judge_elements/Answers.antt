use Rattle.std.specs.Prelude.{◌≡◌, [], ◌∷◌}
use Rattle.std.specs.List.{flat_map}
use Rattle.std.proofs.Common.{◌∙◌, ap, ap₂}
use Rattle.std.proofs.lemmas.Result.{IfOk-weaker}
use Rattle.name_rules.specs.Least.{soonest}
use Rattle.name_rules.specs.Names.{has_name, is_among}
use Rattle.jani_tree.specs.Syntax.{automaton_of, element_names, element_of, file_of}
use Rattle.jani_check.specs.NameFaults.{automaton_names, unless_known}
use Rattle.jani_check.proofs.Parts.{each_name}
use Rattle.jani_check.proofs.unknown.judge_elements.Goals as goal

pub returns : goal.returns
returns c =
    let file = c.args.file.now in
    let f = file_of file in
    let b = c.args.before in
    let automata : has_name c.in_ok-automata.automata ≡ is_among (automaton_names f) =
    c.in_ok-automata.ensures ∙ ap is_among (each_name (λ a. a.name) automaton_of _ file.automata c.as_slice.ensures) in
    IfOk-weaker c.judge_uses_of.result
    (λ best. best ≡ soonest b (flat_map (unless_known (has_name c.in_ok-automata.automata)) (flat_map (λ e. e.name ∷ []) c.as_slice-2.result.now)))
    (λ best. best ≡ soonest b (flat_map (unless_known (is_among (automaton_names f))) (element_names f)))
    (λ best h. h ∙ ap₂ (λ k ns. soonest b (flat_map (unless_known k) ns)) automata (each_name (λ e. e.name) element_of _ file.elements c.as_slice-2.ensures))
    c.judge_uses_of.ensures
