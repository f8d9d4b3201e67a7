use Rattle.std.specs.Prelude.{◌≡◌, map, length, nat_eq}
use Rattle.std.specs.List.{flat_map}
use Rattle.std.proofs.Common.{◌∙◌, ap, ap₂, sym}
use Rattle.std.proofs.lemmas.List.{length-map}
use Rattle.jani_tree.specs.Laws.{element_count}
use Rattle.std.proofs.lemmas.Result.{IfOk-weaker}
use Rattle.bridge_io.specs.declared.reason.Reason.TheVariants.{Nothing, RepeatedAutomaton}
use Rattle.name_rules.specs.Least.{soonest, fault_if}
use Rattle.jani_tree.specs.Syntax.{element_names, element_of, file_of, vector_of}
use Rattle.jani_check.specs.NameFaults.{bad_vector, composition_faults, no_element, repeated_elements}
use Rattle.name_rules.specs.Doubled.{doubled}
use Rattle.name_rules.proofs.Append.{three_parts}
use Rattle.jani_check.proofs.Parts.{each_name}
use Rattle.jani_check.proofs.composition.judge_composition.Goals as goal

pub returns : goal.returns
returns c =
    let file = c.args.file.now in
    let f = file_of file in
    let count : c.len-count.result ≡ length (element_names f) = c.len-count.ensures ∙ sym (length-map file.elements element_of) ∙ sym (element_count f) in
    IfOk-weaker c.judge_each.result
    (λ best. best ≡ soonest c.sooner_if-some.result (flat_map (bad_vector c.len-count.result) (map vector_of c.as_slice.result.now)))
    (λ best. best ≡ soonest c.args.before (composition_faults f))
    (λ best h.
    h
    ∙ ap₂ (λ n vs. soonest c.sooner_if-some.result (flat_map (bad_vector n) (map vector_of vs))) count c.as_slice.ensures
    ∙ three_parts (repeated_elements f) (no_element f) (flat_map (bad_vector (length (element_names f))) f.vectors) c.args.before c.in_ok-among.among c.sooner_if-some.result
    (c.in_ok-among.ensures ∙ ap (λ ns. soonest c.args.before (doubled RepeatedAutomaton ns)) (each_name (λ e. e.name) element_of _ file.elements c.as_slice-elements.ensures))
    (c.sooner_if-some.ensures ∙ ap (λ n. soonest c.in_ok-among.among (fault_if (nat_eq n 0) f.elements_at Nothing)) count))
    c.judge_each.ensures
