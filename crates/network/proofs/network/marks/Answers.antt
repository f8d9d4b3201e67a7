use Rattle.std.proofs.Common.{◌≡◌, ◌∙◌, ◌++◌, ◌||◌, List, sym, ap, ap₂, map, append_assoc}
use Rattle.std.specs.List.{list_any}
use Rattle.process_core.specs.Answers.{only_wide}
use Rattle.process_core.specs.Choices.{number_of, truth_of}
use Rattle.process_core.specs.declared.data.Mark.{Mark}
use Rattle.process_core.specs.declared.data.Mark.TheVariants.{Truth, Number}
use Rattle.state_choices.proofs.Answering.{handed_on, narrow_then}
use Rattle.state_choices.specs.Views.{seen_of}
use Rattle.network.specs.Network.{has_wide_mark_at, marks_at, setting_in}
use Rattle.network.specs.Views.{look_at, sum_at, value_at, valued_at}
use Rattle.network.proofs.Marking.{values_marks, values_wide}
use Rattle.network.proofs.network.marks.Goals as goal

pub returns-in_err-add_labels : goal.returns-in_err-add_labels
returns-in_err-add_labels g c =
    let m = g.O.Operator.meaning in
    let n = c.args.network.now in
    let s = c.args.s.now.values in
    let k = setting_in n s in
    handed_on (λ (ms : List Mark). ms ≡ marks_at m n s) _ (has_wide_mark_at m n s) c.in_err-add_labels.field-0.0 c.from_residual-in_err-add_labels.result
    c.from_residual-in_err-add_labels.ensures.1
    (λ w. ap (λ b. b || (list_any (λ is. (sum_at (look_at m k) is.items).wide) n.sums.items || list_any (λ t. (value_at m k t).wide) n.structures.items))
    (sym (values_wide m k n.labels.items) ∙ sym (ap₂ (λ z l. list_any (λ t. (seen_of (valued_at m z t)).wide) l) c.here-here.ensures c.as_slice.ensures.value) ∙ w))
    c.in_err-add_labels.ensures.marks

pub returns-in_err-add_sums : goal.returns-in_err-add_sums
returns-in_err-add_sums g c =
    let m = g.O.Operator.meaning in
    let n = c.args.network.now in
    let s = c.args.s.now.values in
    let k = setting_in n s in
    handed_on (λ (ms : List Mark). ms ≡ marks_at m n s) _ (has_wide_mark_at m n s) c.in_err-add_sums.field-0.0 c.from_residual-in_err-add_sums.result
    c.from_residual-in_err-add_sums.ensures.1
    (λ w. ap₂ (λ a b. a || (b || list_any (λ t. (value_at m k t).wide) n.structures.items))
    (sym (values_wide m k n.labels.items) ∙ sym (ap₂ (λ z l. list_any (λ t. (seen_of (valued_at m z t)).wide) l) c.here-here.ensures c.as_slice.ensures.value) ∙ narrow_then _ c.in_ok-add_labels.ensures.marks.0)
    (sym (ap₂ (λ z l. list_any (λ is. (sum_at (look_at m z) is.items).wide) l) c.here-here.ensures c.as_slice-2.ensures.value) ∙ w))
    c.in_err-add_sums.ensures.marks

pub returns-in_err-add_structures : goal.returns-in_err-add_structures
returns-in_err-add_structures g c =
    let m = g.O.Operator.meaning in
    let n = c.args.network.now in
    let s = c.args.s.now.values in
    let k = setting_in n s in
    handed_on (λ (ms : List Mark). ms ≡ marks_at m n s) _ (has_wide_mark_at m n s) c.in_err-add_structures.field-0.0 c.from_residual-in_err-add_structures.result
    c.from_residual-in_err-add_structures.ensures.1
    (λ w. ap₂ (λ a b. a || b)
    (sym (values_wide m k n.labels.items) ∙ sym (ap₂ (λ z l. list_any (λ t. (seen_of (valued_at m z t)).wide) l) c.here-here.ensures c.as_slice.ensures.value) ∙ narrow_then _ c.in_ok-add_labels.ensures.marks.0)
    (ap₂ (λ a b. a || b)
    (sym (ap₂ (λ z l. list_any (λ is. (sum_at (look_at m z) is.items).wide) l) c.here-here.ensures c.as_slice-2.ensures.value) ∙ narrow_then _ c.in_ok-add_sums.ensures.marks.0)
    (sym (values_wide m k n.structures.items) ∙ sym (ap₂ (λ z l. list_any (λ t. (seen_of (valued_at m z t)).wide) l) c.here-here.ensures c.as_slice-3.ensures.value) ∙ w)))
    c.in_err-add_structures.ensures.marks

pub returns : goal.returns
returns g c =
    let m = g.O.Operator.meaning in
    let n = c.args.network.now in
    let s = c.args.s.now.values in
    let k = setting_in n s in
    let labels = ap₂ (λ z l. list_any (λ t. (seen_of (valued_at m z t)).wide) l) c.here-here.ensures c.as_slice.ensures.value in
    let sums = ap₂ (λ z l. list_any (λ is. (sum_at (look_at m z) is.items).wide) l) c.here-here.ensures c.as_slice-2.ensures.value in
    let structures = ap₂ (λ z l. list_any (λ t. (seen_of (valued_at m z t)).wide) l) c.here-here.ensures c.as_slice-3.ensures.value in
    let no_label = sym labels ∙ narrow_then _ c.in_ok-add_labels.ensures.marks.0 in
    let no_sum = sym sums ∙ narrow_then _ c.in_ok-add_sums.ensures.marks.0 in
    let no_structure = sym structures ∙ narrow_then _ c.in_ok-add_structures.ensures.marks.0 in (
      ap only_wide (ap₂ (λ a b. a || b) (sym (values_wide m k n.labels.items) ∙ no_label) (ap₂ (λ a b. a || b) no_sum (sym (values_wide m k n.structures.items) ∙ no_structure))),
      c.in_ok-add_structures.ensures.marks.1
          ∙ ap₂ (λ a b. a ++ b)
          (c.in_ok-add_sums.ensures.marks.1
          ∙ ap₂ (λ a b. a ++ b)
          (c.in_ok-add_labels.ensures.marks.1
          ∙ ap₂ (λ a b. a ++ b) c.in_ok-all.ensures
          (ap₂ (λ z l. map (λ t. Truth (truth_of (seen_of (valued_at m z t)).value)) l) c.here-here.ensures c.as_slice.ensures.value ∙ values_marks m k n.labels.items (λ o. Truth (truth_of o)) no_label))
          (ap₂ (λ z l. map (λ is. Number (sum_at (look_at m z) is.items).value) l) c.here-here.ensures c.as_slice-2.ensures.value))
          (ap₂ (λ z l. map (λ t. Number (number_of (seen_of (valued_at m z t)).value)) l) c.here-here.ensures c.as_slice-3.ensures.value ∙ values_marks m k n.structures.items (λ o. Number (number_of o)) no_structure)
          ∙ append_assoc (map (λ t. Truth (truth_of (value_at m k t).value)) n.labels.items) _ _,
    )
