use Rattle.std.proofs.Common.{◌≡◌, ◌∙◌, ◌++◌, ◌||◌, List, sym, ap, ap₂, map}
use Rattle.std.specs.List.{list_any}
use Rattle.process_core.specs.Answers.{only_wide}
use Rattle.process_core.specs.Choices.{number_of, truth_of}
use Rattle.process_core.specs.declared.data.Mark.{Mark}
use Rattle.process_core.specs.declared.data.Mark.TheVariants.{Truth, Number}
use Rattle.process_core.specs.Ready.{Values}
use Rattle.jani_tree.specs.Syntax.{file_of}
use Rattle.jani_meaning.specs.Moment.{moment}
use Rattle.jani_meaning.specs.Process.{marks, has_wide_mark}
use Rattle.state_choices.specs.Trimmed.{computed}
use Rattle.state_choices.proofs.Answering.{handed_on, narrow_then}
use Rattle.instance_start.specs.Given.{given_by}
use Rattle.jani_instance.specs.Views.{setting_of, transient_value}
use Rattle.jani_instance.proofs.StateMarks.{marks_wide, marks_are}
use Rattle.jani_instance.proofs.instance.marks_at.Goals as goal

pub returns-in_err-add_labels : goal.returns-in_err-add_labels
returns-in_err-add_labels c =
    let i = c.args.instance.now in
    let k = setting_of c.here-here.result in
    let m = λ (z : Values). moment (file_of i.checked.now) (given_by i.given.now) z in
    let s = c.args.s.now.values in
    let labels = ap (map (transient_value k)) c.labels.ensures ∙ c.here-here.ensures.right.labels ∙ ap (λ z. map computed (m z).labels) c.here-here.ensures.values in
    handed_on (λ (ms : List Mark). ms ≡ marks (m s)) _ (has_wide_mark (m s)) c.in_err-add_labels.field-0.0 c.from_residual.result
    c.from_residual.ensures.1
    (λ w. ap (λ b. b || list_any (λ r. r.wide) (m s).rewards) (sym (marks_wide (transient_value k) c.labels.result.now (m s).labels labels) ∙ w))
    c.in_err-add_labels.ensures.marks

pub returns-in_err-add_rewards : goal.returns-in_err-add_rewards
returns-in_err-add_rewards c =
    let i = c.args.instance.now in
    let k = setting_of c.here-here.result in
    let m = λ (z : Values). moment (file_of i.checked.now) (given_by i.given.now) z in
    let s = c.args.s.now.values in
    let labels = ap (map (transient_value k)) c.labels.ensures ∙ c.here-here.ensures.right.labels ∙ ap (λ z. map computed (m z).labels) c.here-here.ensures.values in
    let rewards = ap (map (transient_value k)) c.structures.ensures ∙ c.here-here.ensures.right.rewards ∙ ap (λ z. map computed (m z).rewards) c.here-here.ensures.values in
    handed_on (λ (ms : List Mark). ms ≡ marks (m s)) _ (has_wide_mark (m s)) c.in_err-add_rewards.field-0.0 c.from_residual-in_err-add_rewards.result
    c.from_residual-in_err-add_rewards.ensures.1
    (λ w. ap₂ (λ a b. a || b) (sym (marks_wide (transient_value k) c.labels.result.now (m s).labels labels) ∙ narrow_then _ c.in_ok-add_labels.ensures.marks.0)
    (sym (marks_wide (transient_value k) c.structures.result.now (m s).rewards rewards) ∙ w))
    c.in_err-add_rewards.ensures.marks

pub returns : goal.returns
returns c =
    let i = c.args.instance.now in
    let k = setting_of c.here-here.result in
    let m = λ (z : Values). moment (file_of i.checked.now) (given_by i.given.now) z in
    let s = c.args.s.now.values in
    let labels = ap (map (transient_value k)) c.labels.ensures ∙ c.here-here.ensures.right.labels ∙ ap (λ z. map computed (m z).labels) c.here-here.ensures.values in
    let rewards = ap (map (transient_value k)) c.structures.ensures ∙ c.here-here.ensures.right.rewards ∙ ap (λ z. map computed (m z).rewards) c.here-here.ensures.values in
    let no_label = sym (marks_wide (transient_value k) c.labels.result.now (m s).labels labels) ∙ narrow_then _ c.in_ok-add_labels.ensures.marks.0 in
    let no_reward = sym (marks_wide (transient_value k) c.structures.result.now (m s).rewards rewards) ∙ narrow_then _ c.in_ok-add_rewards.ensures.marks.0 in (
      ap only_wide (ap₂ (λ a b. a || b) no_label no_reward),
      c.in_ok-add_rewards.ensures.marks.1
          ∙ ap₂ (λ a b. a ++ b)
          (c.in_ok-add_labels.ensures.marks.1 ∙ ap₂ (λ a b. a ++ b) c.new-all.ensures (marks_are (transient_value k) (λ o. Truth (truth_of o)) c.labels.result.now (m s).labels labels no_label))
          (marks_are (transient_value k) (λ o. Number (number_of o)) c.structures.result.now (m s).rewards rewards no_reward),
    )
