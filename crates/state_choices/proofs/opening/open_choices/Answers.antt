use Rattle.std.proofs.Common.{◌≡◌, ◌∙◌, sym, map, List}
use Rattle.process_core.specs.Choices.{choices}
use Rattle.state_choices.specs.Open.{open_choice}
use Rattle.state_choices.specs.declared.open.OpenChoice.{OpenChoice}
use Rattle.state_choices.specs.Views.{group_of}
use Rattle.state_choices.specs.Groups.{of_groups}
use Rattle.state_choices.proofs.Answering.{wide_first, many_next, as_whole, all_of}
use Rattle.state_choices.proofs.Loops.{wide_guards}
use Rattle.state_choices.proofs.opening.open_choices.Goals as goal

pub returns-then-has_wide_guard : goal.returns-then-has_wide_guard
returns-then-has_wide_guard c s =
    wide_first _ _ _ (sym (wide_guards c.args.groups.now) ∙ sym c.has_wide_guard.ensures ∙ c.if-has_wide_guard.true)

pub returns-then-is_too_many : goal.returns-then-is_too_many
returns-then-is_too_many c s =
    many_next _ _ _ (sym (wide_guards c.args.groups.now) ∙ sym c.has_wide_guard.ensures ∙ c.if-has_wide_guard.false) (sym c.is_too_many.ensures ∙ c.if-is_too_many.true)

pub returns-in_err-all : goal.returns-in_err-all
returns-in_err-all c s =
    let Is = λ (cs : List OpenChoice). map (open_choice s) cs ≡ choices s (of_groups (map group_of c.args.groups.now)) in
    as_whole Is _ _ _ c.in_err-all.field-0.0 c.from_residual.result (sym (wide_guards c.args.groups.now) ∙ sym c.has_wide_guard.ensures ∙ c.if-has_wide_guard.false)
    (sym c.is_too_many.ensures ∙ c.if-is_too_many.false) c.from_residual.ensures.1 (c.in_err-all.ensures s)

pub returns : goal.returns
returns c s = (
  all_of _ _ _ (sym (wide_guards c.args.groups.now) ∙ sym c.has_wide_guard.ensures ∙ c.if-has_wide_guard.false) (sym c.is_too_many.ensures ∙ c.if-is_too_many.false) (c.in_ok-all.ensures s).0,
  (c.in_ok-all.ensures s).1,
)
