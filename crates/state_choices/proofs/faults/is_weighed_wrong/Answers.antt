use Rattle.std.proofs.Common.{◌≡◌, ◌∙◌, sym, ap, ap₂, Bool, ◌||◌, map, take, ◌+◌, refl}
use Rattle.std.specs.Borrow.{Bor}
use Rattle.std.specs.List.{list_any}
use Rattle.basics.specs.Lists.{at_take_all}
use Rattle.process_core.specs.Choices.{weights_of, weighs_wrong}
use Rattle.process_core.specs.Bounds.{has_wide_sum, if_all}
use Rattle.process_core.specs.Answers.{only_wide}
use Rattle.state_choices.specs.declared.data.Command.{Command}
use Rattle.state_choices.specs.Views.{command_of, update_of}
use Rattle.state_choices.proofs.Gathered.{any_here}
use Rattle.state_choices.proofs.Gathering.{any_more}
use Rattle.state_choices.proofs.Answering.{narrow_then, handed_on}
use Rattle.state_choices.proofs.faults.is_weighed_wrong.Goals as goal
use Rattle.state_choices.proofs.faults.is_weighed_wrong.Goals.{then-is_wrong, else-is_wrong}

pub returns-in_err-this : goal.returns-in_err-this
returns-in_err-this c =
    let W = λ (r : Bor Command). if_all (weights_of (command_of r.now).updates) has_wide_sum in
    let Is = λ (b : Bool). b ≡ list_any (λ (r : Bor Command). weighs_wrong (weights_of (command_of r.now).updates)) c.args.participants.now in
    handed_on Is _ _ c.in_err-this.field-0.0 c.from_residual.result c.from_residual.ensures.1
    (λ w. any_here W c.args.participants.now c.loop-r.r-index c.r-item.result c.loop-r-test.true c.r-item.is
    (ap (λ us. if_all (weights_of (map update_of us)) has_wide_sum) (sym c.as_slice.ensures) ∙ w)) c.in_err-this.ensures

pub loop-r-preserved : goal.loop-r-preserved
loop-r-preserved c =
    let W = λ (r : Bor Command). if_all (weights_of (command_of r.now).updates) has_wide_sum in
    let P = λ (r : Bor Command). weighs_wrong (weights_of (command_of r.now).updates) in
    let rs = c.args.participants.now in
    let i = c.loop-r.r-index in
    let here : c.in_ok-this.this ≡ P c.r-item.result = c.in_ok-this.ensures.1 ∙ ap (λ us. weighs_wrong (weights_of (map update_of us))) c.as_slice.ensures in
    let more : (c.loop-r.is_wrong || c.in_ok-this.this) ≡ list_any P (take (i + 1) rs) =
    ap (λ b. c.loop-r.is_wrong || b) here ∙ any_more P rs i c.r-item.result c.loop-r.is_wrong c.loop-r-test.true c.r-item.is c.loop-r.invariant.wrong in
    record {
      narrow =
          sym (any_more W rs i c.r-item.result (list_any W (take i rs)) c.loop-r-test.true c.r-item.is refl)
          ∙ ap₂ (λ a b. a || b) c.loop-r.invariant.narrow (ap (λ us. if_all (weights_of (map update_of us)) has_wide_sum) (sym c.as_slice.ensures) ∙ narrow_then _ c.in_ok-this.ensures.0);
      wrong =
          elim c.if-is_wrong.branch [
            | then-is_wrong w ↦ w.is_wrong-is ∙ w.if-is_wrong.true ∙ ap (λ b. b || c.in_ok-this.this) (sym w.if-is_wrong.true) ∙ more
            | else-is_wrong w ↦ w.is_wrong-is ∙ ap (λ b. b || c.in_ok-this.this) (sym w.if-is_wrong.false) ∙ more
          ];
    }

pub returns : goal.returns
returns c =
    let W = λ (r : Bor Command). if_all (weights_of (command_of r.now).updates) has_wide_sum in
    let P = λ (r : Bor Command). weighs_wrong (weights_of (command_of r.now).updates) in
    let rs = c.args.participants.now in (
      ap only_wide (sym (at_take_all (list_any W) rs c.loop-r.r-index c.loop-r-test.false) ∙ c.loop-r.invariant.narrow),
      c.loop-r.invariant.wrong ∙ at_take_all (list_any P) rs c.loop-r.r-index c.loop-r-test.false,
    )
