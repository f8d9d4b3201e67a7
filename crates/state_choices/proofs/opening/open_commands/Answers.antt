use Rattle.std.proofs.Common.{◌∙◌, ◌∷◌, [], sym, ap, map, true, false, Vec, Global, append-nil}
use Rattle.std.specs.Borrow.{Bor}
use Rattle.std.proofs.lemmas.List.{map-append}
use Rattle.state_choices.specs.declared.data.Command.{Command}
use Rattle.state_choices.specs.Views.{command_of, participants_of}
use Rattle.state_choices.specs.Counted.{may_hold}
use Rattle.state_choices.proofs.Gathered.{kept_more}
use Rattle.state_choices.proofs.opening.open_commands.Goals as goal
use Rattle.state_choices.proofs.opening.open_commands.Goals.{then-may_hold+in_ok-push, else-may_hold}

pub loop-r-preserved : goal.loop-r-preserved
loop-r-preserved c =
    let old = c.loop-r.open.items in
    let new = c.if-may_hold.open.items in
    let x = c.r-item.result in
    let view = λ (r : Bor Command). command_of r.now in
    let opened = λ (v : Vec (Bor Command) Global). participants_of v.items in
    elim c.if-may_hold.branch [
      | then-may_hold+in_ok-push w ↦
          kept_more view may_hold command_of c.args.list.now c.loop-r.r-index x old new true c.loop-r-test.true c.r-item.is c.loop-r.invariant
          (sym w.if-may_hold.true ∙ c.may_hold.ensures)
          (ap opened w.open-is ∙ ap participants_of w.in_ok-push.ensures.items ∙ map-append view old (_ ∷ []))
      | else-may_hold w ↦
          kept_more view may_hold command_of c.args.list.now c.loop-r.r-index x old new false c.loop-r-test.true c.r-item.is c.loop-r.invariant
          (sym w.if-may_hold.false ∙ c.may_hold.ensures)
          (ap opened w.open-is ∙ sym (append-nil (map view old)))
    ]
