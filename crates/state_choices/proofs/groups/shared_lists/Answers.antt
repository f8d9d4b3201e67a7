use Rattle.std.proofs.Common.{◌∙◌, List, ◌∷◌, [], sym, ap, Option, Vec, Global, append-nil}
use Rattle.std.specs.Borrow.{Bor}
use Rattle.std.specs.Option.{option_map}
use Rattle.basics.specs.Options.{if_some}
use Rattle.state_choices.specs.declared.data.Command.{Command}
use Rattle.state_choices.specs.declared.data.Member.{Member}
use Rattle.state_choices.specs.Members.{commands_with}
use Rattle.state_choices.proofs.Gathered.{flat_more}
use Rattle.state_choices.proofs.groups.shared_lists.Goals as goal
use Rattle.state_choices.proofs.groups.shared_lists.Goals.{in-Some+in_ok-push, in_default}

pub loop-member-preserved : goal.loop-member-preserved
loop-member-preserved c =
    let old = c.loop-member.lists.items in
    let new = c.match-commands_with.lists.items in
    let a = c.args.action.now in
    let view = λ (l : Bor (List Command)). l.now in
    let f = λ (m : Member). if_some (commands_with m.parts a) in
    let held = λ (o : Option (Bor (List Command))). if_some (option_map view o) in
    elim c.match-commands_with.branch [
      | in-Some+in_ok-push w ↦
          flat_more view f c.args.members.now c.loop-member.member-index c.member-item.result old new (w.in-Some.commands ∷ []) c.loop-member-test.true c.member-item.is c.loop-member.invariant
          (ap (λ (v : Vec (Bor (List Command)) Global). v.items) w.lists-is ∙ w.in_ok-push.ensures.items)
          (ap held (sym w.in-Some.is) ∙ ap if_some c.commands_with.ensures)
      | in_default w ↦
          flat_more view f c.args.members.now c.loop-member.member-index c.member-item.result old new [] c.loop-member-test.true c.member-item.is c.loop-member.invariant
          (ap (λ (v : Vec (Bor (List Command)) Global). v.items) w.lists-is ∙ sym (append-nil old))
          (ap held (sym w.in_default.is) ∙ ap if_some c.commands_with.ensures)
    ]
