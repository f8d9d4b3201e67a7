use Rattle.std.proofs.Common.{◌∙◌, sym, ap, map, Vec, Global}
use Rattle.std.specs.Borrow.{Bor}
use Rattle.basics.specs.Lists.{at_take_all}
use Rattle.process_core.specs.Product.{map-map}
use Rattle.process_core.specs.Ready.{Ready}
use Rattle.state_choices.specs.declared.data.Command.{Command}
use Rattle.state_choices.specs.declared.data.Update.{Update}
use Rattle.state_choices.specs.Views.{command_of, update_of, updates_of}
use Rattle.state_choices.proofs.Gathered.{ways_answered}
use Rattle.state_choices.proofs.branches.ways.Goals as goal

pub returns : goal.returns
returns c =
    ways_answered (λ (v : Vec (Bor Update) Global). v.items) (λ (u : Bor Update). update_of u.now) c.one_of_each.result c.as_slice-2.result.now _
    (ap (map (λ (v : Vec (Bor Update) Global). updates_of v.items)) c.as_slice-2.ensures.value
    ∙ c.loop-r.invariant
    ∙ at_take_all (map (λ (r : Bor Command). (command_of r.now).updates)) c.args.participants.now c.loop-r.r-index c.loop-r-test.false
    ∙ sym (map-map (λ (r : Ready). r.updates) (λ (r : Bor Command). command_of r.now) c.args.participants.now))
    c.one_of_each.ensures
