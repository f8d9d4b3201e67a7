use Rattle.std.proofs.Common.{◌≤◌, ◌∙◌, [], ap, sym, map, arith}
use Rattle.std.specs.Prelude.{unwrap_or}
use Rattle.gathering.specs.Lists.{list_for}
use Rattle.state_choices.specs.Views.{command_of}
use Rattle.instance_start.proofs.Numbered.{counted_at, counted_past}
use Rattle.jani_instance.proofs.groups.part_of.Goals as goal

pub returns-then-part-member : goal.returns-then-part-member
returns-then-part-member c =
    let m = c.args.member.now in
    ap (map command_of) c.get.ensures ∙ sym (ap (λ o. unwrap_or o []) (counted_at (λ k. map command_of (list_for m.acting k)) m.actions c.args.part c.if-part-member.true))

pub returns-else-part-member : goal.returns-else-part-member
returns-else-part-member c =
    let m = c.args.member.now in
    let past = c.if-part-member.false in
    sym (ap (λ o. unwrap_or o []) (counted_past (λ k. map command_of (list_for m.acting k)) m.actions c.args.part (let d : m.actions ≤ c.args.part = omega (arith, past) in d)))
