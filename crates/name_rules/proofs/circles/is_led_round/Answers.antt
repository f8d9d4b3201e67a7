use Rattle.std.specs.Prelude.{map, bytes_eq, ◌||◌}
use Rattle.std.proofs.Common.{◌∙◌, ap, subst}
use Rattle.std.proofs.Math.Bool.{or-false}
use Rattle.name_rules.specs.Names.{has_name}
use Rattle.name_rules.specs.Circles.{declared_by}
use Rattle.name_rules.specs.Rounds.{IsLeadingTurn}
use Rattle.name_rules.proofs.Leads.{leading_one, circular_is}
use Rattle.name_rules.proofs.Maps.{at}
use Rattle.name_rules.proofs.circles.is_led_round.Goals as goal

pub loop-leading-init : goal.loop-leading-init
loop-leading-init c =
    let name = c.args.declaration.now.name.now in
    c.in_ok-add_found.ensures name
    (leading_one (map declared_by c.args.all.now) name (has_name c.add.new.self)
    (λ x. at c.in_ok-add.ensures x ∙ ap (λ b. bytes_eq name x || b) (at c.requires x) ∙ or-false (bytes_eq name x)))

pub returns-then-not-branch : goal.returns-then-not-branch
returns-then-not-branch c =
    let d = declared_by c.args.declaration.now in
    c.some_use.ensures
    ∙ circular_is (map declared_by c.args.all.now) d (has_name c.add_some.new.leading)
    (c.in_ok-add_some.ensures.leading d.name.name c.loop-leading.invariant)
    (subst (IsLeadingTurn c.args.all.now (has_name c.loop-leading.leading) (has_name c.add_some.new.leading)) c.if-not-branch.true c.in_ok-add_some.ensures.turn)
