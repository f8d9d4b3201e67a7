use Rattle.std.specs.Prelude.{map}
use Rattle.name_rules.specs.Names.{has_name}
use Rattle.name_rules.specs.Rounds.{AreLeading, others}
use Rattle.name_rules.specs.Circles.{declared_by}
use Rattle.name_rules.proofs.circles.is_led_round.Given as goal

abbrev pub invariant-loop-leading : goal.invariant-loop-leading
invariant-loop-leading l = AreLeading (map declared_by l.all) l.declaration.name.now (has_name l.leading)

abbrev pub decreases-loop-leading : goal.decreases-loop-leading
decreases-loop-leading l = others (has_name l.leading) (map declared_by l.all)
