use Rattle.state_choices.proofs.Leading.{no_step}
use Rattle.state_choices.proofs.stepping.has_step_among.Goals as goal

pub returns-then-from-to : goal.returns-then-from-to
returns-then-from-to c = no_step c.args.from.now c.args.to.now c.if-from-to.true c.args.choices.now c.args.label.now
