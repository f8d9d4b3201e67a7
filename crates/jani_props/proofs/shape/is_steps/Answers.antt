use Rattle.jani_props.proofs.Sums.{no_steps}
use Rattle.jani_props.proofs.shape.is_steps.Goals as goal

pub returns-in_default-2 : goal.returns-in_default-2
returns-in_default-2 c = no_steps c.args.items.now c.in_default.len_at_least
