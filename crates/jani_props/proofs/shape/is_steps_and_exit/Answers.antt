use Rattle.jani_props.proofs.Sums.{few_sums, many_sums}
use Rattle.jani_props.proofs.shape.is_steps_and_exit.Goals as goal

pub returns-in_default : goal.returns-in_default
returns-in_default c = few_sums c.args.items.now c.in_default.len_below

pub returns-in_default-2 : goal.returns-in_default-2
returns-in_default-2 c = many_sums c.args.items.now c.in_default.len_at_least
