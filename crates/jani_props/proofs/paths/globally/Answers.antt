use Rattle.std.proofs.Common.{ap}
use Rattle.jani_table.specs.Node.{node}
use Rattle.jani_props.specs.declared.words.PropOp.TheVariants as P
use Rattle.jani_props.specs.Shape.{takes_steps}
use Rattle.jani_props.proofs.Cleaned.{has_op, one_unbounded}
use Rattle.jani_props.proofs.Parts.{is_at}
use Rattle.jani_props.proofs.paths.globally.Goals as goal

pub returns : goal.returns
returns c = (has_op (node c.args.value.now) P.Globally c.requires.op, is_at _ _ _ c.required.ensures.member c.in_ok-e.ensures, one_unbounded (node c.args.value.now) c.requires.clean (ap takes_steps c.requires.op))
