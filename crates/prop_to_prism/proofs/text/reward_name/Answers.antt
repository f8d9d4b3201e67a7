use Rattle.std.proofs.Common.{◌∙◌}
use Rattle.prop_to_prism.proofs.Texts.{name_numbered}
use Rattle.prop_to_prism.proofs.text.reward_name.Goals as goal

pub returns : goal.returns
returns c = c.name_at.ensures ∙ name_numbered c.args.rewards.now c.args.i
